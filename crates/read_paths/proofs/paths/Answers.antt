-- `read_paths::paths` meets its contract: each path is read, and then the end of the text. Assumes nothing.
use borrow.Author.Rules.{rules}
use mathlib.Core.Path.{◌≡◌, refl}
use Rattle.std.specs.Prelude.{Err}
use Rattle.paper.specs.Limits.{bracket_limit}
use Rattle.paper.specs.Reading.{read_within}
use Rattle.heads.specs.Heads.{look_of}
use Rattle.read_paths.proofs.Runs.{passed_on}
use Rattle.read_paths.proofs.Queries.{paths_start, paths_stuck, paths_more, paths_done}
use Rattle.read_paths.proofs.paths.Goals as goal

pub loop-one-init : goal.loop-one-init
loop-one-init c = (refl, paths_start _ _ _ _)

pub returns-in_err-one-clause-reads_all : goal.returns-in_err-one-clause-reads_all
returns-in_err-one-clause-reads_all c =
    let newer = c.args.newer in
    let look = look_of c.args.names in
    let made : c.from_residual.result ≡ Err c.in_err-one.field-0.0 = search rules in
    rw made (passed_on _ _ _ c.in_err-one.ensures (paths_stuck newer look (read_within newer look bracket_limit) _ _ _ _ _ _ c.loop-one.invariant.1))

pub returns-in_default-clause-reads_all : goal.returns-in_default-clause-reads_all
returns-in_default-clause-reads_all c =
    let newer = c.args.newer in
    let look = look_of c.args.names in
    paths_done newer look (read_within newer look bracket_limit) _ _ _ _ _ _ c.loop-one.invariant.1 _ _ _ c.in_ok-one.ensures c.finished.result c.in_default.ensures.0 c.finished.ensures.finishes

pub loop-one-preserved : goal.loop-one-preserved
loop-one-preserved c =
    let newer = c.args.newer in
    let look = look_of c.args.names in
    let m = c.in-Ok.ensures in
    (search rules, paths_more newer look (read_within newer look bracket_limit) _ _ _ _ _ _ c.loop-one.invariant.1 _ _ _ c.in_ok-one.ensures _ m.0 m.2)
