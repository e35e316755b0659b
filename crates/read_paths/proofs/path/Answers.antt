-- `read_paths::path` meets its contract: `/` alone, or what stands before steps. Assumes nothing.
use Prim.Native.Nat.{ℕ}
use borrow.Author.Rules.{rules}
use mathlib.Core.Path.{◌≡◌}
use Rattle.std.specs.Prelude.{Ok, Err}
use Rattle.paper.specs.Limits.{bracket_limit}
use Rattle.paper.specs.Reading.{read_within}
use Rattle.paper.specs.declared.Refusal.TheVariants.{NoQuery}
use Rattle.ahead.specs.declared.Lead.TheVariants.{Alone, Before}
use Rattle.heads.specs.Heads.{look_of}
use Rattle.read_paths.proofs.Queries.{path_alone, path_before, path_none}
use Rattle.read_paths.proofs.path.Goals as goal

pub returns-in_err-lead : goal.returns-in_err-lead
returns-in_err-lead c =
    let newer = c.args.newer in
    let look = look_of c.args.names in
    let (place, other, made) : (p : ℕ) × (c.path_lead.result ≡ Err p) × (c.from_residual.result ≡ Err (NoQuery p)) = search rules in
    let l = rw other at c.path_lead.ensures in
    rw made (path_none newer look (read_within newer look bracket_limit) _ c.args.out.now c.args.out.now _ c.args.slot _ l)

pub returns-in-Alone : goal.returns-in-Alone
returns-in-Alone c =
    let newer = c.args.newer in
    let look = look_of c.args.names in
    let there : c.path_lead.result ≡ Ok (Alone c.in-Alone.next) = search rules in
    let l = rw there at c.path_lead.ensures in
    path_alone newer look (read_within newer look bracket_limit) _ _ _ _ _ _ c.in-Alone.next l c.pack_path.ensures c.put.ensures.wrote

pub returns-in-Before : goal.returns-in-Before
returns-in-Before c =
    let newer = c.args.newer in
    let look = look_of c.args.names in
    let joint = c.in-Before.field-0 in
    let there : c.path_lead.result ≡ Ok (Before joint) = search rules in
    let l = rw there at c.path_lead.ensures in
    path_before newer look (read_within newer look bracket_limit) _ _ _ _ _ joint.next joint.deep c.steps.result l c.steps.ensures
