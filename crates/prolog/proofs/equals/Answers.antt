-- White space is passed, `=` comes, and white space behind it. Assumes nothing.
use Rattle.std.proofs.lemmas.Result.{err_from_is_err_and}
use mathlib.Core.Path.{refl}
use Rattle.paper.specs.Tokens.{white}
use Rattle.paper.specs.Xml.{many}
use Rattle.xml_bytes.proofs.Steps.{run_inside}
use Rattle.prolog.proofs.Heading.{byte_heads}
use Rattle.prolog.proofs.Declaring.{equals_stuck, equals_read}
use Rattle.prolog.proofs.equals.Goals as goal

pub byte-requires : goal.byte-requires
byte-requires c = run_inside white _ _ _ c.skip.ensures c.requires

pub returns-in_err-next : goal.returns-in_err-next
returns-in_err-next c =
    let text = c.args.text.now in
    let inside = run_inside white text c.args.at c.skip.result c.skip.ensures c.requires in
    let q = err_from_is_err_and c.from_residual.result c.from_residual.ensures.1 in
    λ p more plain. rw (q.1, q.2) (equals_stuck text c.args.at c.skip.result c.skip.ensures p _ (byte_heads text c.skip.result 61 _ refl inside c.in_err-next.ensures (many white p)))

pub returns : goal.returns
returns c =
    let text = c.args.text.now in
    let inside = run_inside white text c.args.at c.skip.result c.skip.ensures c.requires in
    λ p more plain. equals_read text c.args.at c.skip.result c.skip.ensures c.in_ok-next.next c.skip-2.result c.skip-2.ensures p more plain (byte_heads text c.skip.result 61 _ refl inside c.in_ok-next.ensures (many white p))
