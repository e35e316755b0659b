-- `lines::line_end` meets its contract: the first LF ends the line, or else the bytes do. Assumes nothing.
use borrow.Author.Rules.{rules}
use mathlib.Core.Path.{sym, ◌∙◌, ap, subst}
use lib.ListN.{length}
use Rattle.std.proofs.Common.{tests}
use Rattle.std.proofs.lemmas.Iterator.{YieldsList-from_slice}
use Rattle.std.proofs.lemmas.Iterator.Search.{position_from_yields_List}
use Rattle.std.specs.Option.{unwrap_or}
use Rattle.lines.specs.Lines.{Ends}
use Rattle.lines.proofs.Splitting.{is_lf, line_ends, place_or}
use Rattle.lines.proofs.line_end.Goals as goal

pub returns : goal.returns
returns c =
    let bytes = c.args.bytes.now in
    let found = position_from_yields_List is_lf _ _ c.position.result c.position.ensures.ran (YieldsList-from_slice _ c.iter.ensures.rest) (λ x b q k. search (rules, tests)) in
    subst (Ends bytes) (sym (c.unwrap_or.ensures ∙ ap (λ o. unwrap_or o (length bytes)) found ∙ place_or bytes)) (line_ends bytes)
