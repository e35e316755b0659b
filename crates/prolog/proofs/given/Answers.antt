-- The name comes, then `=`, then the quote. Assumes nothing.
use mathlib.Core.Path.{refl}
use Rattle.std.proofs.lemmas.Result.{err_from_is_err_and}
use Rattle.paper.specs.Tokens.{white}
use Rattle.paper.specs.Xml.{done, one}
use Rattle.prolog.proofs.Heading.{word_heads}
use Rattle.prolog.proofs.Declaring.{name_stuck, mark_stuck, name_quote}
use Rattle.prolog.proofs.given.Goals as goal

pub returns-in_err-name_end : goal.returns-in_err-name_end
returns-in_err-name_end c =
    let p = err_from_is_err_and c.from_residual.result c.from_residual.ensures.1 in
    rw (p.1, p.2) (name_stuck c.args.text.now c.args.at c.args.name.now _ (word_heads c.args.text.now c.args.at c.args.name.now _ c.requires.1 c.requires.0 c.in_err-name_end.ensures))

pub equals-requires : goal.equals-requires
equals-requires c = (word_heads c.args.text.now c.args.at c.args.name.now _ c.requires.1 c.requires.0 c.in_ok-name_end.ensures done).bounds.1

pub returns-in_err-place : goal.returns-in_err-place
returns-in_err-place c =
    let named = word_heads c.args.text.now c.args.at c.args.name.now _ c.requires.1 c.requires.0 c.in_ok-name_end.ensures in
    let p = err_from_is_err_and c.from_residual-in_err-place.result c.from_residual-in_err-place.ensures.1 in
    rw (p.1, p.2) (mark_stuck c.args.text.now c.args.at c.args.name.now _ named _ c.in_err-place.ensures)

pub quote-requires : goal.quote-requires
quote-requires c = (c.in_ok-place.ensures (one white done) refl refl).bounds.1

pub returns : goal.returns
returns c =
    let named = word_heads c.args.text.now c.args.at c.args.name.now _ c.requires.1 c.requires.0 c.in_ok-name_end.ensures in
    name_quote c.args.text.now c.args.at c.args.name.now _ named c.in_ok-place.place c.quote.result c.in_ok-place.ensures c.quote.ensures
