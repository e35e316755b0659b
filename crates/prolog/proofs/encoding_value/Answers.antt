-- Another encoding is named, or UTF-8 comes. Assumes nothing.
use mathlib.Core.Path.{sym, ◌∙◌}
use Rattle.std.proofs.lemmas.Result.{err_from_is_err_and}
use Rattle.paper.specs.Xml.{done, after_encoding}
use Rattle.prolog.specs.Heading.{utf8}
use Rattle.prolog.proofs.Heading.{heads_then, heads_stuck}
use Rattle.prolog.proofs.Declaring.{encoding_other, encoding_none}
use Rattle.prolog.proofs.encoding_value.Goals as goal

pub returns-then-other_encoding : goal.returns-then-other_encoding
returns-then-other_encoding c = encoding_other c.args.text.now c.args.at c.args.closing c.requires.0 (sym c.other_encoding.ensures ∙ c.if-other_encoding.true)

pub returns-in_err-next : goal.returns-in_err-next
returns-in_err-next c =
    let p = err_from_is_err_and c.from_residual.result c.from_residual.ensures.1 in
    rw (p.1, p.2)
    (encoding_none c.args.text.now c.args.at c.args.closing c.requires.0 _ (sym c.other_encoding.ensures ∙ c.if-other_encoding.false) (heads_stuck _ _ (utf8 c.args.closing) after_encoding done _ c.in_err-next.ensures))

pub returns : goal.returns
returns c =
    encoding_none c.args.text.now c.args.at c.args.closing c.requires.0 c.after_encoding.result (sym c.other_encoding.ensures ∙ c.if-other_encoding.false)
    (heads_then _ _ (utf8 c.args.closing) after_encoding done _ _ c.in_ok-next.ensures c.after_encoding.ensures)
