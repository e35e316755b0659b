-- `1.` comes, digits and the quote, and what may follow. Assumes nothing.
use mathlib.Core.Path.{refl}
use Rattle.std.proofs.lemmas.Result.{err_from_is_err_and}
use Rattle.paper.specs.Tools.{ascii}
use Rattle.paper.specs.Xml.{done, after_version}
use Rattle.prolog.specs.Heading.{numbered, version_value}
use Rattle.prolog.proofs.Heading.{word_heads, heads_stuck, heads_then}
use Rattle.prolog.proofs.version_value.Goals as goal

pub returns-in_err-from : goal.returns-in_err-from
returns-in_err-from c =
    let p = err_from_is_err_and c.from_residual.result c.from_residual.ensures.1 in
    let next = numbered c.args.closing after_version in
    rw (p.1, p.2) (heads_stuck _ _ (version_value c.args.closing) next done _ (word_heads c.args.text.now c.args.at (ascii "1.") _ refl c.requires.0 c.in_err-from.ensures next))

pub number-requires : goal.number-requires
number-requires c = ((word_heads c.args.text.now c.args.at (ascii "1.") _ refl c.requires.0 c.in_ok-from.ensures done).bounds.1, c.requires.1)

pub returns-in_err-next : goal.returns-in_err-next
returns-in_err-next c =
    let p = err_from_is_err_and c.from_residual-in_err-next.result c.from_residual-in_err-next.ensures.1 in
    let next = numbered c.args.closing after_version in
    rw (p.1, p.2)
    (heads_stuck _ _ (version_value c.args.closing) after_version done _
    (heads_then _ _ (version_value c.args.closing) next after_version _ _ (word_heads c.args.text.now c.args.at (ascii "1.") _ refl c.requires.0 c.in_ok-from.ensures next) (c.in_err-next.ensures after_version)))

pub after_version-requires : goal.after_version-requires
after_version-requires c = (c.in_ok-next.ensures done).bounds.1

pub returns : goal.returns
returns c =
    let next = numbered c.args.closing after_version in
    heads_then _ _ (version_value c.args.closing) after_version done _ _
    (heads_then _ _ (version_value c.args.closing) next after_version _ _ (word_heads c.args.text.now c.args.at (ascii "1.") _ refl c.requires.0 c.in_ok-from.ensures next) (c.in_ok-next.ensures after_version))
    c.after_version.ensures
