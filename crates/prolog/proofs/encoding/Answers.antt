-- The name and its quote come, then the value. Assumes nothing.
use Rattle.std.specs.Prelude.{ℕ}
use Rattle.std.proofs.lemmas.Result.{err_from_is_err_and}
use Rattle.paper.specs.Tools.{ascii}
use Rattle.paper.specs.Xml.{Pattern, done, say}
use Rattle.prolog.specs.Heading.{valued, encoding_value}
use Rattle.prolog.proofs.Declaring.{given_stuck, given_then}
use Rattle.prolog.proofs.encoding.Goals as goal

abbrev named : (ℕ → Pattern) → Pattern
named value = say (ascii "encoding") (valued value)

pub returns-in_err-from : goal.returns-in_err-from
returns-in_err-from c =
    let p = err_from_is_err_and c.from_residual.result c.from_residual.ensures.1 in
    rw (p.1, p.2) (given_stuck c.args.text.now c.args.at named encoding_value done _ c.in_err-from.ensures)

pub returns : goal.returns
returns c = given_then c.args.text.now c.args.at named encoding_value done c.in_ok-from.from c.encoding_value.result c.in_ok-from.ensures c.encoding_value.ensures
