-- `find` meets its contract: the first line that says the word is its number.
use Rattle.std.proofs.Common.{◌<◌, ◌∙◌, ap, subst, IfSome}
use Rattle.paper.specs.Limits.{names_limit}
use Rattle.paper.specs.Names.{names_of, number_of}
use Rattle.paper.specs.Told.{found}
use Rattle.names.proofs.Parts.{number_first, number_few}
use Rattle.names.proofs.Listed.find.Goals as goal

pub returns-clause-numbered : goal.returns-clause-numbered
returns-clause-numbered c =
    c.in_ok-v.ensures ∙ number_first c.self.invariant c.args.word.now ∙ ap (λ list. number_of (names_of list) c.args.word.now) c.self.view_is

pub returns-clause-few : goal.returns-clause-few
returns-clause-few c = subst (λ r. IfSome r (λ v. v < names_limit)) c.in_ok-v.was (number_few c.self.invariant c.args.word.now c.first_same.result c.first_same.ensures)

pub returns-in_err-v-clause-numbered : goal.returns-in_err-v-clause-numbered
returns-in_err-v-clause-numbered c =
    ap found c.from_residual.ensures ∙ c.in_err-v.ensures ∙ number_first c.self.invariant c.args.word.now ∙ ap (λ list. number_of (names_of list) c.args.word.now) c.self.view_is
