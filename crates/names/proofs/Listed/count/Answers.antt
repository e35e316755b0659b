-- `count` meets its contract: the starts say as many names as the list has.
use Rattle.std.proofs.Common.{◌∙◌, ap, sym, length}
use Rattle.paper.specs.Names.{names_of}
use Rattle.names.proofs.Parts.{counted}
use Rattle.names.proofs.Listed.count.Goals as goal

pub returns-clause-counted : goal.returns-clause-counted
returns-clause-counted c = sym (ap (λ list. length (names_of list)) (sym c.self.view_is) ∙ counted c.self.invariant)
