-- What is promised of a document: what it adds to the tallies.
use Rattle.std.specs.Prelude.{List, ℕ}
use Rattle.paper.specs.Sheet.{all_of, kept_of, hidden_of, adds, adds_refusal, Outcome}
use Rattle.tally.specs.Tallies.{sums, times, Grows}

-- Each column grows by what the document adds.
pub record Adds (outcome : Outcome) (all all' kept kept' hidden hidden' refusals refusals' : List ℕ) : Type 0 where
  pub all_grow : Grows sums all all' (λ v. adds all_of v outcome)
  pub kept_grow : Grows sums kept kept' (λ v. adds kept_of v outcome)
  pub hidden_grow : Grows sums hidden hidden' (λ v. adds hidden_of v outcome)
  pub refusals_grow : Grows times refusals refusals' (λ number. adds_refusal number outcome)
