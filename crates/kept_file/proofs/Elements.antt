-- Whether an element is marked, looked for node by node. By the definition's own recursion over the number of nodes. Assumes nothing.
use Prim.Native.Nat.{ℕ, suc, ◌+◌}
use native.Mathlib.Omega.{arith}
use mathlib.Core.Path.{◌≡◌, sym, ◌∙◌, ap}
use mathlib.Core.Bool.{Bool, ◌&&◌, ◌||◌}
use mathlib.Core.List.{List}
use lib.Dec.{eqb, leb}
use lib.ListN.{length, get_or}
use Rattle.paper.specs.Tools.{some_below}
use Rattle.paper.specs.Document.{element_kind, table_of, marked}
use Rattle.paper.specs.Answers.{element_marked}

-- Is one of the first i nodes a marked element?
abbrev pub Looked : List ℕ → List ℕ → ℕ → Bool → Type 0
Looked kinds marks i found = found ≡ some_below i (λ j. marked marks j && leb element_kind (get_or kinds j 0))

add-one : (i : ℕ) → i + 1 ≡ suc i
add-one i = omega arith

pub one_looked : (kinds marks : List ℕ) (i : ℕ) (found : Bool) → Looked kinds marks i found
    → Looked kinds marks (i + 1) (eqb (get_or marks i 0) 1 && leb element_kind (get_or kinds i 0) || found)
one_looked kinds marks i found h = rw (add-one i) (ap (λ b. eqb (get_or marks i 0) 1 && leb element_kind (get_or kinds i 0) || b) h)

pub all_looked : (parents kinds marks : List ℕ) (i : ℕ) (found : Bool) → Looked kinds marks i found → i ≡ length kinds → length parents ≡ length kinds
    → found ≡ element_marked (table_of parents kinds) marks
all_looked parents kinds marks i found h e l = h ∙ ap (λ n. some_below n (λ j. marked marks j && leb element_kind (get_or kinds j 0))) (e ∙ sym l)
