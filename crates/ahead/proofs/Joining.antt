-- What joins absolute paths, by the version. Assumes nothing.
use Prim.Native.Nat.{ℕ}
use mathlib.Core.Path.{◌≡◌, refl, sym, ◌∙◌, subst}
use mathlib.Core.Bool.{Bool, true, false, ◌&&◌}
use mathlib.Core.List.{List}
use Rattle.std.specs.Prelude.{Result}
use Rattle.paper.specs.Tools.{ascii}
use Rattle.paper.specs.Tokens as paper
use Rattle.paper.specs.Tokens.{Placed}
use Rattle.paper.specs.Reading.{sees, says, joins}
use Rattle.marks.specs.declared.There.{There}
use Rattle.marks.specs.Marks.{Looks}
use Rattle.ahead.proofs.Beginning.{and_false}

pub looks_same : (text : List ℕ) (from : ℕ) (a b : Bool) (r : Result There ℕ) → a ≡ b → Looks text from a r → Looks text from b r
looks_same text from a b r e h = subst (λ x. Looks text from x r) e h

and_true : (b : Bool) → (b && true) ≡ b
and_true true = refl
and_true false = refl

module _ (newer : Bool) (ts : List Placed) where
  pub joins_bar : sees paper.bar ts ≡ true → joins newer ts ≡ true
  joins_bar h = rw h

  pub joins_word : newer ≡ true → sees paper.bar ts ≡ false → says (ascii "union") ts ≡ joins newer ts
  joins_word n h = sym (rw (n, h) (and_true (says (ascii "union") ts)))

  pub joins_none : newer ≡ false → sees paper.bar ts ≡ false → sees paper.bar ts ≡ joins newer ts
  joins_none n h = h ∙ sym (rw (n, h) (and_false (says (ascii "union") ts)))
