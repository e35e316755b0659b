-- What a look for a start tag's name says of its kind. Assumes nothing.
use Prim.Native.Nat.{ℕ, ◌+◌, ◌<◌}
use mathlib.Core.Path.{◌≡◌, refl, sym, ◌∙◌, ap, subst}
use mathlib.Core.Bool.{Bool, true, false, false≢true}
use mathlib.Core.List.{List}
use mathlib.Core.Option.{Option, none, some}
use Rattle.paper.specs.Xml.{named, kind_by, lacks, name_kind}
use Rattle.line_tests.specs.Telling.{Tells, Has, NamedAt}

module _ (look : List ℕ → Option ℕ) (name : List ℕ) where
  -- The list has the name.
  pub has_kind : (kinds : List ℕ) (n v number : ℕ) {b : Bool} → some v ≡ look name → number ≡ 2 + v → Tells b (Has kinds n number) → Tells b (NamedAt look name kinds n)
  has_kind kinds n v number found e t =
      let own : lacks look (named name) ≡ false = rw (← found) in
      let kind : number ≡ kind_by look (named name) = e ∙ ap name_kind found in
      (λ c. (own, subst (Has kinds n) kind (t.0 c)), λ c h. t.1 c (subst (Has kinds n) (sym kind) h.1))

  -- It lacks the name.
  pub lacks_kind : (kinds : List ℕ) (n : ℕ) → none ≡ look name → Tells false (NamedAt look name kinds n)
  lacks_kind kinds n found =
      let own : lacks look (named name) ≡ true = rw (← found) in
      (λ c. absurd (false≢true c), λ c h. absurd (false≢true (sym h.0 ∙ own)))
