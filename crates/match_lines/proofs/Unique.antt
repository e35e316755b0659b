-- The promise of `outcome` leaves one answer: a text is one tree or is refused, and its lines agree or do not. Assumes nothing.
use Prim.Native.Nat.{ℕ}
use Rattle.std.specs.Prelude.{Option, Some, None}
use mathlib.Core.Path.{◌≡◌, refl, sym, ◌∙◌, ap, ap₂, subst}
use mathlib.Core.Bool.{Bool, true, false, false≢true}
use mathlib.Core.List.{List}
use lib.ListN.{length}
use Rattle.paper.specs.Xml.{Nodes, Judged, wanted, unwanted, table}
use Rattle.xml_lines.specs.Kept.{Columns}
use Rattle.match_lines.specs.Lines.{Agree}
use Rattle.match_lines.specs.Compared.{Says, Tells}
use Rattle.match_lines.specs.declared.Match.{Match}

-- A text is one tree, and is not refused too.
one_tree : (a b : Nodes) → ◌≡◌ {A = Judged} (wanted a) (wanted b) → a ≡ b
one_tree a b e = cc

not_refused {ℓ} : {C : Type ℓ} (a : Nodes) (number place : ℕ) → wanted a ≡ unwanted number place → C
not_refused a number place e = absurd (false≢true (ap told e))
  where
    told : Judged → Bool
    told (wanted tree) = false
    told (unwanted number place) = true

-- A flag that says of a fact whether it holds is one.
one_flag : {P : Type 0} (b c : Bool) → (b ≡ true → P) → (b ≡ false → P → ⊥) → (c ≡ true → P) → (c ≡ false → P → ⊥) → b ≡ c
one_flag true true y n z m = refl
one_flag true false y n z m = absurd (m refl (y refl))
one_flag false true y n z m = absurd (n refl (z refl))
one_flag false false y n z m = refl

says_unique : (text list : List ℕ) (cols : Columns) (r s : Match) → Says text list cols r → Says text list cols s → r ≡ s
says_unique text list cols r s p q =
    let tree : q.tree ≡ p.tree = one_tree q.tree p.tree (sym q.is ∙ p.is) in
    let nodes : r.nodes ≡ s.nodes = p.nodes ∙ ap (λ t. length (table (length text) t)) (sym tree) ∙ sym q.nodes in
    let same : r.same ≡ s.same =
    one_flag r.same s.same p.yes p.no (λ e. subst (λ t. Agree list cols 0 (table (length text) t)) tree (q.yes e))
    (λ e a. q.no e (subst (λ t. Agree list cols 0 (table (length text) t)) (sym tree) a)) in
    ap₂ (λ n b. record { nodes = n; same = b }) nodes same

pub outcome_unique : (text list : List ℕ) (cols : Columns) (r s : Option Match) → Tells text list cols r → Tells text list cols s → r ≡ s
outcome_unique text list cols (Some r) (Some s) p q = ap Some (says_unique text list cols r s p q)
outcome_unique text list cols (Some r) None p q = not_refused p.tree q.number q.place (sym p.is ∙ q.is)
outcome_unique text list cols None (Some s) p q = not_refused q.tree p.number p.place (sym q.is ∙ p.is)
outcome_unique text list cols None None p q = refl
