-- What a pass over the marks has written after each node: the value of each marked node so far, and the rest untouched. Assumes nothing.
use Prim.Native.Nat.{ℕ, ◌+◌, ◌≤◌, ◌<◌}
use native.Mathlib.Omega.{arith}
use native.Mathlib.Numerals.{add-one}
use mathlib.Core.Path.{◌≡◌, refl, sym, ◌∙◌, ap, ap₂}
use mathlib.Core.Bool.{true, false}
use mathlib.Core.List.{List}
use borrow.Author.Tests.{eq-eqb, ne_eqb}
use lib.ListN.{length, get_or, set, drop, length-set, get_or-append}
use Rattle.paper.specs.Tools.{written}
use Rattle.paper.specs.Document.{marked}
use Rattle.paper.specs.Extraction.{rank, pick_from}
use Rattle.extract.specs.Numbering.{Last}
use Rattle.paper.proofs.Extracting.{rank_marked, rank_unmarked, rank_less, pick_marked, pick_unmarked, length_pick, pick_at, write_next}

-- How far a pass over the marks has come: it has written n values, those of the marked nodes before node i, over `old`.
pub record Written (marks : List ℕ) (f : ℕ → ℕ) (old out : List ℕ) (n i : ℕ) : Type 0 where
  pub count : n ≡ rank marks i
  pub is : out ≡ written (pick_from marks i 0 f) old
  pub long : length out ≡ length old

module _ (marks : List ℕ) (f : ℕ → ℕ) (old : List ℕ) where
  pub nothing : Written marks f old old 0 0
  nothing = record { count = refl; is = refl; long = refl }

  module _ (out : List ℕ) (n i : ℕ) (w : Written marks f old out n i) where
    -- There is room for a marked node's value, where there is room for all;
    pub room : rank marks (length marks) ≤ length old → i < length marks → get_or marks i 0 ≡ 1 → n < length old
    room h l m = omega (arith, w.count, rank_less marks i (length marks) l (eq-eqb (get_or marks i 0) 1 m))

    -- it is written behind the others,
    pub one_more : (out' : List ℕ) (n' v : ℕ) → n < length old → get_or marks i 0 ≡ 1 → v ≡ f i → out' ≡ set out n v → n' ≡ n + 1 → Written marks f old out' n' (i + 1)
    one_more out' n' v l m e eo en =
        let on : marked marks i ≡ true = eq-eqb (get_or marks i 0) 1 m in
        record {
          count = omega (arith, w.count, ap (rank marks) (add-one i), rank_marked marks i on);
          is =
              eo ∙ ap₂ (λ o x. set o n x) w.is e ∙ write_next (pick_from marks i 0 f) old n (f i) (length_pick marks f i ∙ sym w.count) l
              ∙ ap (λ p. written p old) (sym (pick_marked marks f i on) ∙ ap (λ k. pick_from marks k 0 f) (sym (add-one i)));
          long = ap length eo ∙ length-set out n v ∙ w.long;
        }

    -- and an unmarked node is passed over.
    pub no_more : (out' : List ℕ) (n' : ℕ) → (get_or marks i 0 ≡ 1 → ⊥) → out' ≡ out → n' ≡ n → Written marks f old out' n' (i + 1)
    no_more out' n' m eo en =
        let off : marked marks i ≡ false = ne_eqb (get_or marks i 0) 1 m in
        record {
          count = omega (arith, w.count, ap (rank marks) (add-one i), rank_unmarked marks i off);
          is = eo ∙ w.is ∙ ap (λ p. written p old) (sym (pick_unmarked marks f i off) ∙ ap (λ k. pick_from marks k 0 f) (sym (add-one i)));
          long = ap length eo ∙ w.long;
        }

    -- What is written is found again at the new numbers.
    pub found_at : (k : ℕ) → k < i → marked marks k ≡ true → get_or out (rank marks k) 0 ≡ f k
    found_at k l m =
        let p = pick_from marks i 0 f in
        let h : rank marks k < length p = omega (arith, length_pick marks f i, rank_less marks k i l m) in
        ap (λ o. get_or o (rank marks k) 0) w.is ∙ get_or-append p (drop (length p) old) 0 (rank marks k) h ∙ pick_at marks f i k 0 l m

-- THE LAST MARKED NODE before the next one is this one if it is marked, and otherwise the one before.
pub last_new : (marks : List ℕ) (i : ℕ) → get_or marks i 0 ≡ 1 → Last marks (i + 1) i
last_new marks i m =
    let on : marked marks i ≡ true = eq-eqb (get_or marks i 0) 1 m in
    record { before = omega arith; on = on; next = ap (rank marks) (add-one i) ∙ rank_marked marks i on }

pub last_kept : (marks : List ℕ) (i last : ℕ) → (get_or marks i 0 ≡ 1 → ⊥) → Last marks i last → Last marks (i + 1) last
last_kept marks i last m l =
    record {
      before = omega (arith, l.before);
      on = l.on;
      next = ap (rank marks) (add-one i) ∙ rank_unmarked marks i (ne_eqb (get_or marks i 0) 1 m) ∙ l.next;
    }
