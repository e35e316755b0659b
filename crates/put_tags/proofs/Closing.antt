-- End tags are put one by one, from the innermost open element up to the one that stays open. By the elements that are open. Assumes nothing.
use Prim.Native.Nat.{ℕ, ◌+◌, ◌≤◌, ◌<◌}
use native.Mathlib.Omega.{arith}
use mathlib.Core.Path.{◌≡◌, refl, sym, ◌∙◌, ap}
use mathlib.Core.List.{List, [], ◌∷◌, ◌++◌, append_assoc, append-nil}
use lib.ListN.{length, get_or, length-append}
use Rattle.pen.specs.Putting.{Puts}
use Rattle.pen.proofs.Putting.{puts_none, puts_both, puts_as}
use Rattle.put_tags.specs.Tags.{name_at, Open, none_open, one_open}

-- What is put, and what is still to be put.
pub record Closing (text parents begins bytes : List ℕ) (pen : ℕ) (old out : List ℕ) (at inner up : ℕ) : Type 0 where
  pub done : List ℕ
  pub rest : List ℕ
  pub split : bytes ≡ done ++ rest
  pub left : Open text parents begins inner up rest
  pub puts : Puts done pen old out at

module _ (text parents begins : List ℕ) where
  pub closing_start : {bytes : List ℕ} {top up : ℕ} (pen : ℕ) (old : List ℕ) → Open text parents begins top up bytes → Closing text parents begins bytes pen old old pen top up
  closing_start {bytes} pen old c = record { done = []; rest = bytes; split = refl; left = c; puts = puts_none pen old }

  -- What is known of an open element: where it stands, and its end tag.
  pub record Known (inner up : ℕ) (bytes : List ℕ) : Type 0 where
    pub in_parents : inner < length parents
    pub in_begins : inner < length begins
    pub place : get_or begins inner 0 < length text
    pub falls : get_or parents inner 0 < inner
    pub more : List ℕ
    pub tagged : bytes ≡ 60 ∷ 47 ∷ name_at text (get_or begins inner 0) ++ (62 ∷ more)
    pub above : Open text parents begins (get_or parents inner 0) up more

  pub known : {inner up : ℕ} {bytes : List ℕ} → Open text parents begins inner up bytes → (inner ≡ up → ⊥) → Known inner up bytes
  known none_open n = absurd (n refl)
  known (one_open {bytes = bs} u p b l f c) n = record { in_parents = p; in_begins = b; place = l; falls = f; more = bs; tagged = refl; above = c }

  -- One end tag more.
  pub closing_more : {bytes old out new : List ℕ} {pen at next inner up : ℕ} → Closing text parents begins bytes pen old out at inner up → (inner ≡ up → ⊥)
      → Puts (60 ∷ 47 ∷ name_at text (get_or begins inner 0) ++ (62 ∷ [])) at out new next → Closing text parents begins bytes pen old new next (get_or parents inner 0) up
  closing_more {inner = inner} g n q =
      let k = known g.left n in
      let tag : List ℕ = 60 ∷ 47 ∷ name_at text (get_or begins inner 0) in
      record {
        done = g.done ++ (tag ++ (62 ∷ []));
        rest = k.more;
        split =
            g.split ∙ ap (λ (x : List ℕ). g.done ++ x) (k.tagged ∙ sym (append_assoc tag (62 ∷ []) k.more))
            ∙ sym (append_assoc g.done (tag ++ (62 ∷ [])) k.more);
        left = k.above;
        puts = puts_both g.puts q;
      }

  -- All of them.
  all_closed : {inner up : ℕ} {rest : List ℕ} → Open text parents begins inner up rest → inner ≡ up → rest ≡ []
  all_closed none_open e = refl
  all_closed (one_open u p b l f c) e = absurd (omega arith)

  pub closing_done : {bytes old out : List ℕ} {pen at inner up : ℕ} → Closing text parents begins bytes pen old out at inner up → inner ≡ up → Puts bytes pen old out at
  closing_done g e = puts_as (sym (g.split ∙ ap (λ (x : List ℕ). g.done ++ x) (all_closed g.left e) ∙ append-nil g.done)) g.puts

  pub closing_room : {bytes old out : List ℕ} {pen at inner up : ℕ} → Closing text parents begins bytes pen old out at inner up → at ≤ pen + length bytes
  closing_room g = omega (arith, g.puts.moved, ap length g.split ∙ length-append g.done g.rest)
