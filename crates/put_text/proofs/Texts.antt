-- A text is put byte by byte, each escaped behind the `]` that are counted. Assumes nothing.
use Prim.Native.Nat.{ℕ, zero, suc, ◌+◌, ◌*◌, ◌≤◌, ◌<◌}
use native.Mathlib.Omega.{arith}
use native.Mathlib.Numerals.{add-one}
use mathlib.Core.Path.{◌≡◌, refl, sym, ◌∙◌, ap, subst}
use mathlib.Core.Bool.{true, false}
use mathlib.Core.List.{List, [], ◌∷◌, ◌++◌}
use lib.Dec.{eqb}
use lib.ListN.{length, get_or, take}
use lib.Seq.{length-take-le, take-suc, take_all}
use borrow.Author.Tests.{eq-eqb, ne_eqb}
use Rattle.paper.specs.Tools.{ascii}
use Rattle.paper.specs.Xml.{squares}
use Rattle.paper.specs.WriteXml.{squares_by, squares_past, escaped}
use Rattle.pen.specs.Putting.{Puts}
use Rattle.pen.proofs.Putting.{puts_none, puts_both, puts_as}
use Rattle.file_theorems.proofs.Letters.{escaped_then}
use Rattle.file_theorems.proofs.Bounds.{escaped_short}
use Rattle.put_text.specs.Escaping.{PutsText}

-- THE COUNT of `]`.
pub no_square : (k b : ℕ) → (b ≡ 93 → ⊥) → 0 ≡ squares_by k b
no_square k b h = let other : eqb b 93 ≡ false = ne_eqb b 93 h in rw other

pub first_square : (k b : ℕ) → b ≡ 93 → k ≡ 0 → 1 ≡ squares_by k b
first_square k b h e = let same : eqb b 93 ≡ true = eq-eqb b 93 h in rw (same, e)

pub next_square : (k b : ℕ) → b ≡ 93 → (k ≡ 0 → ⊥) → 2 ≡ squares_by k b
next_square k b h n = let same : eqb b 93 ≡ true = eq-eqb b 93 h in rw same (go k n)
  where
    go : (k : ℕ) → (k ≡ 0 → ⊥) → 2 ≡ squares k
    go zero n = absurd (n refl)
    go (suc k) n = refl

past_then : (ws vs : List ℕ) (k : ℕ) → squares_past k (ws ++ vs) ≡ squares_past (squares_past k ws) vs
past_then [] vs k = refl
past_then (b ∷ ws) vs k = past_then ws vs (squares_by k b)

-- A BYTE of text, as a reference or as it is.
pub as_reference : (k b : ℕ) → b ≡ 62 → k ≡ 2 → ascii "&gt;" ≡ escaped k (b ∷ [])
as_reference k b h e = rw (h, e)

pub as_other : (k b : ℕ) → (b ≡ 62 → ⊥) → b ∷ [] ≡ escaped k (b ∷ [])
as_other k b h = let other : eqb b 62 ≡ false = ne_eqb b 62 h in rw other

pub as_it_is : (k b : ℕ) → b ≡ 62 → (k ≡ 2 → ⊥) → b ∷ [] ≡ escaped k (b ∷ [])
as_it_is k b h n = let other : eqb k 2 ≡ false = ne_eqb k 2 n in rw (h, other)

-- A TEXT: none of it, one byte more, all of it, and the room that it takes.
pub text_none : (bytes : List ℕ) (k pen : ℕ) (old : List ℕ) → PutsText (take 0 bytes) k pen old old pen k
text_none bytes k pen old = record { puts = puts_none pen old; counts = refl }

pub text_more : {old out new : List ℕ} {k pen at next count more : ℕ} (bytes : List ℕ) (i : ℕ) → PutsText (take i bytes) k pen old out at count → i < length bytes
    → Puts (escaped count (get_or bytes i 0 ∷ [])) at out new next → more ≡ squares_by count (get_or bytes i 0) → PutsText (take (i + 1) bytes) k pen old new next more
text_more {k = k} bytes i p l q e =
    let b = get_or bytes i 0 in
    let step : take (i + 1) bytes ≡ take i bytes ++ (b ∷ []) = rw (add-one i) (take-suc bytes i 0 l) in
    record {
      puts =
          puts_as
          (ap (λ n. escaped k (take i bytes) ++ escaped n (b ∷ [])) p.counts ∙ sym (escaped_then (take i bytes) (b ∷ []) k) ∙ ap (escaped k) (sym step))
          (puts_both p.puts q);
      counts = e ∙ ap (λ n. squares_by n b) p.counts ∙ sym (past_then (take i bytes) (b ∷ []) k) ∙ ap (squares_past k) (sym step);
    }

pub text_done : {old out : List ℕ} {k pen at count : ℕ} (bytes : List ℕ) (i : ℕ) → PutsText (take i bytes) k pen old out at count → length bytes ≤ i → PutsText bytes k pen old out at count
text_done {old} {out} {k} {pen} {at} {count} bytes i p l = subst (λ (w : List ℕ). PutsText w k pen old out at count) (take_all i bytes l) p

pub text_room : {old out : List ℕ} {k pen at count : ℕ} (bytes : List ℕ) (i : ℕ) → PutsText (take i bytes) k pen old out at count → i ≤ length bytes → at ≤ pen + 4 * i
text_room {k = k} bytes i p l = omega (arith, p.puts.moved, escaped_short (take i bytes) k, length-take-le i bytes l)
