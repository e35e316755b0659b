-- Bytes of names and white space: with none of them opens a thing that is left out. Assumes nothing.
use Prim.Native.Nat.{ℕ, ◌≤◌, ◌<◌}
use native.Mathlib.Omega.{arith}
use borrow.Author.Tests.{ne_eqb, leb-true, eqb-true}
use mathlib.Core.Path.{◌≡◌, refl, sym, subst}
use mathlib.Core.Bool.{true, false, ◌&&◌, ◌||◌}
use mathlib.Core.Logic.{⊎_elim}
use lib.Dec.{eqb, leb}
use Rattle.paper.specs.Names.{letter, name_start, name_part}
use Rattle.paper.specs.Tokens.{white}
use Rattle.paper.specs.Xml.{xml_start, xml_part}
use Rattle.paper.proofs.Tests.{and_true, or_true}
use Rattle.xml_bytes.specs.Promised.{calm}
use Rattle.xml_bytes.proofs.Steps.{Calm, is_calm}

-- BYTES OF NAMES.
-- A byte with which a name starts is none below 65.
start_high : (b : ℕ) → name_start b ≡ true → 65 ≤ b
start_high b h =
    ⊎_elim
    (λ l.
    ⊎_elim (λ u. leb-true 65 b (and_true (leb 65 b) (leb b 90) u).0) (λ u. let k : 97 ≤ b = leb-true 97 b (and_true (leb 97 b) (leb b 122) u).0 in omega arith)
    (or_true (leb 65 b && leb b 90) (leb 97 b && leb b 122) l))
    (λ u. let k : b ≡ 95 = eqb-true b 95 u in omega arith)
    (or_true (letter b) (eqb b 95) h)

-- A byte with which a name goes on is `-`, `.`, or none below 48, and none of `<` and `>`.
pub record Part (b : ℕ) : Type 0 where
  pub calm : Calm b
  pub no_space : white b ≡ false

part_from : (b : ℕ) → (b ≡ 60 → ⊥) → (b ≡ 38 → ⊥) → 32 < b → Part b
part_from b tag amp l =
    record {
      calm = record { no_tag = tag; no-reference = amp };
      no_space = rw (ne_eqb b 32 (λ e. omega arith), ne_eqb b 9 (λ e. omega arith), ne_eqb b 10 (λ e. omega arith), ne_eqb b 13 (λ e. omega arith));
    }

pub part_calm : (b : ℕ) → name_part b ≡ true → Part b
part_calm b h =
    ⊎_elim
    (λ u.
    ⊎_elim
    (λ v.
    ⊎_elim (λ w. let l = start_high b w in part_from b (λ e. omega arith) (λ e. omega arith) (omega arith))
    (λ w. let l = leb-true 48 b (and_true (leb 48 b) (leb b 57) w).0 in let m = leb-true b 57 (and_true (leb 48 b) (leb b 57) w).1 in part_from b (λ e. omega arith) (λ e. omega arith) (omega arith))
    (or_true (name_start b) (leb 48 b && leb b 57) v))
    (λ v. let e' = eqb-true b 46 v in part_from b (λ e. omega arith) (λ e. omega arith) (omega arith))
    (or_true (name_start b || leb 48 b && leb b 57) (eqb b 46) u))
    (λ v. let e' = eqb-true b 45 v in part_from b (λ e. omega arith) (λ e. omega arith) (omega arith))
    (or_true (name_start b || leb 48 b && leb b 57 || eqb b 46) (eqb b 45) h)

pub calm_part : (b : ℕ) → name_part b ≡ true → calm b ≡ true
calm_part b h = let p = (part_calm b h).calm in rw (ne_eqb b 60 p.no_tag, ne_eqb b 38 p.no-reference)

pub start_part : (b : ℕ) → name_start b ≡ true → name_part b ≡ true
start_part b h = rw h

-- White space is calm, and no byte of a name of XML 1.0.
pub record Space (b : ℕ) : Type 0 where
  pub calm : Calm b
  pub no_part : name_part b ≡ false
  pub no_xml_part : xml_part b ≡ false
  pub no_xml_start : xml_start b ≡ false

pub white_calm : (b : ℕ) → white b ≡ true → Space b
white_calm b h =
    ⊎_elim
    (λ u.
    ⊎_elim
    (λ v. ⊎_elim (λ w. is 32 (eqb-true b 32 w) (record { calm = is_calm 32 refl; no_part = refl; no_xml_part = refl; no_xml_start = refl })) (λ w. is 9 (eqb-true b 9 w) (record { calm = is_calm 9 refl; no_part = refl; no_xml_part = refl; no_xml_start = refl })) (or_true (eqb b 32) (eqb b 9) v))
    (λ v. is 10 (eqb-true b 10 v) (record { calm = is_calm 10 refl; no_part = refl; no_xml_part = refl; no_xml_start = refl }))
    (or_true (eqb b 32 || eqb b 9) (eqb b 10) u))
    (λ v. is 13 (eqb-true b 13 v) (record { calm = is_calm 13 refl; no_part = refl; no_xml_part = refl; no_xml_start = refl }))
    (or_true (eqb b 32 || eqb b 9 || eqb b 10) (eqb b 13) h)
  where
    is : (n : ℕ) → b ≡ n → Space n → Space b
    is n e s = subst Space (sym e) s
