-- Nowhere in what is written do the bytes `]]>` stand in a row.
-- A scan of the bytes that counts `]` finds them where they stand, and finds nothing in tags and in escaped text. Assumes nothing.
use Prim.Native.Nat.{ℕ, zero, suc, ◌+◌, ◌≤◌}
use native.Mathlib.Omega.{arith}
use mathlib.Core.Path.{◌≡◌, refl, sym, ◌∙◌, ap, subst}
use mathlib.Core.Bool.{Bool, true, false, ◌&&◌, ◌||◌, cond, false≢true}
use mathlib.Core.List.{List, [], ◌∷◌, ◌++◌, append-nil}
use mathlib.Core.Logic.{⊎_elim}
use lib.Dec.{eqb}
use lib.ListN.{drop}
use borrow.Author.Tests.{eqb-true}
use Rattle.paper.specs.Tools.{ascii}
use Rattle.paper.specs.Names.{name_start, name_part, name_parts, is_name}
use Rattle.paper.specs.Xml.{Nodes, nothing, element, chars, Judged, wanted, unwanted, read_xml, squares, starts}
use Rattle.paper.specs.WriteXml.{pruned, bytes_at, squares_by, squares_past, escaped, as_xml, kept_of, kept_xml}
use Rattle.paper.proofs.Tests.{and_true, or_left, or_right, decide}
use Rattle.xml_verdicts.proofs.Accepted.{accepted}
use Rattle.file_theorems.specs.Files.{NoMarksEnd}
use Rattle.file_theorems.proofs.Rebuilt.{Sound, derived_sound, pruned_sound, element_bytes, text_bytes}

-- Does a `>` stand behind two `]`, where k stand before the bytes?
abbrev scan : ℕ → List ℕ → Bool
scan k [] = false
scan k (b ∷ bs) = eqb b 62 && eqb k 2 || scan (squares_by k b) bs

-- It finds `]]>` wherever it stands.
found : (at : ℕ) (bs : List ℕ) (k : ℕ) → starts (ascii "]]>") (drop at bs) ≡ true → scan k bs ≡ true
found zero [] k h = absurd (false≢true h)
found zero (a ∷ []) k h = absurd (false≢true (and_true (eqb a 93) false h).1)
found zero (a ∷ b ∷ []) k h = absurd (false≢true (and_true (eqb b 93) false (and_true (eqb a 93) (eqb b 93 && false) h).1).1)
found zero (a ∷ b ∷ c ∷ bs) k h =
    let (p, q) = and_true (eqb a 93) (eqb b 93 && (eqb c 62 && true)) h in
    let (r, s) = and_true (eqb b 93) (eqb c 62 && true) q in
    let t = (and_true (eqb c 62) true s).0 in
    let x : a ≡ 93 = eqb-true a 93 p in
    let y : b ≡ 93 = eqb-true b 93 r in
    let z : c ≡ 62 = eqb-true c 62 t in
    rw (x, y, z) (two k)
  where
    two : (k : ℕ) → scan k (93 ∷ 93 ∷ 62 ∷ bs) ≡ true
    two zero = refl
    two (suc k) = refl
found (suc at) [] k h = absurd (false≢true h)
found (suc at) (b ∷ bs) k h = or_right (eqb b 62 && eqb k 2) (found at bs (squares_by k b) h)

-- Escaped text is passed,
scan_text : (bs : List ℕ) (k : ℕ) (rest : List ℕ) → scan k (escaped k bs ++ rest) ≡ scan (squares_past k bs) rest
scan_text [] k rest = refl
scan_text (b ∷ bs) k rest = go (eqb b 62 && eqb k 2) refl (λ n. scan_text bs n rest)
  where
    go : (x : Bool) → (eqb b 62 && eqb k 2) ≡ x → ((n : ℕ) → scan n (escaped n bs ++ rest) ≡ scan (squares_past n bs) rest) → scan k (escaped k (b ∷ bs) ++ rest) ≡ scan (squares_past k (b ∷ bs)) rest
    go true p h =
        let angle : b ≡ 62 = eqb-true b 62 (and_true (eqb b 62) (eqb k 2) p).0 in
        let none : squares_by k b ≡ 0 = ap (squares_by k) angle in
        rw p (h 0) ∙ ap (λ n. scan (squares_past n bs) rest) (sym none)
    go false p h = rw (p, p) (h (squares_by k b))

-- and so are tags.
plain_part : (b : ℕ) → name_part b ≡ true → (eqb b 62 ≡ false) × (eqb b 93 ≡ false)
plain_part b h = (
  ⊎_elim (λ (e : eqb b 62 ≡ true). absurd (false≢true (subst (λ x. name_part x ≡ true) (eqb-true b 62 e) h))) (λ (e : eqb b 62 ≡ false). e) (decide (eqb b 62)),
  ⊎_elim (λ (e : eqb b 93 ≡ true). absurd (false≢true (subst (λ x. name_part x ≡ true) (eqb-true b 93 e) h))) (λ (e : eqb b 93 ≡ false). e) (decide (eqb b 93)),
)

scan_parts : (name : List ℕ) (rest : List ℕ) → name_parts name ≡ true → scan 0 (name ++ rest) ≡ scan 0 rest
scan_parts [] rest h = refl
scan_parts (b ∷ name) rest h =
    let (p, q) = and_true (name_part b) (name_parts name) h in
    let (x, y) = plain_part b p in
    rw (x, y) (scan_parts name rest q)

is_parts : (name : List ℕ) → is_name name ≡ true → name_parts name ≡ true
is_parts [] h = absurd (false≢true h)
is_parts (b ∷ name) h =
    let (p, q) = and_true (name_start b) (name_parts name) h in
    let part : name_part b ≡ true = or_left _ (or_left _ (or_left _ p)) in
    rw part q

scan_name : (name rest : List ℕ) → is_name name ≡ true → scan 0 (name ++ (62 ∷ rest)) ≡ scan 0 rest
scan_name name rest h = scan_parts name (62 ∷ rest) (is_parts name h)

-- Nothing is found in what is written before bytes in which nothing is found.
scan_nodes : (text : List ℕ) (ns : Nodes) → Sound text ns → (k : ℕ) (rest : List ℕ) → ((n : ℕ) → scan n rest ≡ false) → scan k (as_xml text k ns ++ rest) ≡ false
scan_nodes text nothing s k rest h = h k
scan_nodes text (element name begin end inside more) s k rest h =
    let behind : List ℕ = as_xml text 0 more ++ rest in
    let tag : List ℕ = 60 ∷ 47 ∷ name ++ (62 ∷ behind) in
    let last : scan 0 behind ≡ false = scan_nodes text more s.2 0 rest h in
    let closes : scan 0 (name ++ (62 ∷ behind)) ≡ false = scan_name name behind s.0 ∙ last in
    ap (scan k) (element_bytes text name k begin end inside more rest)
    ∙ scan_name name (as_xml text 0 inside ++ tag) s.0 ∙ scan_nodes text inside s.1 0 tag (λ n. closes)
scan_nodes text (chars begin end more) s k rest h =
    let bytes = bytes_at text begin end in
    ap (scan k) (text_bytes text k begin end more rest) ∙ scan_text bytes k (as_xml text (squares_past k bytes) more ++ rest) ∙ scan_nodes text more s.1 (squares_past k bytes) rest h

scan_kept : (text marks : List ℕ) (j : Judged) → read_xml text ≡ j → scan 0 (kept_of text marks j) ≡ false
scan_kept text marks (unwanted number place) e = refl
scan_kept text marks (wanted tree) e =
    let left = pruned marks 1 tree in
    ap (scan 0) (sym (append-nil (as_xml text 0 left)))
    ∙ scan_nodes text left (pruned_sound text marks tree 1 (derived_sound ((accepted text tree).0 e))) 0 [] (λ n. refl)

pub no_marks_end : NoMarksEnd
unfolding kept_xml
no_marks_end text marks at =
    ⊎_elim
    (λ (h : starts (ascii "]]>") (drop at (kept_xml text marks)) ≡ true). absurd (false≢true (sym (scan_kept text marks (read_xml text) refl) ∙ found at (kept_xml text marks) 0 h)))
    (λ (h : starts (ascii "]]>") (drop at (kept_xml text marks)) ≡ false). h)
    (decide (starts (ascii "]]>") (drop at (kept_xml text marks))))
