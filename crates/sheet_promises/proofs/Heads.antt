-- The beginning of an input is enough: a first line or a list that is cut off is too long to be read. By induction over the bytes. Assumes nothing.
use Prim.Native.Nat.{ℕ, zero, suc, ◌+◌, ◌-◌, ◌<◌, ◌≤◌}
use native.Mathlib.Omega.{arith}
use mathlib.Core.Path.{◌≡◌, refl, sym, ◌∙◌, ap, ap₂}
use mathlib.Core.Bool.{Bool, true, false, ◌&&◌, ◌||◌, cond}
use mathlib.Core.List.{List, [], ◌∷◌, ◌++◌}
use lib.Dec.{eqb, ltb}
use lib.ListN.{length, take, drop, take-append-drop}
use lib.Seq.{take-nil, drop-nil}
use borrow.Author.Tests.{lt-ltb, ltb-true, ltb-false}
use Rattle.paper.specs.Limits.{text_limit, list_limit, item_limit}
use Rattle.paper.specs.Answers.{value, refusal, too_long, read_answer}
use Rattle.paper.specs.Program.{first_line, after_line}
use Rattle.paper.specs.Sheet.{list_part, files_part}
use Rattle.sheet.specs.Sheets.{head_room}
use Rattle.sheet_promises.specs.Heads.{view_answer, HeadEnough}

-- Bytes that are cut off after k of them: a first line that is shorter stays whole,
line_kept : (k : ℕ) (bytes : List ℕ) → length (first_line bytes) < k →
    (first_line (take k bytes) ≡ first_line bytes)
    × (after_line (take k bytes) ≡ take (k - suc (length (first_line bytes))) (after_line bytes))
    × (drop k bytes ≡ drop (k - suc (length (first_line bytes))) (after_line bytes))
line_kept zero bytes l = absurd (omega arith)
line_kept (suc k) [] l = (refl, sym (take-nil (suc k - 1)), sym (drop-nil (suc k - 1)))
line_kept (suc k) (b ∷ bs) l = go (eqb b 10) l (λ m. line_kept k bs m)
  where
    go : (ends : Bool) → length (cond ends [] (b ∷ first_line bs)) < suc k
        → (length (first_line bs) < k → (first_line (take k bs) ≡ first_line bs)
        × (after_line (take k bs) ≡ take (k - suc (length (first_line bs))) (after_line bs))
        × (drop k bs ≡ drop (k - suc (length (first_line bs))) (after_line bs)))
        → (cond ends [] (b ∷ first_line (take k bs)) ≡ cond ends [] (b ∷ first_line bs))
        × (cond ends (take k bs) (after_line (take k bs)) ≡ take (suc k - suc (length (cond ends [] (b ∷ first_line bs)))) (cond ends bs (after_line bs)))
        × (drop k bs ≡ drop (suc k - suc (length (cond ends [] (b ∷ first_line bs)))) (cond ends bs (after_line bs)))
    go true m later = let e : suc k - 1 ≡ k = omega arith in (refl, rw e, rw e)
    go false m later =
        let e : suc k - suc (suc (length (first_line bs))) ≡ k - suc (length (first_line bs)) = omega arith in
        let (line, after, rest) = later (omega arith) in
        (ap (λ (bytes : List ℕ). b ∷ bytes) line, rw e after, rw e rest)

-- and of a longer one all k are left.
line_cut : (k : ℕ) (bytes : List ℕ) → k ≤ length (first_line bytes) → length (first_line (take k bytes)) ≡ k
line_cut zero bytes l = refl
line_cut (suc k) [] l = absurd (omega arith)
line_cut (suc k) (b ∷ bs) l = go (eqb b 10) l (λ m. line_cut k bs m)
  where
    go : (ends : Bool) → suc k ≤ length (cond ends [] (b ∷ first_line bs)) → (k ≤ length (first_line bs) → length (first_line (take k bs)) ≡ k)
        → length (cond ends [] (b ∷ first_line (take k bs))) ≡ suc k
    go true m later = absurd (omega arith)
    go false m later = ap suc (later (omega arith))

-- The same of a name list, behind which the names of files go on.
list_kept : (starts : Bool) (k : ℕ) (bytes : List ℕ) → length (list_part starts bytes) < k →
    (list_part starts (take k bytes) ≡ list_part starts bytes) × (files_part starts bytes ≡ files_part starts (take k bytes) ++ drop k bytes)
list_kept starts zero bytes l = absurd (omega arith)
list_kept starts (suc k) [] l = (refl, refl)
list_kept starts (suc k) (b ∷ bs) l = go (starts && eqb b 10) l (λ m. list_kept (eqb b 10) k bs m)
  where
    go : (ends : Bool) → length (cond ends [] (b ∷ list_part (eqb b 10) bs)) < suc k
        → (length (list_part (eqb b 10) bs) < k → (list_part (eqb b 10) (take k bs) ≡ list_part (eqb b 10) bs)
        × (files_part (eqb b 10) bs ≡ files_part (eqb b 10) (take k bs) ++ drop k bs))
        → (cond ends [] (b ∷ list_part (eqb b 10) (take k bs)) ≡ cond ends [] (b ∷ list_part (eqb b 10) bs))
        × (cond ends bs (files_part (eqb b 10) bs) ≡ cond ends (take k bs) (files_part (eqb b 10) (take k bs)) ++ drop k bs)
    go true m later = (refl, sym (take-append-drop k bs))
    go false m later = let (names, files) = later (omega arith) in (ap (λ (bytes : List ℕ). b ∷ bytes) names, files)

list_cut : (starts : Bool) (k : ℕ) (bytes : List ℕ) → k ≤ length (list_part starts bytes) → length (list_part starts (take k bytes)) ≡ k
list_cut starts zero bytes l = refl
list_cut starts (suc k) [] l = absurd (omega arith)
list_cut starts (suc k) (b ∷ bs) l = go (starts && eqb b 10) l (λ m. list_cut (eqb b 10) k bs m)
  where
    go : (ends : Bool) → suc k ≤ length (cond ends [] (b ∷ list_part (eqb b 10) bs)) → (k ≤ length (list_part (eqb b 10) bs) → length (list_part (eqb b 10) (take k bs)) ≡ k)
        → length (cond ends [] (b ∷ list_part (eqb b 10) (take k bs))) ≡ suc k
    go true m later = absurd (omega arith)
    go false m later = ap suc (later (omega arith))

-- A text or a list too long.
or_true : (b : Bool) → (b || true) ≡ true
or_true true = refl
or_true false = refl

long_text : (text list : List ℕ) → text_limit < length text → read_answer text 1 list item_limit ≡ refusal 1 0
unfolding read_answer
long_text text list l = rw (lt-ltb text_limit (length text) l)

long_list : (text list : List ℕ) → list_limit < length list → read_answer text 1 list item_limit ≡ refusal 1 0
unfolding read_answer
long_list text list l = rw (lt-ltb list_limit (length list) l, or_true (too_long text text_limit))

-- What is owed of an input, and that nothing is owed of files where it is refused.
abbrev Enough : List ℕ → Type 0
Enough input =
    let head = take head_room input in
    (view_answer head ≡ view_answer input)
    × ((n : ℕ) → view_answer input ≡ value n →
    (first_line head ≡ first_line input)
    × (list_part true (after_line head) ≡ list_part true (after_line input))
    × (files_part true (after_line input) ≡ files_part true (after_line head) ++ drop head_room input))

refused : (input : List ℕ) → view_answer (take head_room input) ≡ refusal 1 0 → view_answer input ≡ refusal 1 0 → Enough input
refused input h i = (h ∙ sym i, λ n v. absurd (let z : ◌≡◌ {A = ℕ} 0 1 = cc in omega arith))

pub head_enough : HeadEnough
head_enough input = view (ltb (length (first_line input)) head_room) refl
  where
    names : length (first_line input) < head_room → length (first_line input) ≤ text_limit → (short : Bool)
        → ltb (length (list_part true (after_line input))) (head_room - suc (length (first_line input))) ≡ short → Enough input
    names l m true e =
        let left = head_room - suc (length (first_line input)) in
        let (line, after, rest) = line_kept head_room input l in
        let (list, files) = list_kept true left (after_line input) (ltb-true (length (list_part true (after_line input))) left e) in
        let same-list : list_part true (after_line (take head_room input)) ≡ list_part true (after_line input) = ap (list_part true) after ∙ list in
        let same-files : files_part true (after_line input) ≡ files_part true (after_line (take head_room input)) ++ drop head_room input = rw (after, rest) files in
        (ap₂ (λ text names. read_answer text 1 names item_limit) line same-list, λ n v. (line, same-list, same-files))
    names l m false e =
        let left = head_room - suc (length (first_line input)) in
        let (line, after, rest) = line_kept head_room input l in
        let long : left ≤ length (list_part true (after_line input)) = ltb-false (length (list_part true (after_line input))) left e in
        let cut : length (list_part true (after_line (take head_room input))) ≡ left = ap (λ bytes. length (list_part true bytes)) after ∙ list_cut true left (after_line input) long in
        refused input (long_list (first_line (take head_room input)) (list_part true (after_line (take head_room input))) (omega arith)) (long_list (first_line input) (list_part true (after_line input)) (omega arith))

    text : length (first_line input) < head_room → (short : Bool) → ltb text_limit (length (first_line input)) ≡ short → Enough input
    text l true e =
        let long : text_limit < length (first_line input) = ltb-true text_limit (length (first_line input)) e in
        let whole : length (first_line (take head_room input)) ≡ length (first_line input) = ap length (line_kept head_room input l).0 in
        refused input (long_text (first_line (take head_room input)) (list_part true (after_line (take head_room input))) (omega arith)) (long_text (first_line input) (list_part true (after_line input)) long)
    text l false e =
        names l (ltb-false text_limit (length (first_line input)) e) (ltb (length (list_part true (after_line input))) (head_room - suc (length (first_line input)))) refl

    view : (short : Bool) → ltb (length (first_line input)) head_room ≡ short → Enough input
    view true e = text (ltb-true (length (first_line input)) head_room e) (ltb text_limit (length (first_line input))) refl
    view false e =
        let long : head_room ≤ length (first_line input) = ltb-false (length (first_line input)) head_room e in
        let cut : length (first_line (take head_room input)) ≡ head_room = line_cut head_room input long in
        refused input (long_text (first_line (take head_room input)) (list_part true (after_line (take head_room input))) (omega arith)) (long_text (first_line input) (list_part true (after_line input)) (omega arith))
