-- A role's answer is decided by what it uses: past the limits only its mask, the views that it names and that all views can be read play a part. By induction over both lists of views. Assumes nothing.
use Prim.Native.Nat.{ℕ, zero, suc, ◌/◌, ◌%◌, ◌≤◌}
use native.Mathlib.Omega.{arith}
use mathlib.Core.Path.{◌≡◌, refl, sym, ◌∙◌, ap, ap₂}
use mathlib.Core.Bool.{Bool, true, false, not, ◌||◌, cond}
use mathlib.Core.List.{List, [], ◌∷◌}
use mathlib.Core.Option.{Option, none, some}
use lib.Dec.{eqb, leb, ltb}
use lib.ListN.{length, get_or}
use borrow.Author.Tests.{le-ltb, eqb-true, eqb-false, ne_eqb, eq-eqb}
use Rattle.paper.specs.Tools.{when}
use Rattle.paper.specs.Limits.{text_limit, list_limit, item_limit}
use Rattle.paper.specs.Names.{names_fault}
use Rattle.paper.specs.Items.{decode}
use Rattle.paper.specs.Answers.{Answer, line, at_exit, too_long, read_answer, read_items, compose_answer, composed_got}
use Rattle.paper.specs.Roles.{view_limit, role_limit, views_of, unended, bit, chosen, beyond, first_unread, union_items, role_views, role_union, line_answer, union_answer, mask_answer, role_items, mask_out}
use Rattle.paper.proofs.Tests.{none-some, some_inj}
use Rattle.role_theorems.specs.Gateway.{given, Within, SameFor, Independence}

-- WHAT IS CHOSEN of two lists that agree where the test passes is the same. Where nothing is given that passes, nothing is chosen.
off : {A : Type 0} (b : Bool) (a : A) → (b ≡ true → none ≡ some a) → b ≡ false
off true a h = none-some (h refl)
off false a h = refl

none_chosen : {A : Type 0} (f : ℕ → Bool) (ys : List A) → ((v : ℕ) → f v ≡ true → none ≡ given ys v) → [] ≡ chosen f ys
none_chosen f [] h = refl
none_chosen f (y ∷ ys) h = let this = off (f 0) y (h 0) in rw this (none_chosen (λ k. f (suc k)) ys (λ v e. h (suc v) e))

same_chosen : {A : Type 0} (f : ℕ → Bool) (xs ys : List A) → ((v : ℕ) → f v ≡ true → given xs v ≡ given ys v) → chosen f xs ≡ chosen f ys
same_chosen f [] ys h = none_chosen f ys h
same_chosen f (x ∷ xs) [] h = sym (none_chosen f (x ∷ xs) (λ v e. sym (h v e)))
same_chosen {A} f (x ∷ xs) (y ∷ ys) h = go (f 0) refl (same_chosen (λ k. f (suc k)) xs ys (λ v e. h (suc v) e))
  where
    go : (b : Bool) → f 0 ≡ b → chosen (λ k. f (suc k)) xs ≡ chosen (λ k. f (suc k)) ys → chosen f (x ∷ xs) ≡ chosen f (y ∷ ys)
    go true p later = rw p (ap₂ (λ a l. a ∷ l) (some_inj (h 0 p)) later)
    go false p later = rw p later

-- A VIEW THAT IS NOT GIVEN is named in both or in neither.
even_half : (mask : ℕ) → bit mask 0 ≡ false → eqb (mask / 2) 0 ≡ eqb mask 0
even_half mask p = go (eqb mask 0) refl
  where
    odd : mask % 2 ≡ 1 → ⊥
    odd = eqb-false (mask % 2) 1 p

    go : (b : Bool) → eqb mask 0 ≡ b → eqb (mask / 2) 0 ≡ eqb mask 0
    go true e = let zero-mask = eqb-true mask 0 e in eq-eqb (mask / 2) 0 (omega (arith, zero-mask)) ∙ sym e
    go false e = let full = eqb-false mask 0 e in ne_eqb (mask / 2) 0 (λ z. full (omega (arith, odd, z))) ∙ sym e

none_beyond : {A : Type 0} (mask : ℕ) (ys : List A) → ((v : ℕ) → bit mask v ≡ true → none ≡ given ys v) → eqb mask 0 ≡ eqb (beyond mask (length ys)) 0
none_beyond mask [] h = refl
none_beyond mask (y ∷ ys) h = sym (even_half mask (off (bit mask 0) y (h 0))) ∙ none_beyond (mask / 2) ys (λ v e. h (suc v) e)

same_beyond : {A : Type 0} (mask : ℕ) (xs ys : List A) → ((v : ℕ) → bit mask v ≡ true → given xs v ≡ given ys v) → eqb (beyond mask (length xs)) 0 ≡ eqb (beyond mask (length ys)) 0
same_beyond mask [] ys h = none_beyond mask ys h
same_beyond mask (x ∷ xs) [] h = sym (none_beyond mask (x ∷ xs) (λ v e. sym (h v e)))
same_beyond mask (x ∷ xs) (y ∷ ys) h = same_beyond (mask / 2) xs ys (λ v e. h (suc v) e)

-- THE LINES after the limits, by what they use.
abbrev lines_left : List ℕ → ℕ → List ℕ → ℕ → Bool → Bool → Option ℕ → List ℕ → Answer
lines_left list role text room absent unnamed faulty joined =
    line 2 (names_fault list)
    (line 15 (when absent role)
    (line 16 (when unnamed role)
    (line 17 faulty
    (line_answer (read_answer text 1 list item_limit)
    (line 10 (when (ltb item_limit (length joined)) (length joined)) (compose_answer (read_items text 1 list) joined room))))))

module _ (views list masks : List ℕ) (role mask : ℕ) (text : List ℕ) (w : Within views list masks text) where
  within_lines : (room : ℕ)
      → mask_answer views list (length masks) role mask text room
      ≡ lines_left list role text room (leb (length masks) role) (eqb mask 0 || not (eqb (beyond mask (length (views_of views))) 0)) (first_unread list 0 (views_of views)) (role_union views list mask)
  unfolding mask_answer union_answer
  within_lines room =
      rw (
        le-ltb text_limit (length views) w.views_short,
        le-ltb list_limit (length list) w.list_short,
        le-ltb text_limit (length text) w.text_short,
        le-ltb role_limit (length masks) w.masks_few,
        le-ltb view_limit (length (views_of views)) w.views_few,
        w.views_ended,
      )

module _ (views views' list : List ℕ) (mask : ℕ) (h : (v : ℕ) → bit mask v ≡ true → given (views_of views) v ≡ given (views_of views') v) where
  same_union : role_union views list mask ≡ role_union views' list mask
  unfolding role_union
  same_union = ap (union_items list) (same_chosen (bit mask) (views_of views) (views_of views') h)

module _ (views views' list masks masks' : List ℕ) (role mask : ℕ) (text : List ℕ) (w : Within views list masks text) (w' : Within views' list masks' text)
    (f : first_unread list 0 (views_of views) ≡ none) (f' : first_unread list 0 (views_of views') ≡ none) (r : leb (length masks) role ≡ leb (length masks') role)
    (h : (v : ℕ) → bit mask v ≡ true → given (views_of views) v ≡ given (views_of views') v) where
  same_lines : (room : ℕ) → mask_answer views list (length masks) role mask text room ≡ mask_answer views' list (length masks') role mask text room
  same_lines room =
      within_lines views list masks role mask text w room ∙
      ap (λ b. lines_left list role text room b (eqb mask 0 || not (eqb (beyond mask (length (views_of views))) 0)) (first_unread list 0 (views_of views)) (role_union views list mask)) r ∙
      ap (λ b. lines_left list role text room (leb (length masks') role) (eqb mask 0 || not b) (first_unread list 0 (views_of views)) (role_union views list mask)) (same_beyond mask (views_of views) (views_of views') h) ∙
      ap₂ (λ o u. lines_left list role text room (leb (length masks') role) (eqb mask 0 || not (eqb (beyond mask (length (views_of views'))) 0)) o u) (f ∙ sym f') (same_union views views' list mask h) ∙
      sym (within_lines views' list masks' role mask text w' room)

  same_out : (out : List ℕ) → mask_out views list (length masks) role mask text out ≡ mask_out views' list (length masks') role mask text out
  unfolding mask_out role_items
  same_out out =
      ap₂ (λ a u. at_exit a (composed_got (decode (read_items text 1 list)) (decode u)) out) (same_lines (length out)) (same_union views views' list mask h)

pub independence : Independence
independence views views' list masks masks' role text w w' f f' s =
    let mask = get_or masks role 0 in
    let e = s.same_mask in (
      λ room. same_lines views views' list masks masks' role mask text w w' f f' s.same_role s.same_views room ∙ ap (λ m. mask_answer views' list (length masks') role m text room) e,
      λ out. same_out views views' list masks masks' role mask text w w' f f' s.same_role s.same_views out ∙ ap (λ m. mask_out views' list (length masks') role m text out) e,
    )
