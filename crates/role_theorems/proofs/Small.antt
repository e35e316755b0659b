-- Every value and place of a role's answer is below 2^32: the limits bound the views, a role's number is given so, and each view that can be read has at most 4,096 items. Line by line of the answer. Assumes nothing.
use Prim.Native.Nat.{ℕ, suc, ◌+◌, ◌*◌, ◌≤◌, ◌<◌}
use native.Mathlib.Omega.{arith}
use mathlib.Core.Path.{◌≡◌, refl, sym, ◌∙◌, ap}
use mathlib.Core.Bool.{Bool, true, false, not, ◌||◌, cond, false≢true}
use mathlib.Core.List.{List, [], ◌∷◌, ◌++◌}
use mathlib.Core.Option.{Option, none, some}
use lib.Dec.{eqb, leb, ltb}
use lib.ListN.{length, get_or, length-append, replicate}
use borrow.Author.Tests.{ltb-false}
use Rattle.paper.specs.Tools.{when}
use Rattle.paper.specs.Limits.{text_limit, list_limit, item_limit}
use Rattle.paper.specs.Names.{names_fault}
use Rattle.paper.specs.Answers.{Answer, value, refusal, line, too_long, read_answer, read_items, read_out, compose_answer}
use Rattle.paper.specs.Roles.{view_limit, role_limit, views_of, unended, bit, chosen, beyond, is_refused, unread, first_unread, union_items, role_views, role_union, line_answer, union_answer, mask_answer}
use Rattle.paper.proofs.Tests.{none-some, some_inj}
use Rattle.paper.proofs.Refusing.{or_none}
use Rattle.answer_bounds.specs.Bounds.{Small}
use Rattle.answer_bounds.proofs.NameBounds.{fault_within}
use Rattle.answer_bounds.proofs.Bounds.{small_line, small_when, read_small, compose_small}
use Rattle.role_theorems.specs.Gateway.{RoleSmall}
use Rattle.role_theorems.proofs.Reading.{read_few}
use Rattle.role_theorems.proofs.Unions.{first_read, chosen_read, read-value}

-- The number of a view is below their count.
view_within : (list : List ℕ) (v place : ℕ) (views : List (List ℕ)) → first_unread list v views ≡ some place → place < v + length views
view_within list v place [] h = none-some h
view_within list v place (view ∷ views) h = go (unread list view) refl (view_within list (suc v) place views)
  where
    go : (b : Bool) → unread list view ≡ b → (first_unread list (suc v) views ≡ some place → place < suc v + length views) → place < v + suc (length views)
    go true p later = omega (arith, some_inj (rw p at h))
    go false p later = omega (arith, later (rw p at h))

-- Fewer views are chosen than there are, and those that can be read have at most 4,096 items each.
chosen_few : {A : Type 0} (f : ℕ → Bool) (xs : List A) → length (chosen f xs) ≤ length xs
chosen_few f [] = omega arith
chosen_few f (x ∷ xs) = go (f 0) refl (chosen_few (λ k. f (suc k)) xs)
  where
    go : (b : Bool) → f 0 ≡ b → length (chosen (λ k. f (suc k)) xs) ≤ length xs → length (cond (f 0) (x ∷ chosen (λ k. f (suc k)) xs) (chosen (λ k. f (suc k)) xs)) ≤ suc (length xs)
    go true p later = rw p (omega (arith, later))
    go false p later = rw p (omega (arith, later))

union_few : (list : List ℕ) (v : ℕ) (views : List (List ℕ)) → first_unread list v views ≡ none → length (union_items list views) ≤ item_limit * length views
union_few list v [] h = omega arith
union_few list v (view ∷ views) h =
    let p = first_read list view views v h in
    let later = union_few list (suc v) views p.1 in
    let here : length (read_items view 1 list) ≤ item_limit = read-value (read_answer view 1 list item_limit) p.0 (λ n e. read_few view list n item_limit e) in
    omega (arith, length-append (read_items view 1 list) (union_items list views), later, here)

role_few : (views list : List ℕ) (mask : ℕ) → length (views_of views) ≤ view_limit → first_unread list 0 (views_of views) ≡ none → length (role_union views list mask) ≤ 131072
unfolding role_union
role_few views list mask few h =
    let some-views = chosen_few (bit mask) (views_of views) in
    let all = union_few list 0 (role_views views mask) (chosen_read list (bit mask) (views_of views) 0 0 h) in
    omega (arith, some-views, all)

small_answer : (a later : Answer) → Small a → Small later → Small (line_answer a later)
small_answer (value n) later s l = l
small_answer (refusal number place) later s l = s

union_small : (views list : List ℕ) (mask : ℕ) (text : List ℕ) (room : ℕ) → length (views_of views) ≤ view_limit → Small (union_answer views list mask text room)
unfolding union_answer
union_small views list mask text room few = go (first_unread list 0 (views_of views)) refl
  where
    joined : List ℕ
    joined = role_union views list mask

    go : (o : Option ℕ) → first_unread list 0 (views_of views) ≡ o
        → Small
        (line 17 (first_unread list 0 (views_of views))
        (line_answer (read_answer text 1 list item_limit)
        (line 10 (when (ltb item_limit (length (role_union views list mask))) (length (role_union views list mask))) (compose_answer (read_items text 1 list) (role_union views list mask) room))))
    go (some place) e = rw e (omega (arith, view_within list 0 place (views_of views) e))
    go none e =
        rw e
        (small_answer (read_answer text 1 list item_limit) _ (read_small text 1 list item_limit)
        (small_when 10 (length (role_union views list mask)) (ltb item_limit (length (role_union views list mask))) _ (omega (arith, role_few views list mask few e))
        (λ h. compose_small (read_items text 1 list) (role_union views list mask) room)))

pub mask_small : (views list : List ℕ) (roles role mask : ℕ) (text : List ℕ) (room : ℕ) → role < 4294967296 → Small (mask_answer views list roles role mask text room)
unfolding mask_answer
mask_small views list roles role mask text room l =
    let a = too_long views text_limit in
    let b = too_long list list_limit in
    let c = too_long text text_limit in
    let d = ltb role_limit roles in
    let e = ltb view_limit (length (views_of views)) in
    small_when 1 0 (a || b || c || d || e || unended views) _ (omega arith)
    (λ h.
    let ended = or_none (a || b || c || d || e) (unended views) h in
    let many = or_none (a || b || c || d) e ended.0 in
    let long = or_none a b (or_none (a || b) c (or_none (a || b || c) d many.0).0).0 in
    let few = ltb-false view_limit (length (views_of views)) many.1 in
    let short = ltb-false list_limit (length list) long.1 in
    small_line 2 (names_fault list) _ (λ p f. omega (arith, fault_within list p f))
    (small_when 15 role (leb roles role) _ l
    (λ given. small_when 16 role (eqb mask 0 || not (eqb (beyond mask (length (views_of views))) 0)) _ l (λ named. union_small views list mask text room few))))

pub role_small : RoleSmall
role_small views list masks role text room l = mask_small views list (length masks) role (get_or masks role 0) text room l
