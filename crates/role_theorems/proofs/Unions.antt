-- The union of views keeps what one of them keeps: it selects what one of them selects, and its items, those of the views one after the other, are those of a query. By induction over the views. Assumes nothing.
use Prim.Native.Nat.{ℕ, suc, ◌+◌, ◌/◌, ◌%◌, ◌≤◌, ◌<◌, max}
use native.Mathlib.Omega.{arith}
use mathlib.Core.Path.{◌≡◌, refl, sym, ◌∙◌, ap, ap₂}
use mathlib.Core.Bool.{Bool, true, false, not, ◌&&◌, ◌||◌, cond, false≢true}
use mathlib.Core.List.{List, [], ◌∷◌, ◌++◌, append_assoc, append-nil}
use mathlib.Core.Logic.{◌⊎◌, ⊎_elim, inl, inr}
use mathlib.Core.Option.{Option, none, some}
use lib.Dec.{eqb, ltb}
use lib.ListN.{length, length-append}
use borrow.Author.Tests.{eqb-true, eqb-false, ne_eqb, eq-eqb}
use Rattle.paper.specs.Tools.{when, some_of, some_below}
use Rattle.paper.specs.Limits.{item_limit, bracket_limit}
use Rattle.paper.specs.Query.{path, Steps, Query, paths}
use Rattle.paper.specs.Items.{step_count, count_bound, good_steps, good_paths, good, encode_expr, encode_paths, encode, decode}
use Rattle.paper.specs.Measures.{nest_paths, nesting, size}
use Rattle.paper.specs.Document.{Table, nodes, over, marked}
use Rattle.paper.specs.Selection.{arrives, selects, keeps}
use Rattle.paper.specs.Composition.{composed}
use Rattle.paper.specs.Answers.{Answer, value, refusal, line, line_query, too_long, short_of_items, read_answer, read_items, compose_answer}
use Rattle.paper.specs.Roles.{views_of, bit, chosen, beyond, is_refused, unread, first_unread, united, union, union_items, role_views, role_union}
use Rattle.paper.proofs.Tests.{and_true, true_and, or_true, or_left, or_right, agree, decide, none-some}
use Rattle.paper.proofs.Keeping.{keeps_intro, keeps-elim}
use Rattle.paper.proofs.Decoding.{decode_encode}
use Rattle.role_theorems.specs.Gateway.{UnionKeeps, keeps_got, view_keeps, IsUnion, Union, Monotony, root, RootGrows, RoleUnion, NeverMalformed}
use Rattle.role_theorems.proofs.Reading.{Reads, reads}

-- TWO QUERIES. A search of two lists one after the other.
some_append : {A : Type 0} (f : A → Bool) (xs ys : List A) → some_of f (xs ++ ys) ≡ (some_of f xs || some_of f ys)
some_append f [] ys = refl
some_append f (x ∷ xs) ys = go (f x) refl (some_append f xs ys)
  where
    go : (b : Bool) → f x ≡ b → some_of f (xs ++ ys) ≡ (some_of f xs || some_of f ys) → (f x || some_of f (xs ++ ys)) ≡ (f x || some_of f xs || some_of f ys)
    go true p later = rw p
    go false p later = rw p later

module _ (t : Table) (marks : List ℕ) (q r : Query) where
  both_select : (k : ℕ) → selects t marks (united q r) k ≡ (selects t marks q k || selects t marks r k)
  unfolding selects
  both_select k =
      rw (some_append (λ p. arrives t marks p 0 k) (paths q) (paths r)) (shared (marked marks 0) (some_of (λ p. arrives t marks p 0 k) (paths q)) (some_of (λ p. arrives t marks p 0 k) (paths r)))
    where
      shared : (m a b : Bool) → (m && (a || b)) ≡ (m && a || m && b)
      shared true a b = refl
      shared false a b = refl

  -- Each of two queries keeps what it selects, so the union keeps what one of them keeps.
  both_keep : (i : ℕ) → keeps t marks (united q r) i ≡ (keeps t marks q i || keeps t marks r i)
  both_keep i =
      agree (keeps t marks (united q r) i) (keeps t marks q i || keeps t marks r i)
      (λ h. keeps-elim t marks (united q r) i h
      (λ m k l s o. ⊎_elim (λ a. or_left (keeps t marks r i) (keeps_intro t marks q i k l m a (near k o))) (λ b. or_right (keeps t marks q i) (keeps_intro t marks r i k l m b (near k o)))
      (or_true (selects t marks q k) (selects t marks r k) (sym (both_select k) ∙ s))))
      (λ h. ⊎_elim (λ a. keeps-elim t marks q i a (λ m k l s o. keeps_intro t marks (united q r) i k l m (both_select k ∙ or_left (selects t marks r k) s) (near k o)))
      (λ b. keeps-elim t marks r i b (λ m k l s o. keeps_intro t marks (united q r) i k l m (both_select k ∙ or_right (selects t marks q k) s) (near k o)))
      (or_true (keeps t marks q i) (keeps t marks r i) h))
    where
      near : (k : ℕ) → (over t i k ≡ true) ⊎ (over t k i ≡ true) → (over t i k || over t k i) ≡ true
      near k o = ⊎_elim (λ a. or_left (over t k i) a) (λ b. or_right (over t i k) b) o

-- MORE QUERIES.
or_none_right : (a : Bool) → a ≡ (a || false)
or_none_right true = refl
or_none_right false = refl

pub union_keeps : UnionKeeps
union_keeps t marks q [] i = or_none_right (keeps t marks q i)
union_keeps t marks q (r ∷ rs) i = both_keep t marks q (union r rs) i ∙ ap (λ b. keeps t marks q i || b) (union_keeps t marks r rs i)

-- ITEMS of paths one after the other.
encode_append : (ps rs : List Steps) → encode_paths (ps ++ rs) ≡ encode_paths ps ++ encode_paths rs
encode_append [] rs = refl
encode_append (p ∷ ps) rs = ap (λ l. encode_expr (path p) ++ l) (encode_append ps rs) ∙ sym (append_assoc (encode_expr (path p)) (encode_paths ps) (encode_paths rs))

good_append : (ps rs : List Steps) → good_paths ps ≡ true → good_paths rs ≡ true → good_paths (ps ++ rs) ≡ true
good_append [] rs a b = b
good_append (p ∷ ps) rs a b = let c = and_true (ltb (step_count p) count_bound && good_steps p) (good_paths ps) a in true_and c.0 (good_append ps rs c.1 b)

nest_append : (d : ℕ) (ps rs : List Steps) → nest_paths ps ≤ d → nest_paths rs ≤ d → nest_paths (ps ++ rs) ≤ d
nest_append d [] rs a b = b
nest_append d (p ∷ ps) rs a b = let later = nest_append d ps rs (omega (arith, a)) b in omega (arith, a, later)

encode_united : (q r : Query) → encode (united q r) ≡ encode q ++ encode r
unfolding encode
encode_united q r = encode_append (paths q) (paths r)

good_united : (q r : Query) → good q ≡ true → good r ≡ true → good (united q r) ≡ true
unfolding good
good_united q r a b = good_append (paths q) (paths r) a b

nest_united : (q r : Query) → nesting q ≤ bracket_limit → nesting r ≤ bracket_limit → nesting (united q r) ≤ bracket_limit
unfolding nesting
nest_united q r a b = nest_append bracket_limit (paths q) (paths r) a b

-- VIEWS THAT CAN BE READ.
pub read-value {ℓ} : {C : Type ℓ} (a : Answer) → is_refused a ≡ false → ((n : ℕ) → a ≡ value n → C) → C
read-value (value n) h next = next n refl
read-value (refusal number place) h next = absurd (false≢true (sym h))

-- The first of some views can be read, and so can the others.
pub first_read : (list view : List ℕ) (views : List (List ℕ)) (v : ℕ) → first_unread list v (view ∷ views) ≡ none → (unread list view ≡ false) × (first_unread list (suc v) views ≡ none)
first_read list view views v h = go (unread list view) refl
  where
    go : (b : Bool) → unread list view ≡ b → (unread list view ≡ false) × (first_unread list (suc v) views ≡ none)
    go true p = none-some (sym (rw p at h))
    go false p = (p, rw p at h)

-- The items of views that can be read are those of a union of queries.
record Joined (list : List ℕ) (views : List (List ℕ)) : Type 0 where
  pub one : Query
  pub others : List Query
  pub items : union_items list views ≡ encode (union one others)
  pub fine : good (union one others) ≡ true
  pub nested : nesting (union one others) ≤ bracket_limit
  pub each : (t : Table) (marks : List ℕ) (i : ℕ) → some_of (λ r. keeps t marks r i) (one ∷ others) ≡ some_of (view_keeps t marks list i) views

module _ (list view : List ℕ) (n : ℕ) (r : Reads view list n) where
  this_keeps : (t : Table) (marks : List ℕ) (i : ℕ) → keeps t marks r.is i ≡ view_keeps t marks list i view
  this_keeps t marks i = ap (keeps_got t marks i) (sym r.decodes)

  join_last : Joined list (view ∷ [])
  join_last =
      record {
        one = r.is;
        others = [];
        items = append-nil (read_items view 1 list) ∙ r.items;
        fine = r.fine;
        nested = r.nested;
        each = λ t marks i. ap (λ b. b || false) (this_keeps t marks i);
      }

  join_more : (next : List ℕ) (views : List (List ℕ)) → Joined list (next ∷ views) → Joined list (view ∷ next ∷ views)
  join_more next views j =
      let rest = union j.one j.others in
      record {
        one = r.is;
        others = j.one ∷ j.others;
        items = ap₂ (λ a b. a ++ b) r.items j.items ∙ sym (encode_united r.is rest);
        fine = good_united r.is rest r.fine j.fine;
        nested = nest_united r.is rest r.nested j.nested;
        each = λ t marks i. ap₂ (λ a b. a || b) (this_keeps t marks i) (j.each t marks i);
      }

joins : (list view : List ℕ) (views : List (List ℕ)) (v : ℕ) → first_unread list v (view ∷ views) ≡ none → Joined list (view ∷ views)
joins list view [] v h =
    read-value (read_answer view 1 list item_limit) (first_read list view [] v h).0 (λ n e. join_last list view n (reads view list n item_limit e))
joins list view (next ∷ views) v h =
    let p = first_read list view (next ∷ views) v h in
    let later = joins list next views (suc v) p.1 in
    read-value (read_answer view 1 list item_limit) p.0 (λ n e. join_more list view n (reads view list n item_limit e) next views later)

-- UNION.
pub union_is : Union
union_is list v [] h some_view = absurd (omega arith)
union_is list v (view ∷ views) h some_view =
    let j = joins list view views v h in
    record {
      is = union j.one j.others;
      decodes = ap decode j.items ∙ decode_encode (union j.one j.others) j.fine j.nested;
      keeps_each = λ t marks i. union_keeps t marks j.one j.others i ∙ j.each t marks i;
    }

-- THE VIEWS OF A ROLE can be read where all can,
pub chosen_read : (list : List ℕ) (f : ℕ → Bool) (views : List (List ℕ)) (v w : ℕ) → first_unread list v views ≡ none → first_unread list w (chosen f views) ≡ none
chosen_read list f [] v w h = refl
chosen_read list f (view ∷ views) v w h =
    let p = first_read list view views v h in
    go (f 0) refl p.0 (λ u. chosen_read list (λ k. f (suc k)) views (suc v) u p.1)
  where
    go : (b : Bool) → f 0 ≡ b → unread list view ≡ false → ((u : ℕ) → first_unread list u (chosen (λ k. f (suc k)) views) ≡ none)
        → first_unread list w (cond (f 0) (view ∷ chosen (λ k. f (suc k)) views) (chosen (λ k. f (suc k)) views)) ≡ none
    go true p u later = rw (p, u) (later (suc w))
    go false p u later = rw p (later w)

-- and there is one where its mask is not 0 and names none that is not given.
some_chosen : (mask : ℕ) (views : List (List ℕ)) → eqb mask 0 ≡ false → eqb (beyond mask (length views)) 0 ≡ true → 1 ≤ length (chosen (bit mask) views)
some_chosen mask [] n b = absurd (false≢true (sym n ∙ b))
some_chosen mask (view ∷ views) n b = go (bit mask 0) refl (some_chosen (mask / 2) views)
  where
    go : (x : Bool) → bit mask 0 ≡ x → (eqb (mask / 2) 0 ≡ false → eqb (beyond (mask / 2) (length views)) 0 ≡ true → 1 ≤ length (chosen (bit (mask / 2)) views))
        → 1 ≤ length (cond (bit mask 0) (view ∷ chosen (bit (mask / 2)) views) (chosen (bit (mask / 2)) views))
    go true p later = rw p (omega arith)
    go false p later =
        let odd = eqb-false (mask % 2) 1 p in
        let full = eqb-false mask 0 n in
        rw p (later (ne_eqb (mask / 2) 0 (λ e. full (omega (arith, odd, e)))) b)

pub role-union : RoleUnion
role-union views list mask h n b =
    union_is list 0 (role_views views mask) (chosen_read list (bit mask) (views_of views) 0 0 h) (some_chosen mask (views_of views) n b)

-- MONOTONY.
more_chosen : {A : Type 0} (test : A → Bool) (f g : ℕ → Bool) (xs : List A) → ((v : ℕ) → f v ≡ true → g v ≡ true) → some_of test (chosen f xs) ≡ true → some_of test (chosen g xs) ≡ true
more_chosen test f g [] h s = s
more_chosen {A} test f g (x ∷ xs) h s = go (f 0) refl (g 0) refl (more_chosen test (λ k. f (suc k)) (λ k. g (suc k)) xs (λ v e. h (suc v) e))
  where
    go : (a : Bool) → f 0 ≡ a → (b : Bool) → g 0 ≡ b → (some_of test (chosen (λ k. f (suc k)) xs) ≡ true → some_of test (chosen (λ k. g (suc k)) xs) ≡ true)
        → some_of test (cond (g 0) (x ∷ chosen (λ k. g (suc k)) xs) (chosen (λ k. g (suc k)) xs)) ≡ true
    go true p true q later =
        rw q
        (⊎_elim (λ e. or_left (some_of test (chosen (λ k. g (suc k)) xs)) e) (λ e. or_right (test x) (later e))
        (or_true (test x) (some_of test (chosen (λ k. f (suc k)) xs)) (rw p at s)))
    go true p false q later = absurd (false≢true (sym q ∙ h 0 p))
    go false p true q later = rw q (or_right (test x) (later (rw p at s)))
    go false p false q later = rw q (later (rw p at s))

pub monotony : Monotony
monotony list views mask more h u w t marks i k =
    w.keeps_each t marks i ∙ more_chosen (view_keeps t marks list i) (bit mask) (bit more) views h (sym (u.keeps_each t marks i) ∙ k)

pub root_grows : RootGrows
unfolding selects
root_grows t marks more h i l k =
    keeps-elim t marks root i k
    (λ m j b s o. keeps_intro t more root i j b (h i l m) (selected j b s) (⊎_elim (λ a. or_left (over t j i) a) (λ a. or_right (over t i j) a) o))
  where
    selected : (j : ℕ) → j < nodes t → selects t marks root j ≡ true → selects t more root j ≡ true
    selected j b s =
        let p = and_true (marked marks 0) (eqb 0 j || false) s in
        true_and (h 0 (omega (arith, b)) p.0) p.1

-- NEVER MALFORMED. Neither a query that was read nor the union is refused with 6.
not_given : (wanted number place : ℕ) (o : Option ℕ) (later : Answer) → (number ≡ wanted → ⊥) → (later ≡ refusal wanted place → ⊥) → line number o later ≡ refusal wanted place → ⊥
not_given wanted number place none later other more h = more h
not_given wanted number place (some p) later other more h = other (cc)

not_value : (n wanted place : ℕ) → value n ≡ refusal wanted place → ⊥
not_value n wanted place e = let z : ◌≡◌ {A = ℕ} 0 1 = cc in omega arith

pub never_malformed : NeverMalformed
unfolding compose_answer role_union
never_malformed views list mask text room n place u h e =
    let r = reads text list n item_limit h in
    let q = composed r.is u.is in
    let ten = not_given 6 10 place (short_of_items room (size q)) (value (size q)) (λ e. omega arith) (not_value (size q) 6 place) in
    let nine = not_given 6 9 place (when (ltb bracket_limit (nesting q)) (nesting q)) _ (λ e. omega arith) ten in
    not_given 6 1 place (when (too_long (read_items text 1 list) item_limit || too_long (union_items list (role_views views mask)) item_limit) 0) _ (λ e. omega arith) nine
    (rw (r.decodes, u.decodes) at e)
