-- The turns of the items of a query, where the first place is told 1 and all others 0, leave the items of the marked query.
-- Before their turn the places of a part hold what its first step is told, and 0 elsewhere; by induction over the query. Assumes nothing.
use Prim.Native.Nat.{ℕ, zero, suc, ◌+◌, ◌*◌, ◌/◌, ◌%◌, ◌≤◌, ◌<◌}
use native.Mathlib.Omega.{arith}
use mathlib.Core.Path.{◌≡◌, refl, sym, ◌∙◌, ap, ap₂, subst}
use mathlib.Core.Bool.{Bool, true, false, not, ◌&&◌, ◌||◌, cond}
use mathlib.Core.List.{List, [], ◌∷◌, ◌++◌, map, append_assoc, append-nil}
use lib.Dec.{eqb, ltb}
use mathlib.Core.Option.{Option, some}
use lib.ListN.{length, get_or, set, take, drop, replicate, length-append}
use lib.Seq.{set_at, set_out, get_or_at, drop_at, drop-set-lt}
use borrow.Author.Tests.{lt-ltb, ltb-true}
use Rattle.paper.specs.Query.{Axis, self, child, parent, descendant_or_self, ancestor_or_self, descendant, ancestor, following_sibling, preceding_sibling, following, preceding}
use Rattle.paper.specs.Query.{Test, Expr, path, both, either, negated, Steps, stop, step, Preds, bare, pred, Query, paths}
use Rattle.paper.specs.Items.{axis_number, test_number, pack_path, pack_step, path_at, step_at, and_item, or_item, not_item, step_count, pred_count, encode_expr, encode_steps, encode_preds, encode_paths, encode, decode, good_test, good_expr, good_steps, good_preds, good_paths, good, count_bound}
use Rattle.paper.specs.Tools.{written}
use Rattle.paper.specs.Composition.{guarded}
use Rattle.paper.specs.Lean.{goes_down, is_self, may_be_hidden, down_next, leanly, loose_after}
use Rattle.paper.proofs.Tests.{and_true}
use Rattle.paper.proofs.Axes.{axis-number}
use Rattle.paper.proofs.Encoding.{encode_decode}
use Rattle.paper.proofs.Sizes.{size_items}
use Rattle.lean_theorems.proofs.Marks.{marked_measures}
use Rattle.lean_theorems.specs.Marks.{saying, mark_expr, mark_steps, mark_preds, mark_path, marked}
use Rattle.item.specs.Unpacked.{unpacked, packed, guarded_number}
use Rattle.item.specs.declared.Step.{Step}
use Rattle.item.proofs.Saying.{unpack_path, unpack_step}
use Rattle.item.proofs.GuardedAxes.{guarded-number}
use Rattle.owed.specs.Owing.{eaten}
use Rattle.owed.proofs.Owing.{good_step, good_path, preds_eaten, steps_eaten, none_eaten}
use Rattle.lean_marks.specs.Turns.{down_axis, down_number, down_as, down_item, state_of, pass_on, past, down_at, step_told, step_turn, path_told, turn_as, turn, turns, marked_got}

-- Places that are told nothing.
abbrev pub blank : List ℕ → List ℕ
blank [] = []
blank (w ∷ ws) = 0 ∷ blank ws

blank_append : (xs ys : List ℕ) → blank (xs ++ ys) ≡ blank xs ++ blank ys
blank_append [] ys = refl
blank_append (x ∷ xs) ys = ap (λ (l : List ℕ). 0 ∷ l) (blank_append xs ys)

blank_length : (xs : List ℕ) → length (blank xs) ≡ length xs
blank_length [] = refl
blank_length (x ∷ xs) = ap suc (blank_length xs)

-- What the places of steps hold before their turn.
abbrev told : Steps → Bool → Bool → List ℕ
told stop loose last = []
told (step a x ps rest) loose last = state_of (step_count rest) loose (cond last 1 0) ∷ (blank (encode_preds ps) ++ blank (encode_steps rest))

-- The turns of one part after those of another.
turns_after : (items : List ℕ) (place : ℕ) (xs ys marks : List ℕ) → turns items place (xs ++ ys) marks ≡ turns items (place + length xs) ys (turns items place xs marks)
turns_after items place [] ys marks = ap (λ (n : ℕ). turns items n ys marks) (let e : place ≡ place + 0 = omega arith in e)
turns_after items place (x ∷ xs) ys marks =
    turns_after items (place + 1) xs ys (turn items place x marks) ∙
    ap (λ (n : ℕ). turns items n ys (turns items (place + 1) xs (turn items place x marks))) (let e : place + 1 + length xs ≡ place + suc (length xs) = omega arith in e)

-- A step's number tells whether it goes down, and whether it is self.
down_step : (a : Axis) (x : Test) (n : ℕ) → good_test x ≡ true → n < count_bound → down_item (pack_step a x n) ≡ goes_down a
unfolding down_item down_number
down_step a x n g l = ap down_as (unpack_step a x n g l) ∙ ap down_axis (axis-number a)

self_number : (a : Axis) → eqb (axis_number a) 0 ≡ is_self a
self_number self = refl
self_number child = refl
self_number parent = refl
self_number descendant_or_self = refl
self_number ancestor_or_self = refl
self_number descendant = refl
self_number ancestor = refl
self_number following_sibling = refl
self_number preceding_sibling = refl
self_number following = refl
self_number preceding = refl

-- What is told can be told apart.
left_is : (left : ℕ) (loose last : Bool) → state_of left loose (cond last 1 0) / 4 ≡ left
left_is left true true = omega arith
left_is left true false = omega arith
left_is left false true = omega arith
left_is left false false = omega arith

last_is : (left : ℕ) (loose last : Bool) → state_of left loose (cond last 1 0) % 2 ≡ cond last 1 0
last_is left true true = omega arith
last_is left true false = omega arith
last_is left false true = omega arith
last_is left false false = omega arith

loose_is : (left : ℕ) (loose last : Bool) → eqb (state_of left loose (cond last 1 0) / 2 % 2) 1 ≡ loose
loose_is left true true = ap (λ (n : ℕ). eqb n 1) (let e : (left * 4 + 2 + 1) / 2 % 2 ≡ 1 = omega arith in e)
loose_is left true false = ap (λ (n : ℕ). eqb n 1) (let e : (left * 4 + 2 + 0) / 2 % 2 ≡ 1 = omega arith in e)
loose_is left false true = ap (λ (n : ℕ). eqb n 1) (let e : (left * 4 + 0 + 1) / 2 % 2 ≡ 0 = omega arith in e)
loose_is left false false = ap (λ (n : ℕ). eqb n 1) (let e : (left * 4 + 0 + 0) / 2 % 2 ≡ 0 = omega arith in e)

last_says : (last : Bool) → eqb (cond last 1 0) 1 ≡ last
last_says true = refl
last_says false = refl

said_axis : (g : Bool) (x : Test) (n : ℕ) → packed (record { axis = cond g 1 0; test = test_number x; count = n }) ≡ pack_step (saying g) x n
said_axis true x n = refl
said_axis false x n = refl

-- One step's turn.
module _ (items pre post done after : List ℕ) (k : ℕ) (a : Axis) (x : Test) (ps : Preds) (rest : Steps) (loose last : Bool)
    (there : items ≡ pre ++ (encode_steps (step a x ps rest) ++ post)) (lp : length pre ≡ k) (ld : length done ≡ k) (fine : good_steps (step a x ps rest) ≡ true) where
  abbrev n : ℕ
  n = pred_count ps

  abbrev w : ℕ
  w = pack_step a x n

  abbrev P : List ℕ
  P = encode_preds ps

  abbrev R : List ℕ
  R = encode_steps rest

  abbrev st : ℕ
  st = state_of (step_count rest) loose (cond last 1 0)

  abbrev marks : List ℕ
  marks = done ++ (st ∷ ((blank P ++ blank R) ++ after))

  abbrev said : Step
  said = record { axis = axis_number a; test = test_number x; count = n }

  abbrev next : ℕ
  next = k + 1 + length P

  abbrev guards : Bool
  guards = leanly loose a (down_next last rest)

  onward : drop (k + 1) items ≡ P ++ (R ++ post)
  onward =
      ap (drop (k + 1)) (there ∙ sym (append_assoc pre (w ∷ []) ((P ++ R) ++ post))) ∙
      drop_at (pre ++ (w ∷ [])) ((P ++ R) ++ post) (k + 1) (omega (arith, length-append pre (w ∷ []), lp)) ∙ append_assoc P R post

  past_is : past items k n ≡ next
  past_is =
      let h = good_step a x ps rest fine in
      let e : n ≡ n + 0 = omega arith in
      ap (λ (l : List ℕ). k + 1 + eaten l n) onward ∙ (let f : k + 1 + eaten (P ++ (R ++ post)) n ≡ next = omega (arith, preds_eaten ps h.preds (R ++ post) n 0 e, none_eaten (R ++ post)) in f)

  hidden_is : (guarded_number (axis_number a) || (eqb (axis_number a) 0 && loose)) ≡ may_be_hidden loose a
  hidden_is = ap₂ (λ (p q : Bool). p || (q && loose)) (sym (guarded-number a (axis_number a) refl)) (self_number a)

  told_is : step_turn items k said marks ≡ step_told items k said (step_count rest) loose (cond last 1 0) marks
  told_is =
      ap (λ (t : ℕ). step_told items k said (t / 4) (eqb (t / 2 % 2) 1) (t % 2) marks) (get_or_at done st ((blank P ++ blank R) ++ after) 0 k ld) ∙
      ap (λ (m : ℕ). step_told items k said m (eqb (st / 2 % 2) 1) (st % 2) marks) (left_is (step_count rest) loose last) ∙
      ap₂ (λ (b : Bool) (m : ℕ). step_told items k said (step_count rest) b m marks) (loose_is (step_count rest) loose last) (last_is (step_count rest) loose last)

-- Does a step that goes down follow, by the items?
down_is : (items pre post : List ℕ) (k : ℕ) (a : Axis) (x : Test) (ps : Preds) (rest : Steps) (last : Bool) → items ≡ pre ++ (encode_steps (step a x ps rest) ++ post)
    → length pre ≡ k → good_steps (step a x ps rest) ≡ true → down_at items (k + 1 + length (encode_preds ps)) (step_count rest) (cond last 1 0) ≡ down_next last rest
down_is items pre post k a x ps stop last there lp fine = last_says last
down_is items pre post k a x ps (step b y qs rest) last there lp fine =
    let P = encode_preds ps in
    let w = pack_step a x (pred_count ps) in
    let v = pack_step b y (pred_count qs) in
    let front : List ℕ = pre ++ (w ∷ P) in
    let tail : List ℕ = (encode_preds qs ++ encode_steps rest) ++ post in
    let h = good_step b y qs rest (good_step a x ps (step b y qs rest) fine).later in
    let long : length front ≡ k + 1 + length P = omega (arith, length-append pre (w ∷ P), lp) in
    let split : items ≡ front ++ (v ∷ tail) =
    there ∙ ap (λ (l : List ℕ). pre ++ (w ∷ l)) (append_assoc P (v ∷ (encode_preds qs ++ encode_steps rest)) post) ∙ sym (append_assoc pre (w ∷ P) (v ∷ tail)) in
    let inside : k + 1 + length P < length items = omega (arith, ap length split, length-append front (v ∷ tail), long) in
    ap (λ (b : Bool). cond b (down_item (get_or items (k + 1 + length P) 0)) false) (lt-ltb (k + 1 + length P) (length items) inside) ∙
    ap down_item (ap (λ (l : List ℕ). get_or l (k + 1 + length P) 0) split ∙ get_or_at front v tail 0 (k + 1 + length P) long) ∙ down_step b y (pred_count qs) h.test h.few

-- What is told to the next step.
pass_is : (done after : List ℕ) (k v : ℕ) (ps : Preds) (rest : Steps) (loose last : Bool) → length done ≡ k
    → pass_on (done ++ (v ∷ ((blank (encode_preds ps) ++ blank (encode_steps rest)) ++ after))) (k + 1 + length (encode_preds ps)) (step_count rest) loose (cond last 1 0)
    ≡ done ++ (v ∷ (blank (encode_preds ps) ++ (told rest loose last ++ after)))
pass_is done after k v ps stop loose last ld = ap (λ (l : List ℕ). done ++ (v ∷ l)) (append_assoc (blank (encode_preds ps)) [] after)
pass_is done after k v ps (step b y qs rest) loose last ld =
    let P = blank (encode_preds ps) in
    let Q : List ℕ = encode_preds qs ++ encode_steps rest in
    let next = k + 1 + length (encode_preds ps) in
    let new = state_of (step_count rest) loose (cond last 1 0) in
    let front : List ℕ = done ++ (v ∷ P) in
    let long : length front ≡ next = omega (arith, length-append done (v ∷ P), ld, blank_length (encode_preds ps)) in
    let split : done ++ (v ∷ ((P ++ (0 ∷ blank Q)) ++ after)) ≡ front ++ (0 ∷ (blank Q ++ after)) =
    ap (λ (l : List ℕ). done ++ (v ∷ l)) (append_assoc P (0 ∷ blank Q) after) ∙ sym (append_assoc done (v ∷ P) (0 ∷ (blank Q ++ after))) in
    ap (λ (l : List ℕ). set l next new) split ∙ set_at front 0 (blank Q ++ after) new next long ∙
    append_assoc done (v ∷ P) (new ∷ (blank Q ++ after)) ∙
    ap (λ (l : List ℕ). done ++ (v ∷ (P ++ (new ∷ (l ++ after))))) (blank_append (encode_preds qs) (encode_steps rest))

-- THE TURN OF A STEP.
step-turn : (items pre post done after : List ℕ) (k : ℕ) (a : Axis) (x : Test) (ps : Preds) (rest : Steps) (loose last : Bool)
    → items ≡ pre ++ (encode_steps (step a x ps rest) ++ post) → length pre ≡ k → length done ≡ k → good_steps (step a x ps rest) ≡ true
    → turn items k (pack_step a x (pred_count ps)) (done ++ (told (step a x ps rest) loose last ++ after))
    ≡ done ++ (pack_step (saying (leanly loose a (down_next last rest))) x (pred_count ps) ∷ (blank (encode_preds ps) ++ (told rest (loose_after leanly loose a (down_next last rest)) last ++ after)))
unfolding turn
step-turn items pre post done after k a x ps rest loose last there lp ld fine =
    let h = good_step a x ps rest fine in
    let n = pred_count ps in
    let s : Step = record { axis = axis_number a; test = test_number x; count = n } in
    let st = state_of (step_count rest) loose (cond last 1 0) in
    let tail : List ℕ = (blank (encode_preds ps) ++ blank (encode_steps rest)) ++ after in
    let marks : List ℕ = done ++ (st ∷ tail) in
    let next = k + 1 + length (encode_preds ps) in
    let left = step_count rest in
    let bit : ℕ = cond last 1 0 in
    let put : (b d : Bool) → List ℕ = λ b d. pass_on (set marks k (packed (record { axis = cond (b && not d) 1 0; test = test_number x; count = n }))) next left (b && not (b && not d)) bit in
    let g = leanly loose a (down_next last rest) in
    ap (turn_as items k (pack_step a x n) marks) (unpack_step a x n h.test h.few) ∙
    told_is items pre post done after k a x ps rest loose last there lp ld fine ∙
    ap (λ (m : ℕ).
    pass_on
    (set marks k
    (packed
    (record {
      axis = cond ((guarded_number (axis_number a) || (eqb (axis_number a) 0 && loose)) && not (down_at items m left bit)) 1 0;
      test = test_number x;
      count = n;
    })))
    m left
    ((guarded_number (axis_number a) || (eqb (axis_number a) 0 && loose)) && not ((guarded_number (axis_number a) || (eqb (axis_number a) 0 && loose)) && not (down_at items m left bit)))
    bit)
    (past_is items pre post done after k a x ps rest loose last there lp ld fine) ∙
    ap₂ put (hidden_is items pre post done after k a x ps rest loose last there lp ld fine) (down_is items pre post k a x ps rest last there lp fine) ∙
    ap (λ (l : List ℕ). pass_on l next left (loose_after leanly loose a (down_next last rest)) bit)
    (ap (set marks k) (said_axis g x n) ∙ set_at done st tail (pack_step (saying g) x n) k ld) ∙
    pass_is done after k (pack_step (saying g) x n) ps rest (loose_after leanly loose a (down_next last rest)) last ld

-- These items stand at a place.
abbrev Stands : List ℕ → ℕ → List ℕ → Type 0
Stands items k xs = (pre : List ℕ) × (post : List ℕ) × (items ≡ pre ++ (xs ++ post)) × (length pre ≡ k)

stands_left : (items xs ys : List ℕ) (k : ℕ) → Stands items k (xs ++ ys) → Stands items k xs
stands_left items xs ys k s = (s.0, ys ++ s.1, s.2 ∙ ap (λ (l : List ℕ). s.0 ++ l) (append_assoc xs ys s.1), s.3)

stands_right : (items xs ys : List ℕ) (k : ℕ) → Stands items k (xs ++ ys) → Stands items (k + length xs) ys
stands_right items xs ys k s =
    (s.0 ++ xs, s.1, s.2 ∙ ap (λ (l : List ℕ). s.0 ++ l) (append_assoc xs ys s.1) ∙ sym (append_assoc s.0 xs (ys ++ s.1)), omega (arith, length-append s.0 xs, s.3))

stands_tail : (items xs : List ℕ) (k w : ℕ) → Stands items k (w ∷ xs) → Stands items (k + 1) xs
stands_tail items xs k w s =
    (s.0 ++ (w ∷ []), s.1, s.2 ∙ sym (append_assoc s.0 (w ∷ []) (xs ++ s.1)), omega (arith, length-append s.0 (w ∷ []), s.3))

-- The turns of items whose places are told nothing leave these.
abbrev Leaves : List ℕ → ℕ → List ℕ → List ℕ → Type 0
Leaves items k xs ys = (done after : List ℕ) → length done ≡ k → turns items k xs (done ++ (blank xs ++ after)) ≡ done ++ (ys ++ after)

-- One part after the other.
leaves_both : (items xs ys xs' ys' : List ℕ) (k : ℕ) → length xs' ≡ length xs → Leaves items k xs xs' → Leaves items (k + length xs) ys ys' → Leaves items k (xs ++ ys) (xs' ++ ys')
leaves_both items xs ys xs' ys' k long one other done after ld =
    turns_after items k xs ys (done ++ (blank (xs ++ ys) ++ after)) ∙
    ap (λ (l : List ℕ). turns items (k + length xs) ys (turns items k xs (done ++ l))) (ap (λ (l : List ℕ). l ++ after) (blank_append xs ys) ∙ append_assoc (blank xs) (blank ys) after) ∙
    ap (turns items (k + length xs) ys) (one done (blank ys ++ after) ld ∙ sym (append_assoc done xs' (blank ys ++ after))) ∙
    other (done ++ xs') after (omega (arith, length-append done xs', ld, long)) ∙ append_assoc done xs' (ys' ++ after) ∙ ap (λ (l : List ℕ). done ++ l) (sym (append_assoc xs' ys' after))

-- An item that stays as it is, before others.
leaves_item : (items xs ys : List ℕ) (k w : ℕ) → ((marks : List ℕ) → turn items k w marks ≡ set marks k w) → Leaves items (k + 1) xs ys → Leaves items k (w ∷ xs) (w ∷ ys)
leaves_item items xs ys k w stays others done after ld =
    ap (turns items (k + 1) xs) (stays (done ++ (0 ∷ (blank xs ++ after))) ∙ set_at done 0 (blank xs ++ after) w k ld ∙ sym (append_assoc done (w ∷ []) (blank xs ++ after))) ∙
    others (done ++ (w ∷ [])) after (omega (arith, length-append done (w ∷ []), ld)) ∙ append_assoc done (w ∷ []) (ys ++ after)

and_stays : (items : List ℕ) (k : ℕ) (marks : List ℕ) → turn items k and_item marks ≡ set marks k and_item
unfolding turn unpacked path_at step_at
and_stays items k marks = refl

or_stays : (items : List ℕ) (k : ℕ) (marks : List ℕ) → turn items k or_item marks ≡ set marks k or_item
unfolding turn unpacked path_at step_at
or_stays items k marks = refl

not_stays : (items : List ℕ) (k : ℕ) (marks : List ℕ) → turn items k not_item marks ≡ set marks k not_item
unfolding turn unpacked path_at step_at
not_stays items k marks = refl

-- What is marked has as many steps, predicates and items.
mark_count : (s : Steps) (loose last : Bool) → step_count (mark_steps leanly s loose last) ≡ step_count s
mark_count stop loose last = refl
mark_count (step a x ps rest) loose last = ap suc (mark_count rest (loose_after leanly loose a (down_next last rest)) last)

mark-preds : (ps : Preds) → pred_count (mark_preds leanly ps) ≡ pred_count ps
mark-preds bare = refl
mark-preds (pred e ps) = ap suc (mark-preds ps)

mutual
  expr_long : (e : Expr) → length (encode_expr (mark_expr leanly e)) ≡ length (encode_expr e)
  expr_long (path s) = ap suc (steps_long s false false)
  expr_long (both a b) =
      omega (arith, expr_long a, expr_long b, length-append (encode_expr a) (encode_expr b), length-append (encode_expr (mark_expr leanly a)) (encode_expr (mark_expr leanly b)))
  expr_long (either a b) =
      omega (arith, expr_long a, expr_long b, length-append (encode_expr a) (encode_expr b), length-append (encode_expr (mark_expr leanly a)) (encode_expr (mark_expr leanly b)))
  expr_long (negated a) = ap suc (expr_long a)

  steps_long : (s : Steps) (loose last : Bool) → length (encode_steps (mark_steps leanly s loose last)) ≡ length (encode_steps s)
  steps_long stop loose last = refl
  steps_long (step a x ps rest) loose last =
      let next = loose_after leanly loose a (down_next last rest) in
      omega (
        arith,
        preds_long ps,
        steps_long rest next last,
        length-append (encode_preds ps) (encode_steps rest),
        length-append (encode_preds (mark_preds leanly ps)) (encode_steps (mark_steps leanly rest next last)),
      )

  preds_long : (ps : Preds) → length (encode_preds (mark_preds leanly ps)) ≡ length (encode_preds ps)
  preds_long bare = refl
  preds_long (pred e ps) =
      omega (arith, expr_long e, preds_long ps, length-append (encode_expr e) (encode_preds ps), length-append (encode_expr (mark_expr leanly e)) (encode_preds (mark_preds leanly ps)))

-- The turn of a path tells its first step.
first_told : (done after : List ℕ) (k v : ℕ) (s : Steps) (loose last : Bool) → length done ≡ k
    → pass_on (done ++ (v ∷ (blank (encode_steps s) ++ after))) (k + 1) (step_count s) loose (cond last 1 0) ≡ done ++ (v ∷ (told s loose last ++ after))
first_told done after k v s loose last ld =
    ap (λ (m : ℕ). pass_on (done ++ (v ∷ (blank (encode_steps s) ++ after))) m (step_count s) loose (cond last 1 0)) (let e : k + 1 ≡ k + 1 + 0 = omega arith in e) ∙
    pass_is done after k v bare s loose last ld

path_turn : (items done after : List ℕ) (k : ℕ) (s : Steps) → length done ≡ k → step_count s < count_bound
    → turn items k (pack_path (step_count s)) (done ++ (0 ∷ (blank (encode_steps s) ++ after))) ≡ done ++ (pack_path (step_count s) ∷ (told s false false ++ after))
unfolding turn
path_turn items done after k s ld few =
    let w = pack_path (step_count s) in
    let marks : List ℕ = done ++ (0 ∷ (blank (encode_steps s) ++ after)) in
    ap (turn_as items k w marks) (unpack_path (step_count s) few) ∙
    ap (λ (t : ℕ). path_told items k w (step_count s) (t % 2) marks) (get_or_at done 0 (blank (encode_steps s) ++ after) 0 k ld) ∙
    ap (λ (l : List ℕ). pass_on l (k + 1) (step_count s) false 0) (set_at done 0 (blank (encode_steps s) ++ after) w k ld) ∙
    first_told done after k w s false false ld

-- THE TURNS OF EXPRESSIONS, STEPS AND PREDICATES leave the marked ones.
mutual
  expr_turns : (items : List ℕ) (e : Expr) (k : ℕ) → good_expr e ≡ true → Stands items k (encode_expr e) → Leaves items k (encode_expr e) (encode_expr (mark_expr leanly e))
  expr_turns items (path s) k g there done after ld =
      let h = good_path s g in
      let w = pack_path (step_count s) in
      ap (turns items (k + 1) (encode_steps s)) (path_turn items done after k s ld h.0 ∙ sym (append_assoc done (w ∷ []) (told s false false ++ after))) ∙
      steps_turns items s false false (k + 1) h.1 (stands_tail items (encode_steps s) k w there) (done ++ (w ∷ [])) after (omega (arith, length-append done (w ∷ []), ld)) ∙
      append_assoc done (w ∷ []) (encode_steps (mark_steps leanly s false false) ++ after) ∙
      ap (λ (n : ℕ). done ++ (pack_path n ∷ (encode_steps (mark_steps leanly s false false) ++ after))) (sym (mark_count s false false))
  expr_turns items (both a b) k g there done after ld =
      let h = and_true (good_expr a) (good_expr b) g in
      let later = stands_tail items (encode_expr a ++ encode_expr b) k and_item there in
      leaves_item items (encode_expr a ++ encode_expr b) (encode_expr (mark_expr leanly a) ++ encode_expr (mark_expr leanly b)) k and_item (and_stays items k)
      (leaves_both items (encode_expr a) (encode_expr b) (encode_expr (mark_expr leanly a)) (encode_expr (mark_expr leanly b)) (k + 1) (expr_long a)
      (λ d f l. expr_turns items a (k + 1) h.0 (stands_left items (encode_expr a) (encode_expr b) (k + 1) later) d f l)
      (λ d f l. expr_turns items b (k + 1 + length (encode_expr a)) h.1 (stands_right items (encode_expr a) (encode_expr b) (k + 1) later) d f l)) done after ld
  expr_turns items (either a b) k g there done after ld =
      let h = and_true (good_expr a) (good_expr b) g in
      let later = stands_tail items (encode_expr a ++ encode_expr b) k or_item there in
      leaves_item items (encode_expr a ++ encode_expr b) (encode_expr (mark_expr leanly a) ++ encode_expr (mark_expr leanly b)) k or_item (or_stays items k)
      (leaves_both items (encode_expr a) (encode_expr b) (encode_expr (mark_expr leanly a)) (encode_expr (mark_expr leanly b)) (k + 1) (expr_long a)
      (λ d f l. expr_turns items a (k + 1) h.0 (stands_left items (encode_expr a) (encode_expr b) (k + 1) later) d f l)
      (λ d f l. expr_turns items b (k + 1 + length (encode_expr a)) h.1 (stands_right items (encode_expr a) (encode_expr b) (k + 1) later) d f l)) done after ld
  expr_turns items (negated a) k g there done after ld =
      leaves_item items (encode_expr a) (encode_expr (mark_expr leanly a)) k not_item (not_stays items k)
      (λ d f l. expr_turns items a (k + 1) g (stands_tail items (encode_expr a) k not_item there) d f l) done after ld

  steps_turns : (items : List ℕ) (s : Steps) (loose last : Bool) (k : ℕ) → good_steps s ≡ true → Stands items k (encode_steps s) → (done after : List ℕ) → length done ≡ k
      → turns items k (encode_steps s) (done ++ (told s loose last ++ after)) ≡ done ++ (encode_steps (mark_steps leanly s loose last) ++ after)
  steps_turns items stop loose last k g there done after ld = refl
  steps_turns items (step a x ps rest) loose last k g there done after ld =
      let h = good_step a x ps rest g in
      let P = encode_preds ps in
      let R = encode_steps rest in
      let P' = encode_preds (mark_preds leanly ps) in
      let next = loose_after leanly loose a (down_next last rest) in
      let w = pack_step (saying (leanly loose a (down_next last rest))) x (pred_count ps) in
      let later = stands_tail items (P ++ R) k (pack_step a x (pred_count ps)) there in
      let front : List ℕ = done ++ (w ∷ []) in
      let lf : length front ≡ k + 1 = omega (arith, length-append done (w ∷ []), ld) in
      let R' = encode_steps (mark_steps leanly rest next last) in
      ap (turns items (k + 1) (P ++ R))
      (step-turn items there.0 there.1 done after k a x ps rest loose last there.2 there.3 ld g ∙ sym (append_assoc done (w ∷ []) (blank P ++ (told rest next last ++ after)))) ∙
      turns_after items (k + 1) P R (front ++ (blank P ++ (told rest next last ++ after))) ∙
      ap (turns items (k + 1 + length P) R)
      (preds_turns items ps (k + 1) h.preds (stands_left items P R (k + 1) later) front (told rest next last ++ after) lf ∙ sym (append_assoc front P' (told rest next last ++ after))) ∙
      steps_turns items rest next last (k + 1 + length P) h.later (stands_right items P R (k + 1) later) (front ++ P') after (omega (arith, length-append front P', lf, preds_long ps)) ∙
      append_assoc front P' (R' ++ after) ∙ append_assoc done (w ∷ []) (P' ++ (R' ++ after)) ∙
      ap (λ (l : List ℕ). done ++ (w ∷ l)) (sym (append_assoc P' R' after)) ∙
      ap (λ (n : ℕ). done ++ (pack_step (saying (leanly loose a (down_next last rest))) x n ∷ ((P' ++ R') ++ after))) (sym (mark-preds ps))

  preds_turns : (items : List ℕ) (ps : Preds) (k : ℕ) → good_preds ps ≡ true → Stands items k (encode_preds ps) → Leaves items k (encode_preds ps) (encode_preds (mark_preds leanly ps))
  preds_turns items bare k g there done after ld = refl
  preds_turns items (pred e ps) k g there done after ld =
      let h = and_true (good_expr e) (good_preds ps) g in
      leaves_both items (encode_expr e) (encode_preds ps) (encode_expr (mark_expr leanly e)) (encode_preds (mark_preds leanly ps)) k (expr_long e)
      (λ d f l. expr_turns items e k h.0 (stands_left items (encode_expr e) (encode_preds ps) k there) d f l)
      (λ d f l. preds_turns items ps (k + length (encode_expr e)) h.1 (stands_right items (encode_expr e) (encode_preds ps) k there) d f l) done after ld

-- Top-level paths: before its turn the first of them is told 1.
abbrev pub told_paths : List Steps → List ℕ
told_paths [] = []
told_paths (p ∷ ps) = 1 ∷ (blank (encode_steps p) ++ blank (encode_paths ps))

-- The turn of a top-level path tells its first step, and the path behind it.
next_told : (front : List ℕ) (ps : List Steps) (k : ℕ) → length front ≡ k → set (front ++ blank (encode_paths ps)) k 1 ≡ front ++ told_paths ps
next_told front [] k l = set_out (front ++ []) k 1 (omega (arith, length-append front [], l))
next_told front (p ∷ ps) k l =
    set_at front 0 (blank (encode_steps p ++ encode_paths ps)) 1 k l ∙ ap (λ (x : List ℕ). front ++ (1 ∷ x)) (blank_append (encode_steps p) (encode_paths ps))

told_length : (s : Steps) (loose last : Bool) → length (told s loose last) ≡ length (encode_steps s)
told_length stop loose last = refl
told_length (step a x ps rest) loose last =
    omega (
      arith,
      length-append (blank (encode_preds ps)) (blank (encode_steps rest)),
      length-append (encode_preds ps) (encode_steps rest),
      blank_length (encode_preds ps),
      blank_length (encode_steps rest),
    )

top_turn : (items done : List ℕ) (k : ℕ) (p : Steps) (ps : List Steps) → length done ≡ k → step_count p < count_bound → good_steps p ≡ true
    → Stands items k (pack_path (step_count p) ∷ encode_steps p)
    → turn items k (pack_path (step_count p)) (done ++ told_paths (p ∷ ps)) ≡ done ++ (pack_path (step_count p) ∷ (told p false true ++ told_paths ps))
unfolding turn
top_turn items done k p ps ld few g there =
    let w = pack_path (step_count p) in
    let S = encode_steps p in
    let after : List ℕ = blank (encode_paths ps) in
    let marks : List ℕ = done ++ (1 ∷ (blank S ++ after)) in
    let onto = stands_tail items S k w there in
    let ends : past items k (step_count p) ≡ k + 1 + length S =
    ap (λ (l : List ℕ). k + 1 + eaten l (step_count p)) (ap (drop (k + 1)) onto.2 ∙ drop_at onto.0 (S ++ onto.1) (k + 1) onto.3) ∙
    (let e : k + 1 + eaten (S ++ onto.1) (step_count p) ≡ k + 1 + length S = omega (arith, steps_eaten p g onto.1 (step_count p) 0 (omega arith), none_eaten onto.1) in e) in
    let front : List ℕ = done ++ (w ∷ told p false true) in
    ap (turn_as items k w marks) (unpack_path (step_count p) few) ∙
    ap (λ (t : ℕ). path_told items k w (step_count p) (t % 2) marks) (get_or_at done 1 (blank S ++ after) 0 k ld) ∙
    ap₂ (λ (l : List ℕ) (m : ℕ). set (pass_on l (k + 1) (step_count p) false 1) m 1) (set_at done 1 (blank S ++ after) w k ld) ends ∙
    ap (λ (l : List ℕ). set l (k + 1 + length S) 1) (first_told done after k w p false true ld ∙ sym (append_assoc done (w ∷ told p false true) after)) ∙
    next_told front ps (k + 1 + length S) (omega (arith, length-append done (w ∷ told p false true), ld, told_length p false true)) ∙
    append_assoc done (w ∷ told p false true) (told_paths ps)

paths_turns : (items : List ℕ) (ps : List Steps) (k : ℕ) → good_paths ps ≡ true → Stands items k (encode_paths ps) → (done : List ℕ) → length done ≡ k
    → turns items k (encode_paths ps) (done ++ told_paths ps) ≡ done ++ encode_paths (map (mark_path leanly) ps)
paths_turns items [] k g there done ld = refl
paths_turns items (p ∷ ps) k g there done ld =
    let h = and_true (ltb (step_count p) count_bound && good_steps p) (good_paths ps) g in
    let f = and_true (ltb (step_count p) count_bound) (good_steps p) h.0 in
    let w = pack_path (step_count p) in
    let S = encode_steps p in
    let S' = encode_steps (mark_path leanly p) in
    let Q = encode_paths ps in
    let here = stands_left items (w ∷ S) Q k there in
    let front : List ℕ = done ++ (w ∷ []) in
    let lf : length front ≡ k + 1 = omega (arith, length-append done (w ∷ []), ld) in
    let later : Stands items (k + 1 + length S) Q = stands_right items S Q (k + 1) (stands_tail items (S ++ Q) k w there) in
    ap (turns items (k + 1) (S ++ Q)) (top_turn items done k p ps ld (ltb-true (step_count p) count_bound f.0) f.1 here ∙ sym (append_assoc done (w ∷ []) (told p false true ++ told_paths ps))) ∙
    turns_after items (k + 1) S Q (front ++ (told p false true ++ told_paths ps)) ∙
    ap (turns items (k + 1 + length S) Q)
    (steps_turns items p false true (k + 1) f.1 (stands_tail items S k w here) front (told_paths ps) lf ∙ sym (append_assoc front S' (told_paths ps))) ∙
    paths_turns items ps (k + 1 + length S) h.1 later (front ++ S') (omega (arith, length-append front S', lf, steps_long p false true)) ∙
    append_assoc front S' (encode_paths (map (mark_path leanly) ps)) ∙ append_assoc done (w ∷ []) (S' ++ encode_paths (map (mark_path leanly) ps)) ∙
    ap (λ (n : ℕ). done ++ (pack_path n ∷ (S' ++ encode_paths (map (mark_path leanly) ps)))) (sym (mark_count p false true))

-- THE TURNS OF A QUERY'S ITEMS LEAVE THE MARKED QUERY.
pub query_turns : (q : Query) → good q ≡ true → turns (encode q) 0 (encode q) (told_paths (paths q)) ≡ encode (marked leanly q)
unfolding encode good marked
query_turns q g = paths_turns (encode_paths (paths q)) (paths q) 0 g ([], [], sym (append-nil (encode_paths (paths q))), refl) [] refl

-- Of zeros with a 1 in front the first path is told that it is one, and no other place is told anything.
zeros_front : (xs : List ℕ) (n : ℕ) → length xs ≤ n → take (length xs) (replicate n 0) ≡ blank xs
zeros_front [] n l = refl
zeros_front (x ∷ xs) zero l = absurd (omega arith)
zeros_front (x ∷ xs) (suc n) l = ap (λ (l : List ℕ). 0 ∷ l) (zeros_front xs n (omega arith))

told_front : (q : Query) (n : ℕ) → length (encode q) ≤ n → take (length (encode q)) (set (replicate n 0) 0 1) ≡ told_paths (paths q)
unfolding encode
told_front q zero l = absurd (omega arith)
told_front q (suc n) l =
    ap (λ (l : List ℕ). 1 ∷ l)
    (zeros_front (encode_steps q.first ++ encode_paths q.others) n (omega arith) ∙ blank_append (encode_steps q.first) (encode_paths q.others))

-- THE PASS OVER ZEROS LEAVES THE MARKED QUERY, and what stands behind it.
pub marked_length : (q : Query) → length (encode (marked leanly q)) ≡ length (encode q)
marked_length q = size_items (marked leanly q) ∙ (marked_measures leanly q).0 ∙ sym (size_items q)

some_items : (q : Query) → 0 < length (encode q)
unfolding encode
some_items q = omega arith

pub query_marked : (items marks part : List ℕ) (q : Query) (n : ℕ) → decode items ≡ some q → length items ≤ n → marks ≡ replicate n 0
    → part ≡ turns items 0 items (take (length items) (set marks 0 1))
    → part ++ drop (length items) (set marks 0 1) ≡ written (marked_got (decode items)) marks
query_marked items marks part q n d l zeros e =
    let is : items ≡ encode q = (encode_decode items q d).items in
    let long : length items ≡ length (encode q) = ap length is in
    let front : part ≡ encode (marked leanly q) =
    e ∙ ap (λ (m : List ℕ). turns items 0 items (take (length items) (set m 0 1))) zeros ∙
    ap (λ (x : List ℕ). turns x 0 x (take (length x) (set (replicate n 0) 0 1))) is ∙
    ap (turns (encode q) 0 (encode q)) (told_front q n (omega arith)) ∙ query_turns q (encode_decode items q d).fine in
    let back : drop (length items) (set marks 0 1) ≡ drop (length (encode (marked leanly q))) marks =
    drop-set-lt (length items) marks 0 1 (omega (arith, some_items q)) ∙ ap (λ (k : ℕ). drop k marks) (long ∙ sym (marked_length q)) in
    ap₂ (λ (a b : List ℕ). a ++ b) front back ∙ ap (λ (o : Option Query). written (marked_got o) marks) (sym d)
