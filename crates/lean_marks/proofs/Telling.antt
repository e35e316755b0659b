-- What the functions of the pass come to: laws of axes by number, of unpacked items and of what is told. Assumes nothing.
use Prim.Native.Nat.{ℕ, zero, suc, ◌+◌, ◌-◌, ◌*◌, ◌/◌, ◌%◌, ◌<◌}
use native.Mathlib.Omega.{arith}
use mathlib.Core.Path.{◌≡◌, refl, sym, ◌∙◌, ap, ap₂}
use mathlib.Core.Bool.{Bool, true, false, not, ◌&&◌, ◌||◌, cond}
use mathlib.Core.List.{List, [], ◌∷◌}
use lib.Dec.{eqb, ltb}
use lib.ListN.{length, get_or, set, drop, length-set, drop_of_length-le}
use borrow.Author.Tests.{lt-ltb, le-ltb, eq-eqb, eqb-true}
use Prim.Native.Nat.{◌≤◌}
use Rattle.paper.specs.Query.{Axis}
use Rattle.paper.specs.Items.{axis_number, test_bound, count_limit}
use Rattle.paper.proofs.Fields.{test_small}
use Rattle.owed.proofs.Passing.{owes_as, at_place}
use Rattle.reverse.proofs.Reading.{said_step}
use Rattle.paper.specs.Lean.{goes_down}
use mathlib.Core.Logic.{⊎_elim}
use Rattle.paper.proofs.Tests.{decide}
use Rattle.paper.proofs.Axes.{axis-number, NoAxis, no_axis_found}
use Rattle.item.specs.Unpacked.{unpacked, packed, guarded_number}
use Rattle.item.specs.declared.Step.{Step}
use Rattle.item.specs.declared.Item.{Item}
use Rattle.item.specs.declared.Item.TheVariants.{Path, Step as StepItem, And, Or, Not, Bad}
use Rattle.item.specs.contracts.Item.{the_type}
use denote.Enum.Declared.{tag_of}
use types.Run.{OneOf, miss}
use Rattle.lean_marks.specs.Turns.{down_axis, down_number, down_as, down_item, state_of, pass_on, past, down_at, step_told, step_turn, path_told, turn_as, turn, turns}

pub down-number : (a : Axis) (n : ℕ) → n ≡ axis_number a → goes_down a ≡ down_number n
unfolding down_number
down-number a n e = sym (ap down_number e ∙ ap down_axis (axis-number a))

pub down_none : (n : ℕ) → NoAxis n → false ≡ down_number n
unfolding down_number
down_none n h = sym (ap down_axis (no_axis_found n h))

pub step_down : (w : ℕ) (i : Item) (s : Step) (d : Bool) → i ≡ unpacked w → i ≡ StepItem s → d ≡ down_number s.axis → d ≡ down_item w
unfolding down_item
step_down w i s d e f h = h ∙ ap down_as (sym f ∙ e)

pub no_step_down : (w : ℕ) (i : Item) → i ≡ unpacked w → OneOf (0 ∷ 2 ∷ 3 ∷ 4 ∷ 5 ∷ []) (tag_of the_type i) → false ≡ down_item w
unfolding down_item
no_step_down w i e k = go i k ∙ ap down_as e
  where
    go : (i : Item) → OneOf (0 ∷ 2 ∷ 3 ∷ 4 ∷ 5 ∷ []) (tag_of the_type i) → false ≡ down_as i
    go (Path count) k = refl
    go (StepItem s) k = absurd (miss (0 ∷ 2 ∷ 3 ∷ 4 ∷ 5 ∷ []) 1 tt k)
    go And k = refl
    go Or k = refl
    go Not k = refl
    go Bad k = refl

-- Where steps follow, the next one tells.
pub down_some : (items : List ℕ) (next left last : ℕ) → (left ≡ 0 → ⊥) → next < length items → down_item (get_or items next 0) ≡ down_at items next left last
down_some items next zero last h l = absurd (h refl)
down_some items next (suc left) last h l = sym (ap (λ (b : Bool). cond b (down_item (get_or items next 0)) false) (lt-ltb next (length items) l))

pub down_past : (items : List ℕ) (next left last : ℕ) → (left ≡ 0 → ⊥) → length items ≤ next → false ≡ down_at items next left last
down_past items next zero last h l = absurd (h refl)
down_past items next (suc left) last h l = sym (ap (λ (b : Bool). cond b (down_item (get_or items next 0)) false) (le-ltb next (length items) l))

pub pass_some : (marks new : List ℕ) (next left said : ℕ) (loose : Bool) (last : ℕ) → (left ≡ 0 → ⊥) → said ≡ (left - 1) * 4 + cond loose 2 0 + last → new ≡ set marks next said
    → new ≡ pass_on marks next left loose last
pass_some marks new next zero said loose last h e w = absurd (h refl)
pass_some marks new next (suc left) said loose last h e w =
    w ∙ ap (set marks next) (e ∙ ap (λ (n : ℕ). n * 4 + cond loose 2 0 + last) (let f : suc left - 1 ≡ left = omega arith in f))

pub two_most : (b : Bool) → cond b 2 0 ≤ 2
two_most true = omega arith
two_most false = omega arith

-- A path's turn.
pub path_top : (items marks passed put : List ℕ) (place w count last next : ℕ) → last ≡ 1 → passed ≡ pass_on (set marks place w) (place + 1) count false last
    → next ≡ past items place count → put ≡ set passed next 1 → put ≡ path_told items place w count last marks
path_top items marks passed put place w count last next h e n p =
    let first = pass_on (set marks place w) (place + 1) count false last in
    p ∙ ap₂ (λ (l : List ℕ) (k : ℕ). set l k 1) e n ∙ sym (ap (λ (b : Bool). cond b (set first (past items place count) 1) first) (eq-eqb last 1 h))

pub path_inner : (items marks passed : List ℕ) (place w count last : ℕ) → (last ≡ 1 → ⊥) → passed ≡ pass_on (set marks place w) (place + 1) count false last
    → passed ≡ path_told items place w count last marks
path_inner items marks passed place w count last h e =
    let first = pass_on (set marks place w) (place + 1) count false last in
    ⊎_elim (λ t. absurd (h (eqb-true last 1 t))) (λ f. e ∙ sym (ap (λ (b : Bool). cond b (set first (past items place count) 1) first) f)) (decide (eqb last 1))

-- No turn changes a length.
pass_length : (marks : List ℕ) (next left : ℕ) (loose : Bool) (last : ℕ) → length (pass_on marks next left loose last) ≡ length marks
pass_length marks next zero loose last = refl
pass_length marks next (suc left) loose last = length-set marks next (state_of left loose last)

on_length : (b : Bool) (first : List ℕ) (k v : ℕ) → length (cond b (set first k v) first) ≡ length first
on_length true first k v = length-set first k v
on_length false first k v = refl

pub path_length : (items : List ℕ) (place w count last : ℕ) (marks : List ℕ) → length (path_told items place w count last marks) ≡ length marks
path_length items place w count last marks =
    on_length (eqb last 1) (pass_on (set marks place w) (place + 1) count false last) (past items place count) 1 ∙ pass_length (set marks place w) (place + 1) count false last ∙ length-set marks place w

-- A step's turn.
pub one_most : (b : Bool) → cond b 1 0 ≤ 1
one_most true = omega arith
one_most false = omega arith

pub step_done : (items marks put : List ℕ) (place : ℕ) (s : Step) (next : ℕ) (down hidden : Bool) (axis w : ℕ)
    → next ≡ past items place s.count → down ≡ down_at items next (get_or marks place 0 / 4) (get_or marks place 0 % 2)
    → hidden ≡ (guarded_number s.axis || (eqb s.axis 0 && eqb (get_or marks place 0 / 2 % 2) 1)) → axis ≡ cond (hidden && not down) 1 0
    → w ≡ packed (record { axis = axis; test = s.test; count = s.count })
    → put ≡ pass_on (set marks place w) next (get_or marks place 0 / 4) (hidden && not (hidden && not down)) (get_or marks place 0 % 2) → put ≡ step_turn items place s marks
step_done items marks put place s next down hidden axis w en ed eh ea ew ep =
    let told = get_or marks place 0 in
    let h = guarded_number s.axis || (eqb s.axis 0 && eqb (told / 2 % 2) 1) in
    let made : ℕ → Bool → Bool → List ℕ =
    λ n b d. pass_on (set marks place (packed (record { axis = cond (b && not d) 1 0; test = s.test; count = s.count }))) n (told / 4) (b && not (b && not d)) (told % 2) in
    ep ∙ ap (λ (v : ℕ). pass_on (set marks place v) next (told / 4) (hidden && not (hidden && not down)) (told % 2)) (ew ∙ ap (λ (k : ℕ). packed (record { axis = k; test = s.test; count = s.count })) ea) ∙
    ap₂ (made next) eh ed ∙ ap (λ (n : ℕ). made n h (down_at items n (told / 4) (told % 2))) en

pub step_length : (items : List ℕ) (place : ℕ) (s : Step) (marks : List ℕ) → length (step_turn items place s marks) ≡ length marks
step_length items place s marks =
    let told = get_or marks place 0 in
    let next = past items place s.count in
    let hidden = guarded_number s.axis || (eqb s.axis 0 && eqb (told / 2 % 2) 1) in
    let guards = hidden && not (down_at items next (told / 4) (told % 2)) in
    let w = packed (record { axis = cond guards 1 0; test = s.test; count = s.count }) in
    pass_length (set marks place w) next (told / 4) (hidden && not guards) (told % 2) ∙ length-set marks place w

-- An item's turn.
pub turn_path : (items : List ℕ) (place w count : ℕ) (marks : List ℕ) (i : Item) → i ≡ unpacked w → i ≡ Path count → path_told items place w count (get_or marks place 0 % 2) marks ≡ turn items place w marks
unfolding turn
turn_path items place w count marks i e f = ap (turn_as items place w marks) (sym f ∙ e)

pub turn_step : (items : List ℕ) (place w : ℕ) (s : Step) (marks : List ℕ) (i : Item) → i ≡ unpacked w → i ≡ StepItem s → step_turn items place s marks ≡ turn items place w marks
unfolding turn
turn_step items place w s marks i e f = ap (turn_as items place w marks) (sym f ∙ e)

pub turn_other : (items : List ℕ) (place w : ℕ) (marks : List ℕ) (i : Item) → i ≡ unpacked w → OneOf (2 ∷ 3 ∷ 4 ∷ 5 ∷ []) (tag_of the_type i) → set marks place w ≡ turn items place w marks
unfolding turn
turn_other items place w marks i e k = go i k ∙ ap (turn_as items place w marks) e
  where
    go : (i : Item) → OneOf (2 ∷ 3 ∷ 4 ∷ 5 ∷ []) (tag_of the_type i) → set marks place w ≡ turn_as items place w marks i
    go (Path count) k = absurd (miss (2 ∷ 3 ∷ 4 ∷ 5 ∷ []) 0 tt k)
    go (StepItem s) k = absurd (miss (2 ∷ 3 ∷ 4 ∷ 5 ∷ []) 1 tt k)
    go And k = refl
    go Or k = refl
    go Not k = refl
    go Bad k = refl

pub step_fits : (w : ℕ) (i : Item) (s : Step) → i ≡ unpacked w → i ≡ StepItem s → (s.test < test_bound) × (s.count ≤ count_limit)
step_fits w i s e f =
    let h = said_step w i s e f in
    (omega (arith, h.test_is, test_small h.test h.fine), (owes_as w i (StepItem s) e f).1)

pub turn_length : (items : List ℕ) (place w : ℕ) (marks : List ℕ) → length (turn items place w marks) ≡ length marks
unfolding turn
turn_length items place w marks = go (unpacked w)
  where
    go : (i : Item) → length (turn_as items place w marks i) ≡ length marks
    go (Path count) = path_length items place w count (get_or marks place 0 % 2) marks
    go (StepItem s) = step_length items place s marks
    go And = length-set marks place w
    go Or = length-set marks place w
    go Not = length-set marks place w
    go Bad = length-set marks place w

-- All turns, one more and none left.
pub turns_more : (items : List ℕ) (place : ℕ) (marks put : List ℕ) → place < length items → put ≡ turn items place (get_or items place 0) marks
    → turns items place (drop place items) marks ≡ turns items (place + 1) (drop (place + 1) items) put
turns_more items place marks put l e =
    ap (λ (ws : List ℕ). turns items place ws marks) (at_place items place l) ∙ ap (turns items (place + 1) (drop (place + 1) items)) (sym e)

pub turns_end : (items : List ℕ) (place : ℕ) (marks : List ℕ) → length items ≤ place → turns items place (drop place items) marks ≡ marks
turns_end items place marks l = ap (λ (ws : List ℕ). turns items place ws marks) (drop_of_length-le items l)
