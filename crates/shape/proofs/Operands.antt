-- What an operand of `and` is, by its first item. Assumes nothing.
use Prim.Native.Nat.{ℕ, zero, suc, ◌+◌, ◌-◌, ◌*◌, ◌^◌, ◌≤◌, ◌<◌}
use native.Mathlib.Omega.{arith}
use native.Mathlib.Numerals.{add-one}
use mathlib.Core.Path.{◌≡◌, refl, sym, ◌∙◌, ap, subst}
use mathlib.Core.Bool.{true, false, ◌||◌}
use mathlib.Core.List.{List, [], ◌∷◌}
use mathlib.Core.Option.{none, some}
use Rattle.std.specs.Prelude.{Option, Some, None}
use lib.Dec.{eqb}
use lib.ListN.{length, get_or, drop, drop_of_length-le}
use lib.Seq.{drop-cons}
use borrow.Author.Tests.{eq-eqb, ne_eqb, le-leb}
use Rattle.paper.specs.Limits.{bracket_limit}
use Rattle.paper.specs.Tools.{found, begins}
use Rattle.paper.specs.Query.{Expr, path, negated}
use Rattle.paper.specs.Items.{and_item, or_item, not_item, path_at, Head, step_at, Taken, take_steps, take_operand, take_expr, take_within}
use Rattle.paper.specs.Measures.{is_and, is_or, nest_expr, nest_steps, height_expr, height_steps}
use Rattle.paper.specs.Composition.{guard_depth_expr}
use Rattle.paper.proofs.Tests.{or_right}
use Rattle.paper.proofs.Fields.{path_found, step_found}
use Rattle.paper.proofs.Encoding.{from_operand, from_within}
use Rattle.item.specs.declared.Item.{Item}
use Rattle.item.specs.declared.Item.TheVariants.{Path, Step as StepItem, And, Or, Not, Bad}
use Rattle.item.proofs.Saying.{Said}
use Rattle.item.specs.declared.Step.{Step}
use Rattle.item.proofs.Unpacking.{no_path, no_step}
use mathlib.Core.Logic.{◌⊎◌, inl, inr}
use Rattle.item.specs.contracts.Item.{the_type}
use denote.Enum.Declared.{tag_of}
use types.Run.{OneOf, miss}
use Rattle.shape.specs.declared.Walked.{Walked}
use Rattle.shape.specs.Walks.{nest_operand, open_in_expr, open_in_operand, open_in_steps, operators, Walks, raised_by, Small}
use Rattle.heights.specs.Heights.{opened}
use Rattle.shape.proofs.Operators.{Operator, is_joined, each, run, operators_some}

-- A number that is a path's is no operator's and not `not`.
pub path_other : (w n count : ℕ) → path_at w ≡ some count → 0 < n → n < 8 → eqb n w ≡ false
path_other w n count h p q = ne_eqb n w (λ e. omega (arith, (path_found w count h).0))

-- A path of at least one step.
pub operand_path : (within : List ℕ → Taken Expr) (w count : ℕ) (ws : List ℕ) → path_at w ≡ some count → 1 ≤ count
    → take_operand within (w ∷ ws) ≡ found (take_steps within count ws) (λ r. some (path r.0, r.1))
unfolding take_operand
operand_path within w count ws h l =
    rw (path_other w 4 count h (omega arith) (omega arith), path_other w 2 count h (omega arith) (omega arith), path_other w 3 count h (omega arith) (omega arith), h, le-leb 1 count l)

pub operand_bare : (within : List ℕ → Taken Expr) (w : ℕ) (ws : List ℕ) → path_at w ≡ some 0 → take_operand within (w ∷ ws) ≡ none
unfolding take_operand
operand_bare within w ws h =
    rw (path_other w 4 0 h (omega arith) (omega arith), path_other w 2 0 h (omega arith) (omega arith), path_other w 3 0 h (omega arith) (omega arith), h)

-- Neither path nor operator nor `not`.
pub operand_other : (within : List ℕ → Taken Expr) (w : ℕ) (ws : List ℕ) → path_at w ≡ none → (w ≡ and_item → ⊥) → (w ≡ or_item → ⊥) → (w ≡ not_item → ⊥)
    → take_operand within (w ∷ ws) ≡ none
unfolding take_operand
operand_other within w ws h a o n = rw (ne_eqb 4 w (λ e. n (sym e)), ne_eqb 2 w (λ e. a (sym e)), ne_eqb 3 w (λ e. o (sym e)), h)

-- A step is no operand.
pub operand_step : (within : List ℕ → Taken Expr) (w : ℕ) (ws : List ℕ) (h : Head) → step_at w ≡ some h → take_operand within (w ∷ ws) ≡ none
operand_step within w ws h e =
    let f = (step_found w h e).0 in
    operand_other within w ws (no_path w (λ z. omega arith)) (λ z. omega arith) (λ z. omega arith) (λ z. omega arith)

-- The operators and `not`, with what stands in their bracket.
pub operand_joined : (operator : ℕ) → Operator operator → (within : List ℕ → Taken Expr) (ws : List ℕ) → take_operand within (operator ∷ ws) ≡ within (operator ∷ ws)
unfolding take_operand
operand_joined = each (λ operator. (within : List ℕ → Taken Expr) (ws : List ℕ) → take_operand within (operator ∷ ws) ≡ within (operator ∷ ws)) (λ within ws. refl) (λ within ws. refl)

pub operand_denied : (within : List ℕ → Taken Expr) (ws : List ℕ) → take_operand within (not_item ∷ ws) ≡ found (within ws) (λ r. some (negated r.0, r.1))
unfolding take_operand
operand_denied within ws = refl

-- None of them where no bracket may be opened, for an item that is no path.
pub operand_shut : (w : ℕ) (i : Item) (ws : List ℕ) → Said w i → ((count : ℕ) → i ≡ Path count → ⊥) → take_operand (take_within 0) (w ∷ ws) ≡ none
unfolding take_operand
operand_shut w (Path count) ws s never = absurd (never count refl)
operand_shut w (StepItem st) ws s never = operand_step (take_within 0) w ws s.0 s.1
operand_shut w And ws s never = rw s
operand_shut w Or ws s never = rw s
operand_shut w Not ws s never = rw s
operand_shut w Bad ws s never = operand_other (take_within 0) w ws s.0 s.2 s.3 s.4

-- The same by the tags that are left for the item.
pub operand_deep : (w : ℕ) (i : Item) (ws : List ℕ) → Said w i → OneOf (1 ∷ 2 ∷ 3 ∷ 4 ∷ 5 ∷ []) (tag_of the_type i) → take_operand (take_within 0) (w ∷ ws) ≡ none
operand_deep w i ws s k =
    operand_shut w i ws s (λ count e. miss (1 ∷ 2 ∷ 3 ∷ 4 ∷ 5 ∷ []) 0 tt (subst (λ (j : Item). OneOf (1 ∷ 2 ∷ 3 ∷ 4 ∷ 5 ∷ []) (tag_of the_type j)) e k))

-- An item that is neither a path nor an operator nor `not`.
pub operand_rest : (within : List ℕ → Taken Expr) (w : ℕ) (i : Item) (ws : List ℕ) → Said w i → ((count : ℕ) → i ≡ Path count → ⊥) → (i ≡ And → ⊥) → (i ≡ Or → ⊥) → (i ≡ Not → ⊥)
    → take_operand within (w ∷ ws) ≡ none
operand_rest within w (Path count) ws s never a o n = absurd (never count refl)
operand_rest within w (StepItem st) ws s never a o n = operand_step within w ws s.0 s.1
operand_rest within w And ws s never a o n = absurd (a refl)
operand_rest within w Or ws s never a o n = absurd (o refl)
operand_rest within w Not ws s never a o n = absurd (n refl)
operand_rest within w Bad ws s never a o n = operand_other within w ws s.0 s.2 s.3 s.4

-- An item that is no step.
pub no_step_said : (w : ℕ) (i : Item) → Said w i → ((s : Step) → i ≡ StepItem s → ⊥) → step_at w ≡ none
no_step_said w (Path count) s never = no_step w (λ e. omega (arith, (path_found w count s).0))
no_step_said w (StepItem st) s never = absurd (never st refl)
no_step_said w And s never = no_step w (λ e. omega arith)
no_step_said w Or s never = no_step w (λ e. omega arith)
no_step_said w Not s never = no_step w (λ e. omega arith)
no_step_said w Bad s never = s.1

-- An item that is no path.
pub no_path_said : (w : ℕ) (i : Item) → Said w i → ((count : ℕ) → i ≡ Path count → ⊥) → path_at w ≡ none
no_path_said w (Path count) s never = absurd (never count refl)
no_path_said w (StepItem st) s never = no_path w (λ e. omega (arith, (step_found w s.0 s.1).0))
no_path_said w And s never = no_path w (λ e. omega arith)
no_path_said w Or s never = no_path w (λ e. omega arith)
no_path_said w Not s never = no_path w (λ e. omega arith)
no_path_said w Bad s never = s.0

-- The item of `and` or of `or`.
pub operator_item : (w : ℕ) (i : Item) → Said w i → (i ≡ And) ⊎ (i ≡ Or) → Operator w
operator_item w i s (inl e) = let a : w ≡ and_item = subst (Said w) e s in (omega arith, omega arith)
operator_item w i s (inr e) = let o : w ≡ or_item = subst (Said w) e s in (omega arith, omega arith)

-- What stands at a place of the items.
pub at_place : (items : List ℕ) (at : ℕ) → at < length items → drop at items ≡ get_or items at 0 ∷ drop (at + 1) items
at_place items at l = drop-cons items at 0 l ∙ ap (λ (k : ℕ). get_or items at 0 ∷ drop k items) (sym (add-one at))

-- What is joined by an operator gets a bracket as an operand.
pub in_bracket : (operator : ℕ) → Operator operator → (e : Expr) → is_joined operator e ≡ true → (is_or e || is_and e) ≡ true
in_bracket = each (λ operator. (e : Expr) → is_joined operator e ≡ true → (is_or e || is_and e) ≡ true) (λ e h. or_right (is_or e) h) (λ e h. rw h)

-- A bracket more is open where one less may be opened.
pub one_opened : (depth : ℕ) → suc depth ≤ bracket_limit → opened depth ≡ 1 + opened (suc depth)
unfolding opened
one_opened depth few = omega arith

-- A walk with more nesting and height, where there is one.
abbrev pub raise : Option Walked → ℕ → ℕ → Option Walked
raise None nesting height = None
raise (Some w) nesting height = Some (raised_by w nesting height)

-- The walks of an operand, from those of what it holds.
module _ (items : List ℕ) (at depth : ℕ) (l : at < length items) where
  pub walk_path : (count : ℕ) → path_at (get_or items at 0) ≡ some count → 1 ≤ count → (r : Option Walked)
      → Walks items (at + 1) depth (take_steps (take_within depth) count (drop (at + 1) items)) nest_steps height_steps (open_in_steps depth) r
      → Walks items at depth (take_operand (take_within depth) (drop at items)) nest_operand height_expr (open_in_operand depth) (raise r 0 1)
  walk_path count p some-step (Some r) w =
      record {
        what = path w.what;
        reads = rw (at_place items at l, operand_path (take_within depth) (get_or items at 0) count (drop (at + 1) items) p some-step, w.reads);
        nests = omega (arith, w.nests);
        heights = omega (arith, w.heights);
        guards = w.guards;
        onward = omega (arith, w.onward);
        inside = w.inside;
        shallow = omega (arith, w.shallow);
        low = omega (arith, w.low);
      }
  walk_path count p some-step None w =
      rw (at_place items at l, operand_path (take_within depth) (get_or items at 0) count (drop (at + 1) items) p some-step, w)

  pub walk_not : suc depth ≤ bracket_limit → get_or items at 0 ≡ not_item → (r : Option Walked)
      → Walks items (at + 1) depth (take_expr (take_within depth) (drop (at + 1) items)) nest_expr height_expr (open_in_expr depth) r
      → Walks items at (suc depth) (take_operand (take_within (suc depth)) (drop at items)) nest_operand height_expr (open_in_operand (suc depth)) (raise r 1 1)
  walk_not few e (Some r) w =
      record {
        what = negated w.what;
        reads = rw (at_place items at l, e, operand_denied (take_within (suc depth)) (drop (at + 1) items), w.reads);
        nests = omega (arith, w.nests);
        heights = omega (arith, w.heights);
        guards = w.guards ∙ ap (guard_depth_expr w.what) (one_opened depth few);
        onward = omega (arith, w.onward);
        inside = w.inside;
        shallow = omega (arith, w.shallow);
        low = omega (arith, w.low);
      }
  walk_not few e None w = rw (at_place items at l, e, operand_denied (take_within (suc depth)) (drop (at + 1) items), w)

  -- A bracket of an operator holds the expression that begins with its item, which is joined by it.
  pub operand_same : Operator (get_or items at 0) → take_operand (take_within (suc depth)) (drop at items) ≡ take_expr (take_within depth) (drop at items)
  operand_same o =
      ap (take_operand (take_within (suc depth))) (at_place items at l) ∙ operand_joined (get_or items at 0) o (take_within (suc depth)) (drop (at + 1) items) ∙
      ap (take_expr (take_within depth)) (sym (at_place items at l))

  pub joined_there : Operator (get_or items at 0) → (e : Expr) (next : ℕ) → take_operand (take_within (suc depth)) (drop at items) ≡ some (e, drop next items) → is_joined (get_or items at 0) e ≡ true
  joined_there o e next h =
      let w = get_or items at 0 in
      let f = from_operand (suc depth) (take_within (suc depth)) (from_within (suc depth)) (drop at items) (e, drop next items) h in
      sym ((run depth w o).begins-with e (drop next items)) ∙ ap (begins w) (sym f.items ∙ at_place items at l) ∙ eq-eqb w w refl

  pub walk_joined : suc depth ≤ bracket_limit → Operator (get_or items at 0) → (r : Option Walked) → Walks items at depth (take_expr (take_within depth) (drop at items)) nest_expr height_expr (open_in_expr depth) r
      → Walks items at (suc depth) (take_operand (take_within (suc depth)) (drop at items)) nest_operand height_expr (open_in_operand (suc depth)) (raise r 1 0)
  walk_joined few o (Some r) w =
      let read : take_operand (take_within (suc depth)) (drop at items) ≡ some (w.what, drop r.next items) = operand_same o ∙ w.reads in
      record {
        what = w.what;
        reads = read;
        nests = rw (in_bracket (get_or items at 0) o w.what (joined_there o w.what r.next read)) (omega (arith, w.nests));
        heights = omega (arith, w.heights);
        guards =
            w.guards ∙ ap (guard_depth_expr w.what) (one_opened depth few) ∙
            rw (in_bracket (get_or items at 0) o w.what (joined_there o w.what r.next read));
        onward = w.onward;
        inside = w.inside;
        shallow = omega (arith, w.shallow);
        low = omega (arith, w.low);
      }
  walk_joined few o None w = operand_same o ∙ w

  -- The operators that an expression begins with, where an item of one stands.
  pub operators_there : Operator (get_or items at 0) → 1 ≤ operators (drop at items)
  operators_there o = rw (at_place items at l) (operators_some (get_or items at 0) o (drop (at + 1) items))

  -- What is no operand.
  pub walk_none : (d : ℕ) → take_operand (take_within d) (get_or items at 0 ∷ drop (at + 1) items) ≡ none → take_operand (take_within d) (drop at items) ≡ none
  walk_none d h = ap (take_operand (take_within d)) (at_place items at l) ∙ h

-- Nothing is read past the end.
pub operand_past : (within : List ℕ → Taken Expr) (items : List ℕ) (at : ℕ) → length items ≤ at → take_operand within (drop at items) ≡ none
unfolding take_operand
operand_past within items at l = rw (drop_of_length-le items l)

-- What can be raised: walks are no deeper than brackets may be, and no higher than the items.
pub small : {A : Type 0} (items : List ℕ) (at depth : ℕ) (taken : Taken A) (nest_of height_of guard_of : A → ℕ) (r : Walked) → depth ≤ bracket_limit → length items * 4 < 2 ^ 63
    → Walks items at depth taken nest_of height_of guard_of (Some r) → Small r
small items at depth taken nest_of height_of guard_of r d l w = (omega (arith, w.shallow), omega (arith, w.low, w.inside))

-- What holds of each number and the next one holds of any number but 0 and the one before it.
pub deeper : (P : ℕ → ℕ → Type 0) → ((d : ℕ) → P d (suc d)) → (depth : ℕ) → (depth ≡ 0 → ⊥) → P (depth - 1) depth
deeper P next zero z = absurd (z refl)
deeper P next (suc d) z = subst (λ (k : ℕ). P k (suc d)) (let e : d ≡ suc d - 1 = omega arith in e) (next d)

pub less_opened : (depth : ℕ) → (depth ≡ 0 → ⊥) → depth ≤ bracket_limit → opened (depth - 1) ≡ 1 + opened depth
less_opened depth z few = deeper (λ less d. d ≤ bracket_limit → opened less ≡ 1 + opened d) one_opened depth z few

-- The brackets, where d brackets may be opened and d is not 0.
module _ (items : List ℕ) (at depth : ℕ) (l : at < length items) (z : depth ≡ 0 → ⊥) (few : depth ≤ bracket_limit) (r : Option Walked) where
  pub opens_joined : Operator (get_or items at 0) → Walks items at (depth - 1) (take_expr (take_within (depth - 1)) (drop at items)) nest_expr height_expr (open_in_expr (depth - 1)) r
      → Walks items at depth (take_operand (take_within depth) (drop at items)) nest_operand height_expr (open_in_operand depth) (raise r 1 0)
  opens_joined o =
      deeper
      (λ less d.
      d ≤ bracket_limit → Walks items at less (take_expr (take_within less) (drop at items)) nest_expr height_expr (open_in_expr less) r
      → Walks items at d (take_operand (take_within d) (drop at items)) nest_operand height_expr (open_in_operand d) (raise r 1 0))
      (λ d few. walk_joined items at d l few o r) depth z few

  pub opens_not : get_or items at 0 ≡ not_item → Walks items (at + 1) (depth - 1) (take_expr (take_within (depth - 1)) (drop (at + 1) items)) nest_expr height_expr (open_in_expr (depth - 1)) r
      → Walks items at depth (take_operand (take_within depth) (drop at items)) nest_operand height_expr (open_in_operand depth) (raise r 1 1)
  opens_not e =
      deeper
      (λ less d.
      d ≤ bracket_limit → Walks items (at + 1) less (take_expr (take_within less) (drop (at + 1) items)) nest_expr height_expr (open_in_expr less) r
      → Walks items at d (take_operand (take_within d) (drop at items)) nest_operand height_expr (open_in_operand d) (raise r 1 1))
      (λ d few. walk_not items at d l few e r) depth z few
