-- The pass over the items of a query that leaves, in a copy, the decision on each step as its axis. Item by item: what the copy holds where an item stands before its turn, and what its turn leaves there and further on.
use Rattle.std.specs.Prelude.{ℕ, zero, suc, ◌+◌, ◌-◌, ◌*◌, ◌/◌, ◌%◌, Bool, true, false, not, ◌&&◌, ◌||◌, cond, List, [], ◌∷◌, eqb, ltb, length, get_or, set, drop}
use Rattle.std.proofs.Math.Option.{Option, none, some}
use Rattle.paper.specs.Query.{Axis, Query}
use Rattle.paper.specs.Items.{axis_of, encode}
use Rattle.paper.specs.Lean.{goes_down, leanly}
use Rattle.lean_theorems.specs.Marks.{marked}
use Rattle.item.specs.Unpacked.{unpacked, packed, guarded_number}
use Rattle.item.specs.declared.Step.{Step}
use Rattle.item.specs.declared.Item.{Item}
use Rattle.item.specs.declared.Item.TheVariants.{Path, Step as StepItem, And, Or, Not, Bad}
use Rattle.owed.specs.Owing.{eaten}

-- Does a step along the axis of this number go down? Along what is no axis it does not.
abbrev pub down_axis : Option Axis → Bool
down_axis none = false
down_axis (some a) = goes_down a

unfoldable pub down_number : ℕ → Bool
down_number axis = down_axis (axis_of axis)

-- Is the item a step that goes down?
abbrev pub down_as : Item → Bool
down_as (Path count) = false
down_as (StepItem s) = down_number s.axis
down_as And = false
down_as Or = false
down_as Not = false
down_as Bad = false

unfoldable pub down_item : ℕ → Bool
down_item w = down_as (unpacked w)

-- What a step is told: how many steps follow it in its path, whether the node before it is loose, and 1 if the last step follows its path.
abbrev pub state_of : ℕ → Bool → ℕ → ℕ
state_of left loose last = left * 4 + cond loose 2 0 + last

-- Told to the next of so many steps, if there is one.
abbrev pub pass_on : List ℕ → ℕ → ℕ → Bool → ℕ → List ℕ
pass_on marks next zero loose last = marks
pass_on marks next (suc left) loose last = set marks next (state_of left loose last)

-- Where the steps, predicates or operands of the item at a place end.
abbrev pub past : List ℕ → ℕ → ℕ → ℕ
past items place count = place + 1 + eaten (drop (place + 1) items) count

-- Does a step that goes down follow?
abbrev pub down_at : List ℕ → ℕ → ℕ → ℕ → Bool
down_at items next zero last = eqb last 1
down_at items next (suc left) last = cond (ltb next (length items)) (down_item (get_or items next 0)) false

-- The turn of a step that is told this.
abbrev pub step_told : List ℕ → ℕ → Step → ℕ → Bool → ℕ → List ℕ → List ℕ
step_told items place s left loose last marks =
    let next = past items place s.count in
    let hidden = guarded_number s.axis || (eqb s.axis 0 && loose) in
    let guards = hidden && not (down_at items next left last) in
    pass_on (set marks place (packed (record { axis = cond guards 1 0; test = s.test; count = s.count }))) next left (hidden && not guards) last

abbrev pub step_turn : List ℕ → ℕ → Step → List ℕ → List ℕ
step_turn items place s marks =
    let told = get_or marks place 0 in
    step_told items place s (told / 4) (eqb (told / 2 % 2) 1) (told % 2) marks

-- The turn of a path: the first step is told, and behind a top-level path the next one.
abbrev pub path_told : List ℕ → ℕ → ℕ → ℕ → ℕ → List ℕ → List ℕ
path_told items place w count last marks =
    let first = pass_on (set marks place w) (place + 1) count false last in
    cond (eqb last 1) (set first (past items place count) 1) first

abbrev pub turn_as : List ℕ → ℕ → ℕ → List ℕ → Item → List ℕ
turn_as items place w marks (Path count) = path_told items place w count (get_or marks place 0 % 2) marks
turn_as items place w marks (StepItem s) = step_turn items place s marks
turn_as items place w marks And = set marks place w
turn_as items place w marks Or = set marks place w
turn_as items place w marks Not = set marks place w
turn_as items place w marks Bad = set marks place w

unfoldable pub turn : List ℕ → ℕ → ℕ → List ℕ → List ℕ
turn items place w marks = turn_as items place w marks (unpacked w)

-- The turns of the items from a place on.
abbrev pub turns : List ℕ → ℕ → List ℕ → List ℕ → List ℕ
turns items place [] marks = marks
turns items place (w ∷ ws) marks = turns items (place + 1) ws (turn items place w marks)

-- The items of the marked query.
abbrev pub marked_got : Option Query → List ℕ
marked_got none = []
marked_got (some q) = encode (marked leanly q)
