-- The text of a step's axis.
use Rattle.std.specs.Prelude.{ℕ, ◌+◌, Bool, ◌&&◌, cond, List, [], ◌++◌, eqb}
use Rattle.paper.specs.Tools.{ascii}
use Rattle.paper.specs.Query.{Axis, child}
use Rattle.paper.specs.Items.{axis_number}
use Rattle.paper.specs.Printing.{axis_text}

-- The axis of a step and `::`, which the short form leaves out of child.
abbrev pub along : Bool → Axis → List ℕ
along brief a = cond (brief && eqb (axis_number a) (axis_number child)) [] (axis_text a ++ ascii "::")
