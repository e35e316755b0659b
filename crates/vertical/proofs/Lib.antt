-- The invariant of a pass along an axis: `Moving`; `some_one`, `some_none`.
pub mod Axes
-- The state of the pass along child, its start, turn and end.
pub mod ChildPass
-- The same along parent.
pub mod ParentPass
-- The same along descendant-or-self.
pub mod BelowPass
-- The same along ancestor-or-self.
pub mod AbovePass
-- Images taken apart and put together, and the numbers along the way up: `image_intro`, `image-elim`, `after_elim`, `over_le`, `crossing`.
pub mod Leading
-- Descendant and ancestor by the passes that there are: `descendant_end`, `ancestor_end`.
pub mod StrictPass
