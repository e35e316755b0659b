-- Bytes with two tests each, `twin`, stores into them, and the invariant of a pass over them, `Telling`: `tells`, `set_one`, `set_two`.
pub mod Twins
-- The state of the pass along following-sibling, its start, turn and end.
pub mod BehindPass
-- The same along preceding-sibling.
pub mod AheadPass
-- The same along following, with the last node of the set so far.
pub mod FollowingPass
-- The same along preceding, with the least parent of the nodes passed.
pub mod PrecedingPass
