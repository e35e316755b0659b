-- The walk over the nodes: `walk_start`, `walk_node`, `walk_pass`, `walk_done`; where it may begin: `walk_lent`.
pub mod Walking
