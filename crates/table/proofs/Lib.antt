-- A node after the root: `later`; every parent is a node: `inside`.
pub mod Nodes
-- A search that stops at the first bad index: `no_fault`, `fault_at`.
pub mod Firsts
-- Going up in a table whose first n nodes are good: `Way-up`, `way_end`.
pub mod Ways
