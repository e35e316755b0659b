-- The turns of a query's items leave the marked query: `query_turns`, and in a copy of zeros `query_marked`.
pub mod Turning
-- Laws that the functions cite.
pub mod Telling
