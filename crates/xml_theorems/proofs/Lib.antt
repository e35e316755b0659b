-- Places in the tree, by `Further` (each production goes on in the text): `tree_nests`, `tree_spaced`.
pub mod Nesting
-- The lines of a part of the tree stand in the table from a number on, `Stand`: `three`, `two` (which part a number belongs to).
pub mod Numbered
-- Places in the table: `parents`, `places_nest`, `places_rise`, `places_apart`, `no_two_texts`.
pub mod Placed
-- The columns are a table without fault: `column_tree`, `under`, `ordered`, `good_table`.
pub mod Tabled
-- What is known where the answer is a value, `taken`: `written-table`, `written_runs`, `written_lines`.
pub mod Written
-- Which bytes stand at the places: `elements_stand`, `texts_stand`.
pub mod Standing
-- Places tell who is over whom: `places_tell`.
pub mod Telling
-- Every answer is below 2^32: `read_xml_small`; `halyardfig` hands it to `coded`.
pub mod Bounds
