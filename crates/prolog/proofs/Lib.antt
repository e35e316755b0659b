-- The states that wait for a pattern of the declaration: a byte, `pattern_takes`, `pattern_none`, `pattern_alike`; parts one after the other, `heads_then`, `heads_stuck`, `heads_from`; bytes, `row_heads`, `byte_heads`, `word_heads`; runs, `many_run`, `enters_run`.
pub mod Heading
-- The declaration, part by part: `equals_read`, `quote_taken`, `name_quote`, `given_then`, `number_read`, `is_yes`, `is_no`, `alone_on`, `alone_off`, `coded_on`, `coded_off`, `encoding_other`, `encoding_none`.
pub mod Declaring
-- How the text begins: the name of an encoding, `other_is`, `named_other`, `named_five`, `named_same`, a word, `starts_same`, `starts_all`, `starts_cut`, `starts_differs`, `starts_more`, and a declaration, `declares_by`.
pub mod Beginnings
-- Where the one element begins: past white space, `land_here`, `land_other`, `land_left_out`; from the beginning of the text, `lead_declared`, `lead_plain`, `lead_mark`, `lead_stuck`; `seek` and `seek_head` go on alike before it: `goes_ahead`, `goes_heading`.
pub mod Landing
-- The promise of `lead` leaves one answer: `lead_unique`.
pub mod Unique
