-- The links and the search along them: `none_linked`, `one_linked`, `all_linked`, `seek_first`, `seek-next`, `found_first`, `none_found`; two lists of bytes, `whole_same`, `whole_length_differs`, `whole_differs`; a word of a text, `word_long`, `word_first`; where a name stands, `start_inside`, `spelled_inside`, `spelled_same`.
pub mod Linking
-- One memory: `chained_unique`.
pub mod Unique
