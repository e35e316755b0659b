-- The test, and the head of a step: `tested_closed`, `tested_unclosed`, `dotted_on`, `dotted_off`.
pub mod Heading
-- The head by the tokens alone: `star_made` .. `child_made`.
pub mod Making
-- `*`, words and the end of the text: `NoStar`, `word_sort`, `not_word_sees`, `is_star`, `not_star`, `ends_here`, `stops_here`, `ends_not`.
pub mod Sorts
