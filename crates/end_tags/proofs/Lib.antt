-- How reading goes through an end tag, `Renaming`: `renaming_begins`, `renaming_more`, `renaming_refused`, `renaming_done`, `end_cut`, `end_closes`, `end_refused`, `end_ends`, `end_stuck`; over letters of a block: `letters_again`.
pub mod Ending
-- The promise of `end_tag` leaves one answer: `end_unique`.
pub mod Unique
