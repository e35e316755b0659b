-- Lines that agree with columns: `told_joined`, `told_closed`, `more_compares`, `end_compares`.
pub mod Agreeing
-- What is counted and compared past each piece: `start_comes`, `empty_comes`, `end_comes`, `text_comes`.
pub mod Pieces
-- Comparing from piece to piece: `deep`, `takes`, `root_faces`, `element_read`, `ends_wanted`, `says`.
pub mod Matching
-- The promise of `outcome` leaves one answer: `outcome_unique`.
pub mod Unique
