-- Where a piece leads from inside the open elements: `take_moves`, `root_moves`, `lead_on`, and the refusals `take_refused`, `root_refused`, `lead_refused`.
pub mod Moved
-- What is counted and kept past each piece: `start_comes`, `empty_comes`, `end_comes`, `text_comes`.
pub mod Counted
-- Reading from piece to piece: `deep`, `takes`, `root_faces`, `element_read`, `comes_ends`, `ends_judges`, `ends_inside`, `ends_wanted`.
pub mod Judged
