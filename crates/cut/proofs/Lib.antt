-- The lines of the question: `too_long`, `right_lengths`, `answered`.
pub mod Lines
