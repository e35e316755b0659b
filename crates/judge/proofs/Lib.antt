-- The lines of a run in their order, and what is known where none holds: `Long`, `Agree`, `judged_agrees`, `Accepted`, `accepted`, `runs`, `short_of`, `refused_answer`, `marks_stay`, `run-marks`.
pub mod Answering
