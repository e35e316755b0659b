-- What a run and writing make of what is shown: `run_nothing`, `run_some`, `file_gives`.
pub mod Showing
