-- What was read can be completed: `completes`, `runs_begins`, `begins_runs`.
pub mod Completed
-- What follows a `<` and an `&`: `less_read`, `amp_read`.
pub mod Marks
-- No wanted text goes on where a thing is left out: `unending`.
pub mod Unending
-- A thing that is left out opens where the automaton sees it, and nowhere else: `seen_opens`, `opens_seen`.
pub mod Opening
-- How judging ends: `calm_quiet`, `Calm-stuck`.
pub mod Verdict
-- `accepted`, `unique`.
pub mod Accepted
-- `left_out_refused`, `stuck_refused`, `settled`.
pub mod Refusals
