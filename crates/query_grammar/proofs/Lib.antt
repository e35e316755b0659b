-- Tests on the next token: `chosen`, `then_got`.
pub mod Seeing
-- What a run of `and` and one of `or` have in common: `Run`, `and_run`, `or_run`; what each operand keeps holds of the run: `run_keeps`.
pub mod Runs
-- What is derived takes tokens off the front, and no end of the text: `Leaves`.
pub mod Leaving
-- Read, so derived: `within_got`.
pub mod Sound
-- The readers' bounds never tell: `unbounded`; how a reader goes on: `preds_on`, `steps_on`.
pub mod Fuel
-- Derived, so read: `within_read`.
pub mod Complete
-- `accepted`, `unique`.
pub mod Accepted
-- `spelt_read`, `child_read`.
pub mod Abbreviations
-- `places_apart`.
pub mod Places
-- Version 2 reads what version 1 reads, as the same query: `newer_derives`, `newer_reads`, `newer_reads_text`, `newer_answers`.
pub mod Versions
