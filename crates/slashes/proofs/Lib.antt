-- What is asked of a step, and of its item: `not_worth`, `fields_pass`.
pub mod Deepening
