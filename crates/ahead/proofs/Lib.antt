-- How paths and operands begin: `joined_past`, `lead_deep`, `lead_before`, `lead_alone`; `round_no_word`, `no_word_and`, `and_false`, `no_round_and`.
pub mod Beginning
-- What joins absolute paths: `looks_same`, `joins_bar`, `joins_word`, `joins_none`.
pub mod Joining
-- What begins no step.
pub mod Steps
-- One answer each: `end_of` fixes the cursor that is handed back.
pub mod Unique
-- The words of tests, `node_word`, `text_word`, `no_call_word`, `call_small`, and the axis that is written.
pub mod Words
