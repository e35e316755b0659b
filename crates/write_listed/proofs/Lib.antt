-- The lines of writing XML in their order: `too_long`, `lengths`, `bad_list`, `bad_table`, `bad_marks`, `no_element`, `other_text`, `filed`.
pub mod Lines
