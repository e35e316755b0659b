-- `table_refused`, `table_shown`, `text_refused`, `text_read`, `refusal_adds`, `shown_adds`.
pub mod Adding
