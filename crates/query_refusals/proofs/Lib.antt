-- A reader decides by the tokens it takes and the one after them: `local_cons`, `local_then`.
pub mod Local
-- The same for each reader of queries.
pub mod Stands
-- What is derived stands on its own: `Front`, `within_piece`.
pub mod Pieces
-- Refusal 4: `reached`.
pub mod Deep
-- `refused_wrong`, `refused_deep`.
pub mod Refusals
-- `exact_text`, `settled`, `read_any_names`.
pub mod Exactly
