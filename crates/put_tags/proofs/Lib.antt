-- The name of an element in the text, from behind its `<` to where no name goes on: `name_within`, `name_is`, `name_short`.
pub mod Naming
-- End tags put one by one: `closing_start`, `known`, `closing_more`, `closing_done`, `closing_room`.
pub mod Closing
