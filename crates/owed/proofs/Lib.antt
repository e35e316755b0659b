-- What items owe, where a thing ends: `steps_eaten`.
pub mod Owing
-- One item more of what is owed: `owes_as`, `eaten_more`.
pub mod Passing
