-- Items that stand further on: `then_chosen`.
pub mod Copying
