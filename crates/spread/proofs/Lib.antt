-- What is kept with the nodes of a set: `spreads`.
pub mod Spreading
