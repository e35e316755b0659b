-- What the first line says of an input: `input-long`, `input-taken`.
pub mod Inputs
