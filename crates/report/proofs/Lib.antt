-- What the first line says of an input: `input_long`, `input_taken`.
pub mod Inputs
