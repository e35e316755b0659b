-- The rows of a cut as the code asks of them: `all-rows`, `each_row`.
pub mod Passing
