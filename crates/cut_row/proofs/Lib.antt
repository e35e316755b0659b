-- A row of a cut as the code asks of it: `within`, `outside`, `asked`, `leaf_decides`; a test that cannot hold: `fails`.
pub mod Asking
