pub mod Evals
pub mod Recall
