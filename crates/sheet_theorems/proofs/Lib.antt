-- What is kept and what is hidden are all there is, for a document and over a run.
pub mod Together
-- No sum over a run outgrows 32 bits.
pub mod Fitting
