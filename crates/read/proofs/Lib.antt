-- The answers, and what was kept while measuring: `measured`, `kept_few`, `copied`, `reread`; what a refusal leaves: `kept`, `kept_refusal`.
pub mod Answering
