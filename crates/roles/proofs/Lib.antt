-- Views counted: `Counting`, `one_counted`, `all_counted`.
pub mod Counting
-- The lines of the paper as the code goes by them: `list_judged`, `no_role`, `no_view`, `to_union`.
pub mod Answering
