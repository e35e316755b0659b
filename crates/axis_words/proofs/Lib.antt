-- The axis of a word among some, compared in turn: `among`, `among_from`; of all axes, `Left`, `all_left`, `passed`, `named_so`, `none_left`.
pub mod Words
