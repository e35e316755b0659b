-- An element is looked for among the nodes: `Looked`, `one_looked`, `all_looked`.
pub mod Elements
-- Line 10 and the file: `lacking`, `wrote`.
pub mod Room
