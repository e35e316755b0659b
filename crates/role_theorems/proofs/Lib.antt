-- What is derived from a text keeps 01's rules and has no more brackets than may be open: `Reads`, `reads`, `read_is_query`.
pub mod Reading
-- The union of queries and of views: `union_keeps`, `union_is`, `role-union`, `monotony`, `root_grows`, `never_malformed`.
pub mod Unions
-- What a role does not use plays no part: `independence`.
pub mod Apart
-- `role_small`.
pub mod Small
