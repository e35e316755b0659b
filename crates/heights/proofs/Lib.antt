-- The height of a part joined to another: `joined_more`.
pub mod Joining
