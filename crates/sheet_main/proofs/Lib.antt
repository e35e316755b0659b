-- `list_fine`.
pub mod Listing
