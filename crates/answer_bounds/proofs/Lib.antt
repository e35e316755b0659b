-- Lines of a list.
pub mod NameBounds
-- Pieces and text.
pub mod PrintBounds
-- What each reader gives, by the tokens it took: `Fair`.
pub mod ReadBounds
-- `nesting_size`, `composed_small`.
pub mod ComposeBounds
-- Every answer is below 2^32: `read_small`, `print_small`, `compose_small`, `run_small`, `extract_small`, `height_small`, `paths_small`, `scratch_small`; `halyardfig` hands them to `coded`.
pub mod Bounds
