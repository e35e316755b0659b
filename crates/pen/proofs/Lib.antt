-- Bytes put from a place on: `Puts`, `puts_both`.
pub mod Putting
-- What stands in a slice with room enough and with none: `puts_written`, `puts_nothing`.
pub mod Room
