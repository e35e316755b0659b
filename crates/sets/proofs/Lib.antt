-- Reading and storing in the bytes of a set: `bits_at`, `bits_same`, `bits_set`.
pub mod Bits
-- The invariant of a loop that works on each element by itself, `Passed`: `none_passed`, `one_passed`, `first_passed`, `rest_stays`, `all_passed`, `same_elements`.
pub mod Passes
