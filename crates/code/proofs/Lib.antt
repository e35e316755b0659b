-- An answer in one number: `number_small`, `number_is`, `place_is`, `value_code`, `refusal_code`, `coded`.
pub mod Coding
