pub mod RoundTrip
pub mod Shortening
