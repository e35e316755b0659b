pub mod Productions
