pub mod FileCalls
