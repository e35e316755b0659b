-- What a judged run may do, and what it leaves in its scratch: `searchable`, `runnable`, `scratch_stays`, `scratch_cleared`.
pub mod Answering
