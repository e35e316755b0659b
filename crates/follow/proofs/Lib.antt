-- What a judged call may do, with scratch enough: `searchable`, `enough_for`.
pub mod Answering
