-- Files over calls: `read_back`, `file_secrecy`.
pub mod FileCalls
