pub mod CodePoints
pub mod Splices
pub mod Joined
pub mod Spelling
pub mod Longest
pub mod Lexes
pub mod Begins
pub mod Rows
