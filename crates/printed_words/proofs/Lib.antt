pub mod Bytes
pub mod Longer
pub mod Quoting
pub mod Stays
pub mod Feeds
pub mod Lexing
pub mod Ends
