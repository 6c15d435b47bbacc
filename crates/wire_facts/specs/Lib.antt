pub mod Components
pub mod Rows
pub mod Scopes
pub mod Seen
