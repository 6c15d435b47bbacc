pub mod Ways
pub mod Flow
