pub mod Meaning
pub mod Headers
pub mod Loops
pub mod Quotes
pub mod Scoped
