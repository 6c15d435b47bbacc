pub mod Rows
pub mod Gathers
pub mod Held
pub mod RunText
pub mod Totals
