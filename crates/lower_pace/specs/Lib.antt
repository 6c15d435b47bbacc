pub mod Silent
pub mod Pace
pub mod Rows
