pub mod Application
pub mod Brackets
pub mod Ends
pub mod Fits
pub mod Lookup
pub mod Makers
pub mod Pairs
pub mod Rows
