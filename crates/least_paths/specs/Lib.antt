pub mod Backward
pub mod Visits
pub mod Ascending
pub mod Searched
