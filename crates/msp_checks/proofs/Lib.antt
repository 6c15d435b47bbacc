pub mod WorkedRows
pub mod Numbers
pub mod Shifting
pub mod Matching
pub mod Ending
pub mod Laid
