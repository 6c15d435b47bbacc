pub mod Initial
pub mod Parts
