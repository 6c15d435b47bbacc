pub mod Elements
pub mod Folds
