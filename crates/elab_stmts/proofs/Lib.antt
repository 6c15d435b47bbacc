pub mod Sizes
pub mod Cuts
pub mod Loops
pub mod Forms
