pub mod Turns
pub mod Sizes
pub mod Cuts
pub mod Loops
pub mod Evals
