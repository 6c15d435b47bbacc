pub mod Shapes
pub mod Shares
pub mod Cuts
pub mod Loops
