pub mod Wires
pub mod Answers
pub mod Paths
pub mod Ground
