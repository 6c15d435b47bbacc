pub mod Cycles
pub mod Frames
pub mod Stays
