pub mod Frames
pub mod Select
pub mod Sound
pub mod Laid
pub mod AtomicRow
pub mod Rows
pub mod Routine
pub mod Weight
