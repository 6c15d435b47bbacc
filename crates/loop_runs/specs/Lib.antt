pub mod Bodies
pub mod Kernel
pub mod Loop
pub mod Law
pub mod Steps
pub mod Example
