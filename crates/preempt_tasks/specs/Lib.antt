pub mod Bodies
pub mod Steps
pub mod Law
pub mod Laid
pub mod Example
