pub mod Bodies
pub mod Image
pub mod Runs
pub mod Order
