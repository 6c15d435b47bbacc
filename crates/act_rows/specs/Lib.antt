pub mod Bodies
pub mod FirstRun
pub mod Rows
