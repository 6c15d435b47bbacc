pub mod Turns
pub mod Closed
pub mod Dispatch
pub mod Climb
pub mod BehindParen
pub mod Levels
