pub mod Bodies
pub mod Items
pub mod Cases
pub mod Levels
pub mod Loops
