pub mod Tells
pub mod Boards
pub mod Contexts
pub mod States
pub mod Checking
