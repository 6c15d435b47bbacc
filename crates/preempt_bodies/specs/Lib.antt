pub mod Bodies
pub mod Boards
pub mod WordBoards
pub mod Runs
pub mod Example
pub mod Laid
pub mod Rows
