pub mod Order
pub mod Turning
pub mod WayTables
pub mod Sorting
pub mod Visiting
pub mod Steps
pub mod Reading
pub mod First
