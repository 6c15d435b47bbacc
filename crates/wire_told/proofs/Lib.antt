pub mod Found
pub mod Said
pub mod Steps
pub mod Takes
