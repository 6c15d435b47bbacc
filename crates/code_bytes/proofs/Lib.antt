pub mod Fixed
pub mod Within
