pub mod Lists
pub mod Sources
