pub mod Closing
pub mod Lists
pub mod Stars
