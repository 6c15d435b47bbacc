pub mod Objects
pub mod Lists
pub mod Many
pub mod Built
