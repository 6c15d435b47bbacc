mod Forms
pub mod Lists
