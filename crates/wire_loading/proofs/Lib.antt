pub mod Lists
pub mod Numbers
pub mod Opening
pub mod Outside
