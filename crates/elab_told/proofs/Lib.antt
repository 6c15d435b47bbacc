pub mod OwnNames
pub mod Parameters
pub mod Tellings
pub mod Used
