pub mod Forms
pub mod Hiding
