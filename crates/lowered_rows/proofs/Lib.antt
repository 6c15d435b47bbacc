pub mod Formed
pub mod Numbers
