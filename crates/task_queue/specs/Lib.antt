pub mod Posting
pub mod Kernel
pub mod Rows
