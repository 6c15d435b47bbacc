pub mod Calls
pub mod Rows
pub mod Told
pub mod Unwired
