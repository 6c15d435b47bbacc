pub mod Modules
pub mod Unwired
