pub mod Parts
pub mod Starts
pub mod Firsts
pub mod Kinds
pub mod Sites
pub mod Known
pub mod Limit
pub mod Worked
