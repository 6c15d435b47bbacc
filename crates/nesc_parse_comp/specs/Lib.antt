pub mod Behind
pub mod Named
pub mod Reads
pub mod Units
