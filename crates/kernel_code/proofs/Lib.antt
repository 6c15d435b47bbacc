pub mod Cut
pub mod Each
pub mod Ends
pub mod Fields
pub mod Kernels
pub mod Orders
pub mod Whole
