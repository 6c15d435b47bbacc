pub mod Lists
pub mod Stepping
pub mod Queueing
pub mod Popping
pub mod Kernels
