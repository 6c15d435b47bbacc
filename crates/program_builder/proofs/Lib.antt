pub mod Differ
pub mod Numbered
pub mod OfKernel
pub mod Laid
pub mod ByTasks
pub mod Weighed
