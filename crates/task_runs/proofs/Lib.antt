-- Both levels of images with tasks together.
pub mod Kept
pub mod Following
pub mod Whole
