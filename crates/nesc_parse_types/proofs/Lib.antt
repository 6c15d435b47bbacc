pub mod Many
pub mod Guards
pub mod Kept
pub mod Heights
pub mod Stars
pub mod Bases
