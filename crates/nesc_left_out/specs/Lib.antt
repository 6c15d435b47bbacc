pub mod Left
pub mod Refusals
pub mod Probes
pub mod Marks
