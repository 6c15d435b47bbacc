pub mod Told
pub mod FromPlace
pub mod Faults
pub mod Stands
