pub mod Bounded
pub mod Tables
