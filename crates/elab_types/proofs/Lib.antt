pub mod Lengths
pub mod Scopes
pub mod Tables
