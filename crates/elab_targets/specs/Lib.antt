pub mod Places
pub mod Starts
pub mod Tables
pub mod View
