pub mod Elaborates
