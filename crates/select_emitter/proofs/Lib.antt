pub mod Zeros
pub mod Pushing
pub mod Framing
pub mod Fitting
pub mod Called
pub mod RowProgram
pub mod Written
