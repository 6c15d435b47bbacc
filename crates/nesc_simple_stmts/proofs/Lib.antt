pub mod Guards
pub mod LeftOut
