pub mod Guards
pub mod Operands
pub mod Spelling
