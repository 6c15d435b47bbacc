pub mod Expressions
pub mod Numbers
pub mod Parts
pub mod Places
pub mod Rows
pub mod Statements
pub mod Trees
