pub mod Made
pub mod Stmts
