mod Keeps
mod Exprs
mod Stmts
mod Decls
pub mod Units
mod Lexed
