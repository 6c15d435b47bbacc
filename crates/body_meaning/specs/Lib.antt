pub mod Tree
pub mod View
pub mod Scopes
pub mod Initial
pub mod Stmts
pub mod StmtForms
pub mod StmtRows
