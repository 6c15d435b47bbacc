pub mod ItemLists
pub mod Turns
pub mod Forms
pub mod Blocks
pub mod StmtForms
pub mod Bases
