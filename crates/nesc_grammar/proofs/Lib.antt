pub mod Instance
pub mod Reach
pub mod RowLemmas
pub mod Plain
pub mod DeclarationRowLemmas
