pub mod Components
pub mod Declarations
pub mod Expressions
pub mod Lexemes
pub mod Operators
pub mod Rows
pub mod Statements
pub mod Trees
