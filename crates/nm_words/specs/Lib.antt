pub mod Modes
pub mod Command
pub mod Asked
pub mod Laws
pub mod Texts
pub mod WordRows
