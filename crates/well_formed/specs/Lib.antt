pub mod Kinds
pub mod Laid
pub mod Scopes
pub mod Exits
pub mod Formed
