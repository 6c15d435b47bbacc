pub mod Kinds
pub mod Sizes
pub mod Scoped
pub mod Results
pub mod Forms
pub mod Operators
pub mod Laws
