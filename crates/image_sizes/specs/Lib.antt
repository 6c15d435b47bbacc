pub mod StackWeight
pub mod Laws
