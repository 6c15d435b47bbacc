pub mod Open
pub mod Body
pub mod Stands
pub mod Homes
pub mod Swift
pub mod Laws
pub mod Rows
