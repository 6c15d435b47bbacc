pub mod Environments
pub mod Given
pub mod Uses
pub mod View
