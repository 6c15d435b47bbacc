pub mod Costs
pub mod Updates
pub mod Small
pub mod Exprs
pub mod Stmts
pub mod Spots
pub mod Parts
pub mod Bodies
