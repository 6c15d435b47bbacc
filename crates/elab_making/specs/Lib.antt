pub mod View
pub mod Does
pub mod Boot
