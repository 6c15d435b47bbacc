pub mod Order
pub mod PathLemmas
pub mod Walking
pub mod OneAnswer
pub mod NextLemmas
