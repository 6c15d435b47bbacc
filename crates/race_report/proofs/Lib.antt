pub mod PartLemmas
pub mod Passing
pub mod FirstLemmas
pub mod KindLemmas
pub mod PathLemmas
pub mod RowLemmas
pub mod Ordered
pub mod KindRows
