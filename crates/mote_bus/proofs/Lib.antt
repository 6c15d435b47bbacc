pub mod Accepting
pub mod Shows
pub mod SlotLemmas
