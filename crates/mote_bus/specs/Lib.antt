pub mod Accesses
pub mod Laws
pub mod Mote
pub mod Slots
