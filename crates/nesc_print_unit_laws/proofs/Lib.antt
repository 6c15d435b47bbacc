mod Keywords
mod Interfaces
mod Generics
mod Heads
mod Lines
mod Units
mod UnitsKnown
pub mod UnitLaw
mod FilesLaw
