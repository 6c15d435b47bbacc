pub mod PrintedFiles
pub mod UnitShapes
pub mod UnitsAgain
