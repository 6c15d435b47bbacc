pub mod Compiled
pub mod AtomicImage
pub mod Statements
pub mod Laid
pub mod Table
