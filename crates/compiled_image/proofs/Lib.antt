pub mod Compiled
pub mod AtomicFunction
pub mod AtomicImage
pub mod Laid
pub mod Table
