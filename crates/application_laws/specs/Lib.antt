pub mod OneWiring
pub mod OneProgram
