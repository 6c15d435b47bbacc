pub mod Programs
pub mod OneApplication
