pub mod Placeless
pub mod ReadAgain
pub mod Shapes
pub mod StatementsAgain
