pub mod FromPlace
