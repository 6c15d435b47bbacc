pub mod Form
pub mod Numbers
