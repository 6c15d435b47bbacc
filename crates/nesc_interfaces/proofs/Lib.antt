pub mod Forms
pub mod ItemForms
