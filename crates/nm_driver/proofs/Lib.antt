pub mod Causes
pub mod Compiled
pub mod Built
pub mod Reading
pub mod Made
pub mod Runs
pub mod Headline
pub mod Written
