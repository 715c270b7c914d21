pub mod Rankings
pub mod Best
pub mod Questions
pub mod Stops
pub mod Carried
pub mod Existence
pub mod Steps
