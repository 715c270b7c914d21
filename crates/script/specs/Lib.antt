pub mod Runs
pub mod Numbers
pub mod Keywords
pub mod Reading
pub mod Commands
pub mod Lines
pub mod Faults
pub mod Laws
