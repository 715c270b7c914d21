pub mod Along
pub mod Lowest
pub mod Ranked
pub mod Skips
pub mod Failing
pub mod Existence
