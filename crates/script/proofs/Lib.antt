pub mod Cutting
pub mod Splitting
pub mod Digits
pub mod Comments
pub mod Spelling
pub mod Decimals
pub mod Writing
