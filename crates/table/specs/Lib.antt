pub mod Lines
pub mod Places
pub mod Standing
pub mod Changes
pub mod Laws
pub mod Failing
