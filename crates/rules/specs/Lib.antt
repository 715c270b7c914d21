pub mod Criteria
pub mod Margins
pub mod Readings
pub mod Boxing
pub mod MarginsLemmas
pub mod Yielding
