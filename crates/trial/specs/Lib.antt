pub mod Troubles
pub mod Entering
pub mod Checking
pub mod Trials
pub mod Sessions
