pub mod Counted
pub mod Orders
pub mod Shifts
pub mod Lowest
pub mod Places
pub mod Dues
pub mod Looked
