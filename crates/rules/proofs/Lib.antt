pub mod Quotients
