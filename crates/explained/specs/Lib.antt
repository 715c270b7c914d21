pub mod Holding
pub mod Inequalities
pub mod Texts
