pub mod Members
pub mod Ranking
pub mod Wholes
pub mod Ready
pub mod Settlings
