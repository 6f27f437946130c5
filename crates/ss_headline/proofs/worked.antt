pub mod Premises
pub mod Weak
