pub mod AskedLists
pub mod Premises
pub mod Replaying
pub mod SettledLists
