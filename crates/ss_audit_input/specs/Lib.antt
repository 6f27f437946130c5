pub mod Audits
pub mod Refused
pub mod Told
