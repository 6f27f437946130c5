pub mod Pending
pub mod Streams
pub mod OfDatabase
