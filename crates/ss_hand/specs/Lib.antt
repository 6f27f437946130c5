pub mod Partitions
pub mod Apart
pub mod Meetings
pub mod Hands
