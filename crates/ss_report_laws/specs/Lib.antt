pub mod OneList
pub mod PartOf
pub mod Replies
pub mod Resuming
