pub mod Numbers
pub mod Spelling
pub mod Bounds
pub mod Reading
pub mod Records
pub mod Found
