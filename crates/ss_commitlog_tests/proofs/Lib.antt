pub mod Lives
pub mod Marks
pub mod Rightly
