pub mod Beginning
pub mod Right
pub mod worked
