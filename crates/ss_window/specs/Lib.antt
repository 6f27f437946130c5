pub mod Slides
pub mod WindowValue
pub mod Numbers
pub mod Laws
