pub mod Adding
pub mod AllThere
pub mod CallerLemmas
pub mod Fits
pub mod Going
pub mod Levels
pub mod OneRequest
pub mod StillFits
