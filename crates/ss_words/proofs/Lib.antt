pub mod Asking
pub mod CallerLemmas
pub mod Cuts
pub mod Parsed
pub mod Reading
pub mod Suiting
pub mod Taken
mod Worked
