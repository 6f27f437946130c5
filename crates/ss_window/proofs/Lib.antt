mod Worked
pub mod CallerLemmas
pub mod Numbered
pub mod Rises
pub mod Crossing
