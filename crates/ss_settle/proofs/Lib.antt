pub mod Ranked
pub mod FirstIsNext
pub mod Looks
pub mod WholeList
pub mod SettledLists
pub mod Endings
pub mod CallerLemmas
pub mod worked
