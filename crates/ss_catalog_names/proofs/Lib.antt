pub mod Firsts
pub mod FirstTwice
pub mod Same
