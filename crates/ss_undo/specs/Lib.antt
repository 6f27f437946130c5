pub mod ResultsFrom
pub mod Completion
pub mod Laws
pub mod Indexed
pub mod Windows
pub mod Holding
pub mod IndexLaws
pub mod Staying
