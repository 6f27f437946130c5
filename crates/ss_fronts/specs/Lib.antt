pub mod WeakReads
pub mod WeakFronts
pub mod Fronts
pub mod Laws
pub mod WeakLaws
