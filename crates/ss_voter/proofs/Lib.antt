pub mod Bodiless
pub mod VoterOutline
pub mod Fitting
pub mod VoterHas
