pub mod Shape
pub mod Targets
pub mod Fitting
pub mod Requests
pub mod Answers
pub use Rattle.ss_model.specs.Database
pub use Rattle.ss_model.specs.Report
