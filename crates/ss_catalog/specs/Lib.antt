pub mod Texts
pub mod Checks
pub mod Reads
pub mod SqlFaults
pub mod Accepts
pub mod Answers
pub mod Bodies
pub use Rattle.ss_model.specs.Accepted
