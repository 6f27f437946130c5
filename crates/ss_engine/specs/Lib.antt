pub mod Pumped
pub mod Assured
pub mod Checkpoints
pub mod Engines
pub mod Least
pub mod Tried
pub mod Serving
pub mod Closings
pub mod Clients
pub mod Sessions
-- What of a client's entries has no receipt yet, which a run says.
pub use Rattle.ss_lanes.specs.Dues
