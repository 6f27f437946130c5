-- What a run says of its clients: requests that fit, and answers to those that are not listed.
pub use Rattle.ss_lanes.specs.Clients.{AllFit, AreListedOr, IsUnlisted, StartWithin, requests_from}
