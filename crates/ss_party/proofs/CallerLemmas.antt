-- What crates above may rely on: the lemmas of this crate that they cite.

-- How many bays are gathered at most.
pub use Rattle.ss_party.proofs.Gathering.{few_gathered}
