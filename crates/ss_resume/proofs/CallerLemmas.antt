-- What crates above may rely on: the lemmas of this crate that they cite.

-- The request from which a client goes on, by its number: one of those that have an answer, or the one behind them.
pub use Rattle.ss_resume.proofs.Starts.{resume_within, starts_are}
-- Of the lists of all clients, each client's answers that stay and those behind them.
pub use Rattle.ss_resume.proofs.Starts.{each_joined}
