-- What crates above may rely on: the lemmas of this crate that they cite.

-- Which bytes are a JSON value.
pub use Rattle.ss_lines.proofs.Json.{json_of-text}
