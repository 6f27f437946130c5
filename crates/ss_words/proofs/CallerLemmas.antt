-- What crates above may rely on: the lemmas of this crate that they cite.

-- Words that ask for something are a command, and ask for one thing, with one partition to eight, 16 restarts at most, none of them in weak mode, checkpoints and a show within their ranges.
pub use Rattle.ss_words.proofs.Asking.{asks_is_command, asks_for_one, partitions_are_few, every_is_within, restarts_are_few, restarts_are_strong, show_is_small}
