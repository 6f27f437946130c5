-- What crates above may rely on: the lemmas of this crate that they cite.

-- A catalogue that was read has no bodies to be installed, and was read from its value.
pub use Rattle.ss_nest.proofs.From.{nested_from, unspared}
-- Without its nests a value was read as the plain catalogue.
pub use Rattle.ss_nest.proofs.OneBody.{plain_reads}
-- What stands in the place of a procedure or of a text, by the nest that it is in; and what stands somewhere in the catalogue with nests.
pub use Rattle.ss_nest.proofs.Places.{placed_by}
pub use Rattle.ss_nest.proofs.Standing.{From, alone, from, joined}
-- A procedure that was found by its name is there, and has the name.
pub use Rattle.ss_nest.proofs.BodiesStand.{found_name, named_there}
-- Where there are no nests, each item stands where it stood.
pub use Rattle.ss_nest.proofs.NoNests.{none_in_place}
