-- What crates above may rely on: the lemmas of this crate that they cite.

-- Parts in hand, behind a list that goes on from what a mark knew.
pub use Rattle.ss_turns.proofs.InHand.{holds_behind}
-- There is a mark in hand.
pub use Rattle.ss_turns.proofs.Marks.{some_marks}
-- Marks that go on, one by one or all together.
pub use Rattle.ss_turns.proofs.MarksOn.{all_met, all_on_and_on, all_on_itself, continue_through, first_goes_on, first_in, looked_in_hand, reaching, roles_go_on, went_in}
