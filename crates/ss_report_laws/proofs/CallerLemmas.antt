-- What crates above may rely on: the lemmas of this crate that they cite.

-- What is reported client by client is reported in the order of the input.
pub use Rattle.ss_report_laws.proofs.ByClient.{same_before}
-- One request more with its answer, and one entry more in the list.
pub use Rattle.ss_report_laws.proofs.OneMore.{answered_nothing, answered_refused, answered_request, answered_step, expected_more, next_index, pushed_one}
-- What clients were reported in the order of the input is the report.
pub use Rattle.ss_report_laws.proofs.AnswersInOrder.{asked_index, before, count_here}
-- Each entry that is asked for is known by its client and index.
pub use Rattle.ss_report_laws.proofs.Asked.{same_asked}
-- From the replies follows which of the requests' entries are in the list.
pub use Rattle.ss_report_laws.proofs.Replies.{is_found}
-- Reports with the same replies list the same indices of each client.
pub use Rattle.ss_report_laws.proofs.SameIndices.{HaveTheSame, indices, same_indices}
-- What is reported client by client is reported in the order of the input.
pub use Rattle.ss_report_laws.proofs.Weaving.{answer_asked, answered_report}
-- An entry with an outcome has a value.
pub use Rattle.ss_report_laws.proofs.AnsweredEntries.{applied_of}
-- A client's entries in two lists that follow each other, and that they stand below the end of a list.
pub use Rattle.ss_report_laws.proofs.Resuming.{mine_below, mine_join}
