-- What crates above may rely on: the lemmas of this crate that they cite.

-- A list with others behind it is both, one after the other.
pub use Rattle.ss_model.proofs.Behind.{behind_is}
-- The two parts of a body's run: its steps, and the closing of its windows.
pub use Rattle.ss_model.proofs.BodyParts.{body_done, steps_stop, windows_stop}
-- An entry that has a value fits, and one that fits and is ready has a value.
pub use Rattle.ss_model.proofs.Fitting.{applied_fits, fitting_applies, tested}
-- What a fold gives at a node of an expression.
pub use Rattle.ss_model.proofs.Folds.{at_binary, at_col, at_lit, at_param, at_unary}
-- What the form of a catalogue says, part by part.
pub use Rattle.ss_model.proofs.FormParts.{few_procedures, few_streams, few_triggers, few_windows, limits_of, numbers_of}
-- Groups by key.
pub use Rattle.ss_model.proofs.Grouping.{grouped, grouped_onto, into_group, members_of, new_group}
-- The partition of a value and a home are partitions that run.
pub use Rattle.ss_model.proofs.HomesBelow.{home_below, value_part_below}
-- What a function of the index and the item gives of each item of a list, one item more.
pub use Rattle.ss_model.proofs.Indexed.{indexed_more, indexed_push}
-- What each expression means by its sides, and the type of a parameter and of a column.
pub use Rattle.ss_model.proofs.Meanings.{binary_test, binary_value, column_meaning, literal_value, param_type, param_value, source_type}
-- The triggers of a window at one depth less.
pub use Rattle.ss_model.proofs.OneDepthLess.{one_depth_less}
-- Which procedures a test of one says to be there.
pub use Rattle.ss_model.proofs.Procedures.{emitter_there, procedure_there, taker_there}
-- What holds of all rows of a query, since it holds of what its items give for any group.
pub use Rattle.ss_model.proofs.QueryRows.{query_all}
-- A list that replays goes on.
pub use Rattle.ss_model.proofs.Replays.{goes_on}
-- A push and its step, at the catalogue with the sliding window: the list replays.
pub use Rattle.ss_model.proofs.SlidingRun.{push, push_and_step, push_and_step_replay, step}
-- A catalogue with a window, a trigger that keeps what it shows, and a procedure that returns it: it is accepted.
pub use Rattle.ss_model.proofs.SlidingSeen.{accepted, fills, sliding_seen}
-- Under `arg` what an INSERT gives has the argument in the split column.
pub use Rattle.ss_model.proofs.SplitColumns.{context_query, key_column, same_self, values_at}
-- Tables cut down to the keys that pass a test.
pub use Rattle.ss_model.proofs.Tables.{cut_within, get_cut, get_drop, get_put, same_table}
-- What can be computed of a small catalogue: `Accepted` asks for no more but types and what each procedure uses.
pub use Rattle.ss_model.proofs.Tested.{Tested, accepted_of, calls_of, tested_of}
-- Short forms of the trees that the catalogues of these proofs have.
pub use Rattle.ss_model.proofs.Trees.{column, compares, count_is, int_column, number, select, set_to, text, text_column}
-- One turn of a loop over a list, and walks that end at the first abort.
pub use Rattle.ss_model.proofs.Walks.{Filters, Maps, best, fold_goes_on, fold_stops, maps_more, maps_stopped, on_ok, rest_of, stops_before, stops_same}
-- What a result gives, where it is no abort.
pub use Rattle.ss_model.proofs.WhenOk.{all_of, anything, try_filter_when_ok, try_map_when_ok, when_ok_at, when_ok_map, when_ok_then}
-- A query of all columns in order, with no clause, gives the rows that it is of.
pub use Rattle.ss_model.proofs.WholeRows.{retain_all, unsorted}
