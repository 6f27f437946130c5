-- Who does not touch the home of a border stream's procedure adds no batch to the stream.
use Rattle.std.proofs.Common.{◌≡◌, ◌≢◌, ◌≤◌, ℕ, nat_lt, Bool, true, false, cond, List, [], ◌∷◌, ◌++◌, get_or, length, slice_get, refl, sym, ap, ◌∙◌, Some, None, unwrap_or, arith}
use Rattle.std.proofs.lemmas.Bool.{ltb-true, ltb-false}
use Rattle.std.proofs.lemmas.List.{get_or_past, get_or-set_other}
use Rattle.std.specs.declared.option.Option.{Option}
use Rattle.std.specs.Option.{option_map}
use Rattle.std.specs.List.{list_any}
use Rattle.ss_lemmas.proofs.Bools.{is_false}
use Rattle.ss_lemmas.proofs.Numbers.{eqb_self}
use Rattle.ss_value.specs.Rows.{Row, Rows}
use Rattle.ss_model.specs.declared.catalog.Catalog.{Catalog}
use Rattle.ss_model.specs.declared.catalog.Procedure.{Procedure}
use Rattle.ss_model.specs.declared.entry.Entry.{Entry}
use Rattle.ss_model.specs.declared.entry.Entry.TheVariants.{Call, Push, Step as StepEntry, Install}
use Rattle.ss_model.specs.declared.entry.Listed.{Listed}
use Rattle.ss_model.specs.declared.entry.Outcome.TheVariants.{Done, Duplicate, Gap}
use Rattle.ss_model.specs.Database.{Database, Applied, apply, apply_call, apply_step, accept_batch, append_batches, emits_to, is_border_stream, next_number, stream_batches}
use Rattle.ss_model.specs.parts.ListLocality.{Untouched}
use Rattle.ss_model.specs.Orders.{IsWired, procedure_emits}
use Rattle.ss_model.specs.Partitions.{touches}
use Rattle.ss_model.specs.Replays.{after, database_after}
use Rattle.ss_model_kept.proofs.CallerLemmas.{get_or-map_index, length-map_index}
use Rattle.ss_commitlog.specs.BorderStreams.{border_home, BorderStreamsStay}
use Rattle.ss_commitlog.proofs.Values.{of_value}

-- a step that doesn't emit to a stream leaves it
appended_none : (p : Procedure) (emitted : List Rows) (ss : List (List Rows)) (s : ℕ) → list_any (emits_to s) p.body ≡ false → get_or (append_batches p emitted ss) s [] ≡ get_or ss s []
appended_none p emitted ss s off = by (nat_lt s (length ss)) refl
  where
    by : (b : Bool) → nat_lt s (length ss) ≡ b → get_or (append_batches p emitted ss) s [] ≡ get_or ss s []
    by true t = get_or-map_index _ ss s [] [] (ltb-true _ _ t) ∙ ap (λ (b : Bool). cond b (get_or ss s [] ++ get_or emitted s [] ∷ []) (get_or ss s [])) off
    by false t =
        let past : length ss ≤ s = ltb-false _ _ t in
        let same_length : length (append_batches p emitted ss) ≡ length ss = length-map_index _ ss in
        get_or_past (append_batches p emitted ss) s [] (omega arith) ∙ sym (get_or_past ss s [] past)

module _ (catalog : Catalog) (wired : IsWired catalog) (n : ℕ) (db : Database) (s : ℕ) (border : is_border_stream catalog s ≡ true) where
  called : (client q : ℕ) (args : Row) (o : Option Procedure) (a : Applied) → apply_call catalog db client q args o ≡ Some a → stream_batches a.db s ≡ stream_batches db s
  called client q args None a e = cc
  called client q args (Some p) a e = ap (λ (x : Applied). stream_batches x.db s) (sym (of_value _ _ a e))

  pushed : (t seq : ℕ) (source : List ℕ) (rows : Rows) (next : ℕ) (b c : Bool) → s ≢ t
      → stream_batches (cond {A = Applied} b (record { db = accept_batch db t source seq rows; outcome = Done []; emitted = [] }) (cond {A = Applied} c (record { db = db; outcome = Duplicate next; emitted = [] }) (record { db = db; outcome = Gap next; emitted = [] }))).db s
      ≡ stream_batches db s
  pushed t seq source rows next true c other = get_or-set_other db.streams t s _ [] other
  pushed t seq source rows next false true other = refl
  pushed t seq source rows next false false other = refl

  stepped : (q r : ℕ) (o : Option Procedure) (a : Applied) → slice_get catalog.procedures q ≡ o → apply_step catalog db q r o ≡ Some a → stream_batches a.db s ≡ stream_batches db s
  stepped q r None a is e = cc
  stepped q r (Some p) a is e =
      let free : procedure_emits catalog q s ≡ false = is_false (procedure_emits catalog q s) (wired.border_free q s border) in
      let off : list_any (emits_to s) p.body ≡ false = sym (ap (λ (o : Option Procedure). Rattle.ss_model.specs.Orders.procedure_has (λ d. list_any (emits_to s) d.body) o) is) ∙ free in
      ap (λ (x : Applied). stream_batches x.db s) (sym (of_value _ _ a e)) ∙ appended_none p _ db.streams s off

  entry_stays : (e : Entry) (a : Applied) → apply catalog db e ≡ Some a → touches catalog n e (border_home catalog n s) ≡ false → stream_batches a.db s ≡ stream_batches db s
  unfolding apply
  entry_stays (Call client index q args) a is off = called client q args (slice_get catalog.procedures q) a is
  entry_stays (Push client index t source seq rows) a is off =
      let other : s ≢ t = λ e. (let hit : true ≡ false = sym (eqb_self (border_home catalog n s)) ∙ ap (λ x. touches catalog n (Push client index x source seq rows) (border_home catalog n s)) e ∙ off in cc) in
      ap (λ (x : Applied). stream_batches x.db s) (sym (of_value _ _ a is)) ∙ pushed t seq source rows (next_number db t source) _ _ other
  entry_stays (Install client index q text) a is off = ap (λ (x : Applied). stream_batches x.db s) (sym (of_value _ _ a is))
  entry_stays (StepEntry q r) a is off = stepped q r (slice_get catalog.procedures q) a refl is

  pub behind_entry : (e : Entry) → touches catalog n e (border_home catalog n s) ≡ false → stream_batches (database_after catalog db e) s ≡ stream_batches db s
  behind_entry e off = by (apply catalog db e) refl
    where
      by : (o : Option Applied) → apply catalog db e ≡ o → stream_batches (unwrap_or (option_map (λ (a : Applied). a.db) o) db) s ≡ stream_batches db s
      by None is = refl
      by (Some a) is = entry_stays e a is off

pub border_streams_stay : BorderStreamsStay
border_streams_stay catalog accepted n db list s border apart = along list db apart
  where
    along : (ls : List Listed) (d : Database) → Untouched catalog n ls (border_home catalog n s) → stream_batches (after catalog d ls) s ≡ stream_batches d s
    along [] d h = refl
    along (l ∷ ls) d h = along ls (database_after catalog d l.entry) h.1 ∙ behind_entry catalog accepted.structure.streams.wired n d s border l.entry h.0
