-- What a ready entry takes from the streams of a database.
use Rattle.std.proofs.Common.{◌≡◌, ◌<◌, ◌∙◌, ◌||◌, ◌==◌, ℕ, nat_lt, Bool, true, false, List, [], ◌∷◌, map, length, get_or, slice_get, unwrap_or, Some, None, arith, ap, sym, refl}
use Rattle.std.proofs.lemmas.Bool.{ltb-true}
use Rattle.std.proofs.lemmas.Bool.Decides.{Decides-eqb}
use Rattle.std.proofs.lemmas.Option.{slice_get-get_or, slice_get_within}
use Rattle.std.specs.declared.option.Option.{Option}
use Rattle.std.specs.Option.{option_map}
use Rattle.std.specs.List.{AllByRecursion, list_any, list_all}
use Rattle.ss_value.specs.Rows.{Rows}
use Rattle.ss_model.specs.declared.catalog.Procedure.{Procedure}
use Rattle.ss_model.specs.declared.catalog.Catalog.{Catalog}
use Rattle.ss_model.specs.declared.entry.Entry.{Entry}
use Rattle.ss_model.specs.declared.entry.Entry.TheVariants.{Call, Push, Step as StepEntry, Install}
use Rattle.ss_model.specs.Accepted.{Accepted}
use Rattle.ss_model.specs.Database.{Database, batch_count, stream_batches, is_ready, is_ready_entry, takes_stream}
use Rattle.ss_model.specs.Orders.{procedure_takes}
use Rattle.ss_lemmas.proofs.Bools.{first_of_two, second_of_two}
use Rattle.ss_stream.specs.Pending.{pending_batch}
use Rattle.ss_stream.specs.Streams.{ReservedStreams, stream_at}
use Rattle.ss_stream.specs.OfDatabase.{AreStreamsOf}
use Rattle.ss_sched.proofs.CallerLemmas.{inputs_below, kept_at, kept_batch, kept_many}
use Rattle.ss_shard.specs.ShardValue.{ShardValue}
use Rattle.ss_shard.specs.Windows.{HoldsDatabase}
use Rattle.ss_proc.specs.Entries.{AreAtHand, IsNext}
use Rattle.ss_proc.specs.Lending.{HasBatch, HasBatches, batch_at, lent_batches}

module _ (catalog : Catalog) (db : Database) where
  module _ (accepted : Accepted catalog) (streams : ReservedStreams) (are : AreStreamsOf catalog db streams.streams) (q r : ℕ) (count : batch_count db q ≡ r) (d : Procedure) (here : slice_get catalog.procedures q ≡ Some d) where
    -- of a stream that the procedure takes, the batch that it takes next
    record Lends (s : ℕ) : Type 0 where
      there : HasBatch streams r s
      is : slice_get (stream_batches db s) r ≡ Some (batch_at streams r s)

    lends : (s : ℕ) → takes_stream s d ≡ true → s < length catalog.streams → r < length (stream_batches db s) → Lends s
    lends s tk within below =
        let takes : procedure_takes catalog q s ≡ true = rw here tk in
        let kept : pending_batch (stream_at streams s) r ≡ Some (get_or (stream_batches db s) r []) = rw (kept_at catalog db streams.streams are s within) (kept_batch catalog db q s r (slice_get_within catalog.procedures q d here) takes (omega arith) ∙ slice_get-get_or (stream_batches db s) r [] below) in
        let many = kept_many catalog db streams.streams are in
        record {
          there = (omega arith, rw kept refl);
          is = slice_get-get_or (stream_batches db s) r [] below ∙ ap Some (sym (ap (λ (o : Option Rows). unwrap_or o []) kept));
        }

    later : (x s : ℕ) (xs : List ℕ) → list_any (λ i. i == s) xs ≡ true → list_any (λ i. i == s) (x ∷ xs) ≡ true
    later x s xs any = by (x == s)
      where
        by : (b : Bool) → (b || list_any (λ i. i == s) xs) ≡ true
        by true = refl
        by false = any

    -- of all inputs
    record LendsAll (xs : List ℕ) : Type 0 where
      there : AllByRecursion (HasBatch streams r) xs
      are_all : map (λ s. slice_get (stream_batches db s) r) xs ≡ map Some (map (batch_at streams r) xs)

    lends_all : (xs : List ℕ) → ((s : ℕ) → list_any (λ i. i == s) xs ≡ true → takes_stream s d ≡ true) → AllByRecursion (λ s. s < length catalog.streams) xs → list_all (λ s. nat_lt r (length (stream_batches db s))) xs ≡ true → LendsAll xs
    lends_all [] takes within all = record { there = tt; are_all = refl }
    lends_all (x ∷ xs) takes within all =
        let first = lends x (takes x (ap (λ b. b || list_any (λ i. i == x) xs) ((Decides-eqb x x).1 refl))) within.0 (ltb-true _ _ (first_of_two _ _ all)) in
        let rest = lends_all xs (λ s any. takes s (later x s xs any)) within.1 (second_of_two (nat_lt r (length (stream_batches db x))) _ all) in
        record { there = (first.there, rest.there); are_all = rw (first.is, rest.are_all) refl }

    lends_inputs : is_ready db q r d ≡ true → LendsAll d.inputs
    lends_inputs ready = lends_all d.inputs (λ s any. any) (inputs_below catalog accepted (length catalog.streams) q d (omega arith) here) (second_of_two _ _ ready)

  -- ---- of an entry

  -- what a ready entry finds: its batches, and its count
  pub record Finds (streams : ReservedStreams) (e : Entry) : Type 0 where
    pub there : HasBatches catalog streams e
    pub at_hand : AreAtHand catalog db e (lent_batches catalog streams e)
    pub next : (shard : ShardValue) → HoldsDatabase catalog shard db → IsNext e shard

  finds_step : (accepted : Accepted catalog) (streams : ReservedStreams) → AreStreamsOf catalog db streams.streams → (q r : ℕ) (o : Option Procedure) → slice_get catalog.procedures q ≡ o → unwrap_or (option_map (is_ready db q r) o) false ≡ true → Finds streams (StepEntry q r)
  finds_step accepted streams are q r None here ready = cc
  finds_step accepted streams are q r (Some d) here ready =
      let count : batch_count db q ≡ r = eqb_is (batch_count db q) r (second_of_two _ _ (first_of_two _ _ ready)) in
      let all = lends_inputs accepted streams are q r count d here ready in
      record { there = rw here all.there; at_hand = rw here all.are_all; next = λ shard holds. ap (λ (ns : List ℕ). get_or ns q 0) holds.counts ∙ count }
    where
      eqb_is : (a b : ℕ) → (a == b) ≡ true → a ≡ b
      eqb_is a b e = (Decides-eqb a b).0 e

  pub finds : Accepted catalog → (streams : ReservedStreams) → AreStreamsOf catalog db streams.streams → (e : Entry) → is_ready_entry catalog db e ≡ true → Finds streams e
  finds accepted streams are (Call client index p args) ready = record { there = tt; at_hand = refl; next = λ shard holds. tt }
  finds accepted streams are (Push client index s source seq rows) ready = record { there = tt; at_hand = refl; next = λ shard holds. tt }
  finds accepted streams are (Install client index p text) ready = record { there = tt; at_hand = refl; next = λ shard holds. tt }
  finds accepted streams are (StepEntry q r) ready = finds_step accepted streams are q r (slice_get catalog.procedures q) refl ready
