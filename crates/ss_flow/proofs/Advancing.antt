-- The streams after an entry are those of the database after it.
use Rattle.std.proofs.Common.{◌≡◌, ◌<◌, ◌+◌, ◌^◌, ◌∙◌, ℕ, List, [], ◌∷◌, map, length, get_or, arith, ap, sym, subst}
use Rattle.std.proofs.lemmas.List.FromFn.{get_or-map-range_with_len, length-map-range_with_len, fill_by_all}
use Rattle.std.specs.List.{AllByRecursion}
use Rattle.std.specs.List.Sorted.{IsStrictlyIncreasing}
use Rattle.ss_model.specs.declared.catalog.Catalog.{Catalog}
use Rattle.ss_model.specs.declared.entry.Emitted.{Emitted}
use Rattle.ss_model.specs.declared.entry.Entry.{Entry}
use Rattle.ss_model.specs.Accepted.{Accepted}
use Rattle.ss_model.specs.Batches.{batches_of}
use Rattle.ss_model.specs.Database.{Database, Applied, stream_batches}
use Rattle.ss_model_laws.proofs.CallerLemmas.{batches_join}
use Rattle.ss_stream.specs.Pending.{Pending, emitted_count}
use Rattle.ss_stream.specs.Streams.{ReservedStreams, no_stream, spare_at, stream_at}
use Rattle.ss_stream.specs.OfDatabase.{AreStreamsOf, kept_stream}
use Rattle.ss_stream.proofs.CallerLemmas.{count-from}
use Rattle.ss_flow.specs.Advances.{Advances, HasRoom, LeavesRoom}
use Rattle.ss_flow.specs.Follows.{AreOfStreams, MayPass, passed_at, with_batches}
use Rattle.ss_flow.proofs.Following.{batches_have_streams, cursors_after, passed_kept, stream_follows}

pub more_room : (old new : ReservedStreams) → LeavesRoom old new → (batches : List Emitted) → HasRoom old batches → HasRoom new batches
more_room old new keeps [] room = tt
more_room old new keeps (b ∷ bs) room = let h : 0 < spare_at old b.stream = room.0 in let k = keeps b.stream in (omega arith, more_room old new keeps bs room.1)

module _ (catalog : Catalog) (accepted : Accepted catalog) (db : Database) (e : Entry) (a : Applied) (batches : List Emitted) (old : ReservedStreams) (adv : Advances catalog db e a batches old.streams) where
  pub many_streams : length old.streams ≡ length catalog.streams
  many_streams = ap (λ (ss : List Pending). length ss) adv.streams_are ∙ length-map-range_with_len (kept_stream catalog db) 0 (length catalog.streams)

  kept_at : (s : ℕ) → s < length catalog.streams → stream_at old s ≡ kept_stream catalog db s
  kept_at s lt = ap (λ (ss : List Pending). get_or ss s no_stream) adv.streams_are ∙ get_or-map-range_with_len (kept_stream catalog db) 0 (length catalog.streams) s s no_stream lt (omega arith)

  pub may_pass_now : (s : ℕ) → s < length catalog.streams → MayPass catalog e s (stream_at old s)
  may_pass_now s lt = subst (MayPass catalog e s) (sym (kept_at s lt)) (stream_follows catalog db adv.shape e a adv.applies s lt).may_pass

  pub have_streams : AreOfStreams (length catalog.streams) batches
  have_streams = subst (AreOfStreams (length catalog.streams)) (sym adv.batches_are) (batches_have_streams catalog accepted db e a adv.applies)

  pub rise : IsStrictlyIncreasing (map (λ (b : Emitted). b.stream) batches)
  rise = subst (λ (bs : List Emitted). IsStrictlyIncreasing (map (λ (b : Emitted). b.stream) bs)) (sym adv.batches_are) (batches_join catalog db adv.shape e a adv.applies).rising

  -- once its batches are passed
  module _ (passed : ReservedStreams) (are : (s : ℕ) → stream_at passed s ≡ passed_at catalog e s (stream_at old s)) where
    passed_count : (s : ℕ) → s < length catalog.streams → emitted_count (stream_at passed s) < 2 ^ 62
    passed_count s lt =
        let few = adv.few s in
        let count = count-from 0 (stream_batches db s) (cursors_after catalog db adv.shape e s) (omega arith) in
        let same : emitted_count (stream_at passed s) ≡ 0 + length (stream_batches db s) = ap emitted_count (are s ∙ ap (passed_at catalog e s) (kept_at s lt) ∙ passed_kept catalog db adv.shape e s) ∙ count in
        omega arith

    few_of : (bs : List Emitted) → AreOfStreams (length catalog.streams) bs → AllByRecursion (λ (b : Emitted). emitted_count (stream_at passed b.stream) < 2 ^ 62) bs
    few_of [] there = tt
    few_of (b ∷ bs) there = (passed_count b.stream there.0, few_of bs there.1)

    pub few_passed : AllByRecursion (λ (b : Emitted). emitted_count (stream_at passed b.stream) < 2 ^ 62) batches
    few_passed = few_of batches have_streams

    -- and its batches are put
    pub streams_after : (new : ReservedStreams) → length new.streams ≡ length catalog.streams → ((s : ℕ) → stream_at new s ≡ with_batches (stream_at passed s) (batches_of s batches)) → AreStreamsOf catalog a.db new.streams
    streams_after new many joined =
        fill_by_all (kept_stream catalog a.db) new.streams (length catalog.streams) no_stream many (λ s lt.
        joined s
        ∙ ap (λ (p : Pending). with_batches p (batches_of s batches)) (are s ∙ ap (passed_at catalog e s) (kept_at s lt))
        ∙ ap (λ (bs : List Emitted). with_batches (passed_at catalog e s (kept_stream catalog db s)) (batches_of s bs)) adv.batches_are
        ∙ sym (stream_follows catalog db adv.shape e a adv.applies s lt).follows)
