-- A procedure that is ready by its counts is ready.
use Rattle.std.proofs.Common.{◌≡◌, ◌==◌, ◌&&◌, ◌∙◌, ℕ, nat_lt, Bool, true, false, not, List, [], ◌∷◌, length, get_or, slice_get, Some, arith, ap, sym, refl}
use Rattle.std.proofs.Math.ListN.{get_or-map}
use Rattle.std.proofs.lemmas.Bool.Decides.{Decides-eqb}
use Rattle.std.specs.List.{list_all}
use Rattle.ss_value.specs.Rows.{Rows}
use Rattle.ss_model.specs.declared.catalog.ProcedureKind.{ProcedureKind}
use Rattle.ss_model.specs.declared.catalog.ProcedureKind.TheVariants.{Call as CallKind, Border, Interior}
use Rattle.ss_model.specs.declared.catalog.Procedure.{Procedure}
use Rattle.ss_model.specs.declared.catalog.Catalog.{Catalog}
use Rattle.ss_model.specs.Accepted.{Accepted}
use Rattle.ss_model.specs.Database.{Database, batch_count, stream_batches, is_streaming, is_call}
use Rattle.ss_model.specs.Settling.{is_ready_now}
use Rattle.ss_stream.specs.Pending.{Pending, emitted_count}
use Rattle.ss_stream.specs.Streams.{no_stream}
use Rattle.ss_sched.specs.Progress.{HasProgress, AreStreams, all_have, emitted_to}
use Rattle.ss_sched.proofs.Inputs.{inputs_below}

-- the inputs of a procedure are streams
pub inputs_are_streams : (catalog : Catalog) (streams : List Pending) (q : ℕ) (d : Procedure) → Accepted catalog → length streams ≡ length catalog.streams → slice_get catalog.procedures q ≡ Some d → AreStreams streams d.inputs
inputs_are_streams catalog streams q d accepted long here = inputs_below catalog accepted (length streams) q d (omega arith) here

-- a kind is called or takes batches, and not both
pub call_or_streams : (k : ProcedureKind) (b : Bool) → is_call k ≡ b → is_streaming k ≡ not b
call_or_streams CallKind b e = ap not e
call_or_streams Border b e = ap not e
call_or_streams Interior b e = ap not e

same_lengths : (db : Database) (counts : List ℕ) (streams : List Pending) → HasProgress db counts streams → (s : ℕ) → length (stream_batches db s) ≡ emitted_to streams s
same_lengths db counts streams progress s =
    sym (get_or-map (λ (bs : List Rows). length bs) db.streams s []) ∙ ap (λ (ns : List ℕ). get_or ns s 0) progress.lengths ∙ get_or-map emitted_count streams s no_stream

all_same : (f g : ℕ → Bool) (xs : List ℕ) → ((x : ℕ) → f x ≡ g x) → list_all f xs ≡ list_all g xs
all_same f g [] same = refl
all_same f g (x ∷ xs) same = rw (same x, all_same f g xs same) refl

-- a procedure that takes batches is ready where each of its inputs has the one that is next
pub ready_is : (catalog : Catalog) (db : Database) (counts : List ℕ) (streams : List Pending) (q : ℕ) (d : Procedure) → HasProgress db counts streams → slice_get catalog.procedures q ≡ Some d
    → is_ready_now catalog db q ≡ is_streaming d.kind && all_have streams (get_or counts q 0) d.inputs
ready_is catalog db counts streams q d progress here =
    let count : batch_count db q ≡ get_or counts q 0 = ap (λ (ns : List ℕ). get_or ns q 0) progress.counts_are in
    let self : (get_or counts q 0 == get_or counts q 0) ≡ true = (Decides-eqb (get_or counts q 0) (get_or counts q 0)).1 refl in
    rw (here, count, self, all_same (λ s. nat_lt (get_or counts q 0) (length (stream_batches db s))) (λ s. nat_lt (get_or counts q 0) (emitted_to streams s)) d.inputs (λ s. ap (nat_lt (get_or counts q 0)) (same_lengths db counts streams progress s)))
    (by (is_streaming d.kind) (all_have streams (get_or counts q 0) d.inputs))
  where
    by : (a b : Bool) → (a && true) && b ≡ a && b
    by true b = refl
    by false b = refl
