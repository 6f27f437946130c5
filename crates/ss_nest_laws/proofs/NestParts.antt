-- What else the structure of an accepted catalogue asks for, of one with nests: touch sets, keys, owners, ranks, and windows of batches.
use Rattle.std.proofs.Common.{◌≡◌, ◌<◌, ℕ, true, List, map, length, slice_get, sym, ap, ◌∙◌, subst, Some, arith}
use Rattle.std.proofs.lemmas.List.{length-map}
use Rattle.ss_model.specs.declared.catalog.Catalog.{Catalog}
use Rattle.ss_model.specs.declared.catalog.Nest.{Nest}
use Rattle.ss_model.specs.declared.catalog.Procedure.{Procedure}
use Rattle.ss_model.specs.declared.catalog.WindowDef.{WindowDef}
use Rattle.ss_model.specs.Contents.{window_owner}
use Rattle.ss_model.specs.Bodies.{is_batches_unit}
use Rattle.ss_model.specs.Database.{is_streaming}
use Rattle.ss_model.specs.Feeds.{Reaches, at_once, through, CountsBatches, BatchesGoForward}
use Rattle.ss_model.specs.Orders.{procedure_has}
use Rattle.ss_model.specs.Accepted.{Accepted, IsArg, IsSomewhere, HasRanks}
use Rattle.ss_model.specs.Nests.{AreNests, nested_window, nested_catalog, nested_number}
use Rattle.ss_model_laws.proofs.CallerLemmas.{named}
use Rattle.ss_nest_laws.proofs.Lists.{head_among}
use Rattle.ss_nest_laws.proofs.NestMembers.{streams_of}
use Rattle.ss_nest_laws.proofs.NestNumbers.{windows_at}
use Rattle.ss_nest_laws.proofs.NestOwns.{owner_was}
use Rattle.ss_nest_laws.proofs.Standing.{Standing, by_itself, as_nest, standing, Gone, stays, joins, gone}

module _ (catalog : Catalog) (accepted : Accepted catalog) (nests : List Nest) (text : List ℕ) (are : AreNests catalog nests) where
  abbrev nested : Catalog
  nested = nested_catalog catalog nests text

  pub no_arg : (n : ℕ) (p : Procedure) → slice_get nested.procedures n ≡ Some p → is_streaming p.kind ≡ true → IsArg p.touch → ⊥
  no_arg n p is streaming = by (standing catalog nests text are n p is)
    where
      by : Standing catalog nests text are n p → IsArg p.touch → ⊥
      by (by_itself q stood out number) h = accepted.structure.no_arg q p stood streaming h
      by (as_nest k made_is number) h =
          accepted.structure.no_arg k.head k.first k.first_is (ap (λ (z : Procedure). is_streaming z.kind) made_is ∙ streaming) (subst (λ (z : Procedure). IsArg z.touch) (sym made_is) h)

  pub somewhere : (n : ℕ) (p : Procedure) → slice_get nested.procedures n ≡ Some p → IsSomewhere p.touch
  somewhere n p is = by (standing catalog nests text are n p is)
    where
      by : Standing catalog nests text are n p → IsSomewhere p.touch
      by (by_itself q stood out number) = accepted.structure.somewhere q p stood
      by (as_nest k made_is number) = subst (λ (z : Procedure). IsSomewhere z.touch) made_is (accepted.structure.somewhere k.head k.first k.first_is)

  pub owned : (w n : ℕ) → window_owner nested w ≡ Some n → procedure_has (λ p. is_streaming p.kind) (slice_get nested.procedures n) ≡ true
  owned w n o =
      let (q, was, number) = owner_was catalog accepted nests text are w n o in
      let (p, is, streams) = named (λ p. is_streaming p.kind) (slice_get catalog.procedures q) (accepted.structure.owned w q was) in
      subst (λ z. procedure_has (λ p. is_streaming p.kind) (slice_get nested.procedures z) ≡ true) number (by q p streams (gone catalog nests text are q p is))
    where
      by : (q : ℕ) (p : Procedure) → is_streaming p.kind ≡ true → Gone catalog nests text are q p → procedure_has (λ p. is_streaming p.kind) (slice_get nested.procedures (nested_number nests q)) ≡ true
      by q p streams (stays out at) = ap (procedure_has (λ p. is_streaming p.kind)) at ∙ streams
      by q p streams (joins k a same at) =
          ap (procedure_has (λ p. is_streaming p.kind)) at
          ∙ streams_of catalog accepted (k.nest).members (are.each k.place k.nest k.stands) are.plain k.head k.first k.at_head k.first_is k.head k.first k.first_is (head_among (k.nest).members k.head k.at_head)

  pub ranks : HasRanks nested
  ranks = record {
    rank = accepted.structure.ranks.rank;
    ranked = accepted.structure.ranks.ranked;
    rank_within = λ n l.
        let same : length (map (nested_window nests) catalog.windows) ≡ length catalog.windows = length-map catalog.windows (nested_window nests) in
        let within : accepted.structure.ranks.rank n < length catalog.windows = accepted.structure.ranks.rank_within n (omega arith) in
        omega arith;
  }

  reaches_back : (n m : ℕ) → Reaches nested n m → Reaches catalog n m
  reaches_back n m (at_once e) = at_once e
  reaches_back n m (through {m = k} e r) = through {m = k} e (reaches_back k m r)

  counts_back : (n : ℕ) → CountsBatches nested n → CountsBatches catalog n
  counts_back n h = sym (ap (λ (d : WindowDef). is_batches_unit d.unit) (windows_at nests catalog.windows n)) ∙ h

  pub forward : BatchesGoForward nested
  forward n m b c r = accepted.structure.batches_forward n m (counts_back n b) (counts_back m c) (reaches_back n m r)
