-- What reads no body stays the same with other bodies.
use Rattle.std.proofs.Common.{◌≡◌, ℕ, zero, suc, Bool, true, false, cond, ◌&&◌, ◌==◌, nat_le, nat_lt, max, min, List, [], ◌∷◌, map, drop, get_or, length, replicate, slice_get, refl, sym, ap, ◌∙◌, subst, Some, None, unwrap_or}
use Rattle.std.specs.Prelude.{◌^◌}
use Rattle.std.specs.Option.{option_map}
use Rattle.std.specs.declared.option.Option.{Option}
use Rattle.std.specs.List.{filter, find, fold, list_all, range_with_len}
use Rattle.std.specs.FinMap as finmap
use Rattle.ss_value.specs.Fit.{fits_schema}
use Rattle.ss_model.specs.declared.catalog.Catalog.{Catalog}
use Rattle.ss_model.specs.declared.catalog.Procedure.{Procedure}
use Rattle.ss_model.specs.declared.catalog.Step.{Step}
use Rattle.ss_model.specs.declared.entry.Entry.{Entry}
use Rattle.ss_model.specs.declared.entry.Entry.TheVariants.{Call, Push, Step as StepEntry, Install}
use Rattle.ss_model.specs.declared.entry.Emitted.{Emitted}
use Rattle.ss_model.specs.Results.{map_indexed}
use Rattle.ss_model.specs.Contents.{window_owner, window_def, kept_units}
use Rattle.ss_model.specs.Database.{Database, Applied, empty_database, fits_entry, has_call, has_step, takes_bodies, stream_schema, batch_count, stream_batches, is_border, takes_stream, is_ready, is_call, with_body, own_text, has_body}
use Rattle.ss_model.specs.Orders.{MatchesCounts}
use Rattle.ss_model.specs.Partitions.{home_partition, home_of, home_of_owner, window_partition, row_partition, border_procedure, procedure_touches, touches, part, seen_bodies}
use Rattle.ss_model.specs.Settling.{emitting_procedure, kept, least_count, rank_from, rank, is_ready_now, lower_rank, next_settled}
use Rattle.ss_model.specs.Batches.{output_batches, emitted_batches}
use Rattle.ss_model.specs.WholeDatabase.{batch_fits, WholeDatabase}
use Rattle.ss_model.specs.AcceptedBodies.{with_bodies, AcceptedBodies}
use Rattle.ss_model.specs.BodiesAside.{SameBodiesAside}
use Rattle.ss_model_laws.proofs.ChangedBodies.{changed, length_same, at_number, was_there, has_same, takes_same, border_same, inner_same, emits_same, emitter_same, stream_same}

-- the home of a procedure that is found
found_home : (n : ℕ) (s : ℕ) (bodies : ℕ → List Step) (ps : List Procedure) → home_partition n (find (λ p. cond (is_border p.kind) (takes_stream s p) false) (changed bodies ps)) ≡ home_partition n (find (λ p. cond (is_border p.kind) (takes_stream s p) false) ps)
found_home n s bodies [] = refl
found_home n s bodies (p ∷ ps) = by (cond (is_border p.kind) (takes_stream s p) false) (found_home n s (λ q. bodies (suc q)) ps)
  where
    by : (b : Bool) → home_partition n (find (λ p. cond (is_border p.kind) (takes_stream s p) false) (changed (λ q. bodies (suc q)) ps)) ≡ home_partition n (find (λ p. cond (is_border p.kind) (takes_stream s p) false) ps) → home_partition n (cond b (Some (with_body (bodies 0) p)) (find (λ p. cond (is_border p.kind) (takes_stream s p) false) (changed (λ q. bodies (suc q)) ps))) ≡ home_partition n (cond b (Some p) (find (λ p. cond (is_border p.kind) (takes_stream s p) false) ps))
    by true rest = refl
    by false rest = rest

own_same : (own : ℕ → List ℕ) (bodies : ℕ → List Step) (ps : List Procedure) → map_indexed (λ q p. own q) (changed bodies ps) ≡ map_indexed (λ q p. own q) ps
own_same own bodies [] = refl
own_same own bodies (p ∷ ps) = λ i. own 0 ∷ own_same (λ q. own (suc q)) (λ q. bodies (suc q)) ps i

module _ (catalog : Catalog) (bodies : ℕ → List Step) where
  abbrev other : Catalog
  other = with_bodies catalog bodies

  -- a value that reads no body, of the procedure of a number
  named_same : {B : Type 0} (f : Option Procedure → B) (q : ℕ) → ((p : Procedure) → f (Some (with_body (bodies q) p)) ≡ f (Some p)) → f (slice_get other.procedures q) ≡ f (slice_get catalog.procedures q)
  named_same f q same = ap f (at_number bodies catalog.procedures q) ∙ by (slice_get catalog.procedures q)
    where
      by : (o : Option Procedure) → f (option_map (with_body (bodies q)) o) ≡ f o
      by None = refl
      by (Some p) = same p

  home_same : (n q : ℕ) → home_of other n q ≡ home_of catalog n q
  home_same n q = named_same (home_partition n) q (λ p. refl)

  stream_home_same : (n s : ℕ) → home_partition n (border_procedure other s) ≡ home_partition n (border_procedure catalog s)
  stream_home_same n s = found_home n s bodies catalog.procedures

  window_same : (n w : ℕ) → window_partition other n w ≡ window_partition catalog n w
  window_same n w = by (window_owner catalog w)
    where
      by : (o : Option ℕ) → home_of_owner other n o ≡ home_of_owner catalog n o
      by None = refl
      by (Some q) = home_same n q

  touched_same : (n : ℕ) (e : Entry) (p : ℕ) → touches other n e p ≡ touches catalog n e p
  touched_same n (Call client index q args) p = named_same (λ o. procedure_touches n o args p) q (λ d. refl)
  touched_same n (Push client index s source seq rows) p = ap (λ h. p == h) (stream_home_same n s)
  touched_same n (StepEntry q r) p = named_same (λ o. procedure_touches n o [] p) q (λ d. refl)
  touched_same n (Install client index q text) p = refl

  part_same : (n p : ℕ) (db : Database) → part other n p db ≡ part catalog n p db
  unfolding part
  part_same n p db = λ i. record {
    tables = map_indexed (λ t m. finmap.retain_keys m (λ key. row_partition catalog n t key == p)) db.contents.tables;
    windows = map_indexed (λ w us. cond (window_same n w i == p) us []) db.contents.windows;
    counts = map_indexed (λ q c. cond (home_same n q i == p) c 0) db.counts;
    next_numbers = map_indexed (λ s m. cond (stream_home_same n s i == p) m finmap.empty) db.next_numbers;
    bodies = seen_bodies catalog (nat_lt p n) db.bodies;
  }

  least_same : (db : Database) (s : ℕ) → least_count other db s ≡ least_count catalog db s
  least_same db s = λ i. fold (λ least q. cond (takes_same catalog bodies q s i) (min least (batch_count db q)) least) (length (stream_batches db s)) (range_with_len 0 (length_same bodies catalog.procedures i))

  kept_same : (db : Database) → kept other db ≡ kept catalog db
  unfolding kept
  kept_same db = λ i. record {
    tables = db.contents.tables;
    windows = map_indexed (λ w us. (length us, kept_units (window_def catalog w) us)) db.contents.windows;
    streams = map_indexed (λ s bs. (length bs, (least_same db s i, drop (least_same db s i) bs))) db.streams;
    counts = db.counts;
    next_numbers = db.next_numbers;
    bodies = db.bodies;
  }

  empty_same : empty_database other ≡ empty_database catalog
  empty_same = λ i. record {
    contents = record { tables = replicate (length catalog.tables) finmap.empty; windows = replicate (length catalog.windows) [] };
    streams = replicate (length catalog.streams) [];
    counts = replicate (length_same bodies catalog.procedures i) 0;
    next_numbers = replicate (length catalog.streams) finmap.empty;
    bodies = own_same (own_text catalog) bodies catalog.procedures i;
  }

  fits_same : (e : Entry) → fits_entry other e ≡ fits_entry catalog e
  fits_same (Call client index q args) = named_same (has_call client args) q (λ p. refl)
  fits_same (Push client index s source seq rows) = λ i. nat_lt client 8 && border_same catalog bodies s i && nat_le (length rows) 1024 && nat_lt seq (2 ^ 63) && list_all (fits_schema (stream_schema catalog s)) rows
  fits_same (StepEntry q r) = named_same has_step q (λ p. refl)
  fits_same (Install client index q text) = λ i. nat_lt client 8 && named_same takes_bodies q (λ p. refl) i && nat_le (length text) 1048576 && has_body catalog q text

  ready_same : (db : Database) (q : ℕ) → is_ready_now other db q ≡ is_ready_now catalog db q
  ready_same db q = has_same catalog bodies (is_ready db q (batch_count db q)) (λ body p. refl) q

  module _ (accepted : AcceptedBodies catalog bodies) where
    inputs_same : (q : ℕ) → unwrap_or (option_map (λ p. p.inputs) (slice_get other.procedures q)) [] ≡ unwrap_or (option_map (λ p. p.inputs) (slice_get catalog.procedures q)) []
    inputs_same q = named_same (λ o. unwrap_or (option_map (λ p. p.inputs) o) []) q (λ p. refl)

    rank_from_same : (depth q : ℕ) → rank_from depth other q ≡ rank_from depth catalog q
    rank_from_same zero q = refl
    rank_from_same (suc depth) q =
        let up : (s : ℕ) → rank_from depth other (emitting_procedure other s) ≡ rank_from depth catalog (emitting_procedure catalog s) =
        λ s. rank_from_same depth (emitting_procedure other s) ∙ ap (rank_from depth catalog) (emitter_same catalog bodies accepted s) in
        λ i. cond (has_same catalog bodies (λ p. is_border p.kind) (λ body p. refl) q i) 0 (suc (fold (λ most s. max most (up s i)) 0 (inputs_same q i)))

    rank_same : (q : ℕ) → rank other q ≡ rank catalog q
    rank_same q = ap (λ n. rank_from n other q) (length_same bodies catalog.procedures) ∙ rank_from_same (length catalog.procedures) q

    lower_same : (o : Option ℕ) (q : ℕ) → lower_rank other o q ≡ lower_rank catalog o q
    lower_same None q = refl
    lower_same (Some p) q = λ i. cond (nat_lt (rank_same q i) (rank_same p i)) (Some q) (Some p)

    next_same : (db : Database) → next_settled other db ≡ next_settled catalog db
    next_same db = λ i. fold (λ o q. lower_same o q i) None (filter (λ q. ready_same db q i) (range_with_len 0 (length_same bodies catalog.procedures i)))

    batches_same : (e : Entry) (a : Applied) → emitted_batches other e a ≡ emitted_batches catalog e a
    batches_same (Call client index q args) a = refl
    batches_same (Push client index s source seq rows) a = refl
    batches_same (Install client index q text) a = refl
    batches_same (StepEntry q r) a = ap (output_batches other a.emitted) (at_number bodies catalog.procedures q) ∙ by (slice_get catalog.procedures q) refl
      where
        by : (o : Option Procedure) → slice_get catalog.procedures q ≡ o → output_batches other a.emitted (option_map (with_body (bodies q)) o) ≡ output_batches catalog a.emitted o
        by None e = refl
        by (Some p) e = λ i. map {B = Emitted} (λ s. record { stream = s; rows = get_or a.emitted s [] }) (filter (λ s. (accepted q p e).emits s i) (range_with_len 0 (length catalog.streams)))

    matches_there : (db : Database) → MatchesCounts catalog db → MatchesCounts other db
    matches_there db k = record {
      shape = record { counts = k.shape.counts ∙ sym (length_same bodies catalog.procedures); streams = k.shape.streams };
      streams = λ s p e. k.streams s p (sym (emits_same catalog bodies accepted p s) ∙ e);
    }

    matches_back : (db : Database) → MatchesCounts other db → MatchesCounts catalog db
    matches_back db k = record {
      shape = record { counts = k.shape.counts ∙ length_same bodies catalog.procedures; streams = k.shape.streams };
      streams = λ s p e. k.streams s p (emits_same catalog bodies accepted p s ∙ e);
    }

    whole_there : (db : Database) → WholeDatabase catalog db → WholeDatabase other db
    whole_there db k = record {
      contents = record { table_count = k.contents.table_count; window_count = k.contents.window_count; tables = k.contents.tables; windows = k.contents.windows };
      in_step = record { matched = matches_there db k.in_step.matched; within = λ s q t. k.in_step.within s q (sym (takes_same catalog bodies q s) ∙ t) };
      next_count = k.next_count;
      batches = λ s. subst (λ n. list_all (batch_fits (stream_schema catalog s)) (drop n (stream_batches db s)) ≡ true) (sym (least_same db s)) (k.batches s);
      calls = λ q p is. let c = was_there catalog bodies q p is in subst (λ (z : Procedure). is_call z.kind ≡ true → batch_count db q ≡ 0) c.is (k.calls q c.was c.stood);
      next_numbers = λ s source n is. let m = k.next_numbers s source n is in record { border = border_same catalog bodies s ∙ m.border; at_least = m.at_least; at_most = m.at_most };
      inner = λ s e. k.inner s (sym (inner_same catalog bodies s) ∙ e);
      body_count = k.body_count ∙ sym (length_same bodies catalog.procedures);
      bodies = λ q p is. let c = was_there catalog bodies q p is in k.bodies q c.was c.stood;
    }

    whole_back : (db : Database) → WholeDatabase other db → WholeDatabase catalog db
    whole_back db k = record {
      contents = record { table_count = k.contents.table_count; window_count = k.contents.window_count; tables = k.contents.tables; windows = k.contents.windows };
      in_step = record { matched = matches_back db k.in_step.matched; within = λ s q t. k.in_step.within s q (takes_same catalog bodies q s ∙ t) };
      next_count = k.next_count;
      batches = λ s. subst (λ n. list_all (batch_fits (stream_schema catalog s)) (drop n (stream_batches db s)) ≡ true) (least_same db s) (k.batches s);
      calls = λ q p is. k.calls q (with_body (bodies q) p) (at_number bodies catalog.procedures q ∙ ap (option_map (with_body (bodies q))) is);
      next_numbers = λ s source n is. let m = k.next_numbers s source n is in record { border = sym (border_same catalog bodies s) ∙ m.border; at_least = m.at_least; at_most = m.at_most };
      inner = λ s e. k.inner s (inner_same catalog bodies s ∙ e);
      body_count = k.body_count ∙ length_same bodies catalog.procedures;
      bodies = λ q p is. k.bodies q (with_body (bodies q) p) (at_number bodies catalog.procedures q ∙ ap (option_map (with_body (bodies q))) is);
    }

    pub bodies_aside : SameBodiesAside catalog bodies
    bodies_aside = record {
      empty = empty_same;
      fits = fits_same;
      touched = touched_same;
      parts = part_same;
      keeps = kept_same;
      whole = λ db. (whole_back db, whole_there db);
      border = stream_same catalog bodies accepted;
      ready = ready_same;
      next = next_same;
      batches = batches_same;
    }
