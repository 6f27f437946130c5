-- An entry leaves the parts that it does not touch, and depends on those that it touches and on its input batches.
use Rattle.std.proofs.Common.{◌≡◌, ◌≤◌, ◌<◌, ◌+◌, ℕ, Bool, true, false, cond, ◌==◌, ◌&&◌, nat_lt, ◌⊎◌, inl, inr, ◌≢◌, List, [], ◌∷◌, map, refl, sym, ap, ◌∙◌, subst, Some, None, slice_get, get_or, set, length, length-set, is_some, unwrap_or, arith}
use Rattle.std.proofs.lemmas.Bool.{lt-ltb, ltb-true}
use Rattle.std.proofs.lemmas.Bool.Decides.{eqb_tells, Decides-eqb}
use Rattle.std.proofs.lemmas.Option.{unwrap_or-slice_get, slice_get_cases}
use Rattle.std.specs.declared.option.Option.{Option}
use Rattle.std.specs.List.{AllByRecursion, list_all}
use Rattle.std.specs.FinMap as finmap
use Rattle.ss_value.specs.Rows.{Row, Rows}
use Rattle.ss_model.specs.declared.catalog.Catalog.{Catalog}
use Rattle.ss_model.specs.declared.catalog.Procedure.{Procedure}
use Rattle.ss_model.specs.declared.entry.Entry.{Entry}
use Rattle.ss_model.specs.declared.entry.Entry.TheVariants.{Call, Push, Step as StepEntry, Install}
use Rattle.ss_model.specs.declared.entry.Outcome.TheVariants.{Done, Duplicate, Gap}
use Rattle.ss_model.specs.Database.{Database, Applied, only_when, apply, apply_call, apply_step, accept_batch, numbered_push, next_number, batch_count, stream_batches, is_ready, is_streaming, input_batches, stepped_on, stepped, call_fits, present, run_procedure}
use Rattle.ss_model.specs.Partitions.{part, home_of, home_partition, border_procedure, in_touch_set, touches, procedure_touches, seen_bodies}
use Rattle.ss_model.specs.Accepted.{Accepted}
use Rattle.ss_model.specs.parts.Locality.{SameInputs, SameEffect, SameApplied, LeavesParts, EntryIsLocal}
use Rattle.ss_model_laws.proofs.PartLocality.{leaves_parts, depends_on_parts, same_part}
use Rattle.ss_model_laws.proofs.BlankItems.{set_apart, set_both, read_both, count_from, next_from, count_apart, count_both}
use Rattle.ss_model_laws.proofs.Homes.{uses_touched, present_touched, touched_partition}
use Rattle.ss_model_laws.proofs.SeenBodies.{seen_all, seen_none}
use Rattle.ss_model_laws.proofs.TouchedRun.{touched_run}
use Rattle.ss_lemmas.proofs.Bools.{first_of_two}

eqb_flip : (a b : ℕ) → (a == b) ≡ false → (b == a) ≡ false
eqb_flip a b e = by (eqb_tells b a)
  where
    by : ((b == a ≡ true) × (b ≡ a)) ⊎ ((b == a ≡ false) × (b ≢ a)) → (b == a) ≡ false
    by (inl h) = let g : true ≡ false = sym ((Decides-eqb a b).1 (sym h.1)) ∙ e in cc
    by (inr h) = h.0

pub not_below : (r m : ℕ) → m ≤ r → nat_lt r m ≡ false
not_below r m h = by (nat_lt r m) refl
  where
    by : (b : Bool) → nat_lt r m ≡ b → nat_lt r m ≡ false
    by true e = let l : r < m = ltb-true r m e in absurd (omega arith)
    by false e = e

-- a list that has the same item there is as long, for that item
below_length : {A : Type 0} (xs : List A) (r : ℕ) → nat_lt r (length xs) ≡ is_some (slice_get xs r)
below_length {A = A} xs r = by (slice_get_cases xs r).1
  where
    by : ((x : A) × (r < length xs) × (slice_get xs r ≡ Some x) × (get_or xs r x ≡ x)) ⊎ ((length xs ≤ r) × (slice_get xs r ≡ None)) → nat_lt r (length xs) ≡ is_some (slice_get xs r)
    by (inl (x, h, e, k)) = lt-ltb r (length xs) h ∙ sym (ap is_some e)
    by (inr (h, e)) = not_below r (length xs) h ∙ sym (ap is_some e)

same_length : {A : Type 0} (xs ys : List A) (r : ℕ) → slice_get xs r ≡ slice_get ys r → nat_lt r (length xs) ≡ nat_lt r (length ys)
same_length xs ys r e = below_length xs r ∙ ap is_some e ∙ sym (below_length ys r)

same_item : {A : Type 0} (xs ys : List A) (r : ℕ) (d : A) → slice_get xs r ≡ slice_get ys r → get_or xs r d ≡ get_or ys r d
same_item xs ys r d e = sym (unwrap_or-slice_get xs r d) ∙ ap (λ o. unwrap_or o d) e ∙ unwrap_or-slice_get ys r d

-- a part of a partition that runs tells which bodies the procedures have
pub bodies_from : (catalog : Catalog) (n : ℕ) (x y : Database) (p : ℕ) → nat_lt p n ≡ true → part catalog n p x ≡ part catalog n p y → x.bodies ≡ y.bodies
unfolding part
bodies_from catalog n x y p t e =
    sym (seen_all catalog x.bodies) ∙ ap (λ b. seen_bodies catalog b x.bodies) (sym t) ∙ ap (λ d. d.bodies) e ∙ ap (λ b. seen_bodies catalog b y.bodies) t ∙ seen_all catalog y.bodies

module _ (catalog : Catalog) (n : ℕ) (e : Entry) where
  only_leaves : (db : Database) (b : Bool) (a : Applied) → ((p : ℕ) → touches catalog n e p ≡ false → part catalog n p a.db ≡ part catalog n p db) → LeavesParts catalog n e db (only_when b (Some a))
  only_leaves db true a h = h
  only_leaves db false a h = tt

  only_same : (b : Bool) (a c : Applied) → SameEffect catalog n e a c → SameApplied catalog n e (only_when b (Some a)) (only_when b (Some c))
  only_same true a c h = h
  only_same false a c h = tt

module _ (catalog : Catalog) (accepted : Accepted catalog) (n : ℕ) (some : 1 ≤ n) where
  -- ---- calls

  module _ (client index q : ℕ) (args : Row) where
    -- what the call comes to on a database, with the procedure as it is in another
    abbrev called : Database → Row → Database → Procedure → Applied
    called db args other p = let r = run_procedure catalog q (present catalog other q p) args [] db.contents in record { db = record db { contents = r.contents }; outcome = r.outcome; emitted = [] }

    call_leaves : (db : Database) (o : Option Procedure) → slice_get catalog.procedures q ≡ o → LeavesParts catalog n (Call client index q args) db (apply_call catalog db client q args o)
    call_leaves db None is = tt
    call_leaves db (Some p) is =
        only_leaves catalog n (Call client index q args) db _ _ (λ x t.
        leaves_parts catalog n q (present catalog db q p) args [] ((present_touched catalog accepted n some q p is db).uses args []) db x (sym (ap (λ o. procedure_touches n o args x) is) ∙ t))

    call_same : (x y : Database) → ((p : ℕ) → touches catalog n (Call client index q args) p ≡ true → part catalog n p x ≡ part catalog n p y) → (o : Option Procedure) → slice_get catalog.procedures q ≡ o → SameApplied catalog n (Call client index q args) (apply_call catalog x client q args o) (apply_call catalog y client q args o)
    call_same x y h None is = tt
    call_same x y h (Some p) is =
        let (some_part, touched) = touched_partition n p.touch args some (accepted.structure.somewhere q p is) in
        let meets : touches catalog n (Call client index q args) some_part ≡ true = ap (λ o. procedure_touches n o args some_part) is ∙ touched in
        let bodies : x.bodies ≡ y.bodies = bodies_from catalog n x y some_part (lt-ltb some_part n (touched_run catalog n some (Call client index q args) some_part meets)) (h some_part meets) in
        let run = depends_on_parts catalog n q (present catalog x q p) args [] ((present_touched catalog accepted n some q p is x).uses args []) x y some_part touched (λ z t. h z (ap (λ o. procedure_touches n o args z) is ∙ t)) in
        subst (λ bodies. SameApplied catalog n (Call client index q args) (apply_call catalog x client q args (Some p)) (only_when (call_fits client p args) (Some (called y args (record y { bodies = bodies }) p)))) bodies
        (only_same catalog n (Call client index q args) _ _ _ (record { outcome = run.outcome; emitted = refl; parts = λ z t. run.parts z (sym (ap (λ o. procedure_touches n o args z) is) ∙ t) }))

  -- ---- pushes

  module _ (client index s : ℕ) (source : List ℕ) (seq : ℕ) (rows : Rows) where
    accept_apart : (db : Database) (p : ℕ) → (home_partition n (border_procedure catalog s) == p) ≡ false → part catalog n p (accept_batch db s source seq rows) ≡ part catalog n p db
    unfolding part
    accept_apart db p h =
        same_part _ _ refl refl refl (set_apart (λ k. home_partition n (border_procedure catalog k) == p) finmap.empty db.next_numbers s _ h) refl

    accept_both : (x y : Database) (p : ℕ) → part catalog n p x ≡ part catalog n p y → part catalog n p (accept_batch x s source seq rows) ≡ part catalog n p (accept_batch y s source seq rows)
    unfolding part
    accept_both x y p h =
        same_part _ _ (ap (λ d. d.tables) h) (ap (λ d. d.windows) h) (ap (λ d. d.counts) h)
        (set_both (λ k. home_partition n (border_procedure catalog k) == p) finmap.empty x.next_numbers y.next_numbers s _ _ (ap (λ d. d.next_numbers) h)
        (λ m. ap (λ table. finmap.insert table source (seq + 1)) (read_both (λ k. home_partition n (border_procedure catalog k) == p) finmap.empty x.next_numbers y.next_numbers s (ap (λ d. d.next_numbers) h) m))) (ap (λ d. d.bodies) h)

    -- whatever the two tests say
    push_cases : (db : Database) (next p : ℕ) (a b : Bool) → (home_partition n (border_procedure catalog s) == p) ≡ false → part catalog n p (cond {A = Applied} a (record { db = accept_batch db s source seq rows; outcome = Done []; emitted = [] }) (cond b (record { db = db; outcome = Duplicate next; emitted = [] }) (record { db = db; outcome = Gap next; emitted = [] }))).db ≡ part catalog n p db
    push_cases db next p true b h = accept_apart db p h
    push_cases db next p false true h = refl
    push_cases db next p false false h = refl

    push_leaves : (db : Database) → LeavesParts catalog n (Push client index s source seq rows) db (apply catalog db (Push client index s source seq rows))
    unfolding apply
    push_leaves db = only_leaves catalog n (Push client index s source seq rows) db _ _ (λ p t. push_cases db (next_number db s source) p (seq == next_number db s source) (nat_lt seq (next_number db s source)) (eqb_flip p _ t))

    both_cases : (x y : Database) (next : ℕ) → ((p : ℕ) → touches catalog n (Push client index s source seq rows) p ≡ true → part catalog n p x ≡ part catalog n p y) → (a b : Bool) →
        SameEffect catalog n (Push client index s source seq rows) (cond a (record { db = accept_batch x s source seq rows; outcome = Done []; emitted = [] }) (cond b (record { db = x; outcome = Duplicate next; emitted = [] }) (record { db = x; outcome = Gap next; emitted = [] })))
        (cond a (record { db = accept_batch y s source seq rows; outcome = Done []; emitted = [] }) (cond b (record { db = y; outcome = Duplicate next; emitted = [] }) (record { db = y; outcome = Gap next; emitted = [] })))
    both_cases x y next h true b = record { outcome = refl; emitted = refl; parts = λ p t. accept_both x y p (h p t) }
    both_cases x y next h false true = record { outcome = refl; emitted = refl; parts = h }
    both_cases x y next h false false = record { outcome = refl; emitted = refl; parts = h }

    push_same : (x y : Database) → ((p : ℕ) → touches catalog n (Push client index s source seq rows) p ≡ true → part catalog n p x ≡ part catalog n p y) → SameApplied catalog n (Push client index s source seq rows) (apply catalog x (Push client index s source seq rows)) (apply catalog y (Push client index s source seq rows))
    unfolding apply
    push_same x y h =
        let home = home_partition n (border_procedure catalog s) in
        let next : next_number x s source ≡ next_number y s source = next_from catalog n x y s source (h home ((Decides-eqb home home).1 refl)) in
        only_same catalog n (Push client index s source seq rows) _ _ _
        (subst (λ m. SameEffect catalog n (Push client index s source seq rows) (numbered_push x s source seq rows (next_number x s source)) (numbered_push y s source seq rows m)) next
        (both_cases x y (next_number x s source) h (seq == next_number x s source) (nat_lt seq (next_number x s source))))

  -- ---- steps

  module _ (q r : ℕ) (p : Procedure) (is : slice_get catalog.procedures q ≡ Some p) where
    touched_by : (x : ℕ) → touches catalog n (StepEntry q r) x ≡ in_touch_set n p.touch [] x
    touched_by x = ap (λ o. procedure_touches n o [] x) is

    home_apart : (x : ℕ) → is_streaming p.kind ≡ true → in_touch_set n p.touch [] x ≡ false → (home_of catalog n q == x) ≡ false
    home_apart x s t = by (eqb_tells (home_of catalog n q) x)
      where
        by : ((home_of catalog n q == x ≡ true) × (home_of catalog n q ≡ x)) ⊎ ((home_of catalog n q == x ≡ false) × (home_of catalog n q ≢ x)) → (home_of catalog n q == x) ≡ false
        by (inl h) = let g : true ≡ false = sym ((uses_touched catalog accepted n some q p is).home s []) ∙ ap (in_touch_set n p.touch []) h.1 ∙ t in cc
        by (inr h) = h.0

    stepped_apart : (batches : List Rows) (db : Database) (x : ℕ) → is_streaming p.kind ≡ true → in_touch_set n p.touch [] x ≡ false → part catalog n x (stepped_on catalog db q r p batches).db ≡ part catalog n x db
    unfolding part
    stepped_apart batches db x s t =
        let run = leaves_parts catalog n q (present catalog db q p) [] batches ((present_touched catalog accepted n some q p is db).uses [] batches) db x t in
        same_part _ _ (ap (λ d. d.tables) run) (ap (λ d. d.windows) run) (count_apart catalog n db x q (r + 1) (home_apart x s t)) (ap (λ d. d.next_numbers) run) (ap (λ d. d.bodies) run)

    stepped_same : (batches : List Rows) (x y : Database) → ((z : ℕ) → in_touch_set n p.touch [] z ≡ true → part catalog n z x ≡ part catalog n z y) → SameEffect catalog n (StepEntry q r) (stepped_on catalog x q r p batches) (stepped_on catalog y q r p batches)
    unfolding part
    stepped_same batches x y h =
        let (some_part, touched) = touched_partition n p.touch [] some (accepted.structure.somewhere q p is) in
        let bodies : x.bodies ≡ y.bodies = bodies_from catalog n x y some_part (lt-ltb some_part n (touched_run catalog n some (StepEntry q r) some_part (touched_by some_part ∙ touched))) (h some_part touched) in
        let run = depends_on_parts catalog n q (present catalog x q p) [] batches ((present_touched catalog accepted n some q p is x).uses [] batches) x y some_part touched h in
        subst (λ bodies. SameEffect catalog n (StepEntry q r) (stepped_on catalog x q r p batches) (stepped y q r p (run_procedure catalog q (present catalog (record y { bodies = bodies }) q p) [] batches y.contents))) bodies
        (record {
          outcome = run.outcome;
          emitted = run.emitted;
          parts = λ z t.
              let same = run.parts z (sym (touched_by z) ∙ t) in
              let before = h z (sym (touched_by z) ∙ t) in
              same_part _ _ (ap (λ d. d.tables) same) (ap (λ d. d.windows) same) (count_both catalog n x y z q (r + 1) (ap (λ d. d.counts) before)) (ap (λ d. d.next_numbers) before) (ap (λ d. d.bodies) before);
        })

    same_lengths : (x y : Database) (ss : List ℕ) → AllByRecursion (λ s. slice_get (stream_batches x s) r ≡ slice_get (stream_batches y s) r) ss → list_all (λ s. nat_lt r (length (stream_batches x s))) ss ≡ list_all (λ s. nat_lt r (length (stream_batches y s))) ss
    same_lengths x y [] all = refl
    same_lengths x y (s ∷ ss) all = λ i. same_length (stream_batches x s) (stream_batches y s) r all.0 i && same_lengths x y ss all.1 i

    same_batches : (x y : Database) (ss : List ℕ) → AllByRecursion (λ s. slice_get (stream_batches x s) r ≡ slice_get (stream_batches y s) r) ss → map (λ s. get_or (stream_batches x s) r []) ss ≡ map (λ s. get_or (stream_batches y s) r []) ss
    same_batches x y [] all = refl
    same_batches x y (s ∷ ss) all = λ i. same_item (stream_batches x s) (stream_batches y s) r [] all.0 i ∷ same_batches x y ss all.1 i

    ready_streams : (db : Database) → is_ready db q r p ≡ true → is_streaming p.kind ≡ true
    ready_streams db e = first_of_two _ _ (first_of_two _ _ e)

    -- a procedure that does not stream has no steps
    when_ready : (db : Database) (batches : List Rows) (b : Bool) → is_ready db q r p ≡ b → LeavesParts catalog n (StepEntry q r) db (only_when b (Some (stepped_on catalog db q r p batches)))
    when_ready db batches true e = λ x t. stepped_apart batches db x (ready_streams db e) (sym (touched_by x) ∙ t)
    when_ready db batches false e = tt

    both_ready : (x y : Database) → ((z : ℕ) → touches catalog n (StepEntry q r) z ≡ true → part catalog n z x ≡ part catalog n z y) → SameInputs catalog (StepEntry q r) x y → (b : Bool) → is_streaming p.kind ≡ b → SameApplied catalog n (StepEntry q r) (only_when (is_ready x q r p) (Some (stepped_on catalog x q r p (input_batches x r p)))) (only_when (is_ready y q r p) (Some (stepped_on catalog y q r p (input_batches y r p))))
    both_ready x y h i true k =
        let home : touches catalog n (StepEntry q r) (home_of catalog n q) ≡ true = touched_by (home_of catalog n q) ∙ (uses_touched catalog accepted n some q p is).home k [] in
        let count : batch_count x q ≡ batch_count y q = count_from catalog n x y q (h (home_of catalog n q) home) in
        let ready : is_ready x q r p ≡ is_ready y q r p = λ j. is_streaming p.kind && (count j == r) && same_lengths x y p.inputs (i p is) j in
        subst (λ b. SameApplied catalog n (StepEntry q r) (only_when (is_ready x q r p) (Some (stepped_on catalog x q r p (input_batches x r p)))) (only_when b (Some (stepped_on catalog y q r p (input_batches y r p))))) ready
        (subst (λ batches. SameApplied catalog n (StepEntry q r) (only_when (is_ready x q r p) (Some (stepped_on catalog x q r p (input_batches x r p)))) (only_when (is_ready x q r p) (Some (stepped_on catalog y q r p batches)))) (same_batches x y p.inputs (i p is))
        (only_same catalog n (StepEntry q r) (is_ready x q r p) _ _ (stepped_same (input_batches x r p) x y (λ z t. h z (touched_by z ∙ t)))))
    both_ready x y h i false k = idle (is_streaming p.kind) k (batch_count x q == r) (batch_count y q == r) _ _
      where
        idle : (a : Bool) → a ≡ false → (b c d e : Bool) → SameApplied catalog n (StepEntry q r) (only_when (a && b && d) (Some (stepped_on catalog x q r p (input_batches x r p)))) (only_when (a && c && e) (Some (stepped_on catalog y q r p (input_batches y r p))))
        idle true f b c d e = cc
        idle false f b c d e = tt

  step_leaves : (db : Database) (q r : ℕ) (o : Option Procedure) → slice_get catalog.procedures q ≡ o → LeavesParts catalog n (StepEntry q r) db (apply_step catalog db q r o)
  step_leaves db q r None is = tt
  step_leaves db q r (Some p) is = when_ready q r p is db (input_batches db r p) (is_ready db q r p) refl

  step_same : (x y : Database) (q r : ℕ) → ((z : ℕ) → touches catalog n (StepEntry q r) z ≡ true → part catalog n z x ≡ part catalog n z y) → SameInputs catalog (StepEntry q r) x y → (o : Option Procedure) → slice_get catalog.procedures q ≡ o → SameApplied catalog n (StepEntry q r) (apply_step catalog x q r o) (apply_step catalog y q r o)
  step_same x y q r h i None is = tt
  step_same x y q r h i (Some p) is = both_ready q r p is x y h i (is_streaming p.kind) refl

  -- ---- installs

  module _ (client index q : ℕ) (text : List ℕ) where
    installed_apart : (db : Database) (p : ℕ) → nat_lt p n ≡ false → part catalog n p (record db { bodies = set db.bodies q text }) ≡ part catalog n p db
    unfolding part
    installed_apart db p t =
        same_part _ _ refl refl refl refl
        (ap (λ b. seen_bodies catalog b (set db.bodies q text)) t ∙ seen_none catalog (set db.bodies q text) db.bodies (length-set db.bodies q text) ∙ sym (ap (λ b. seen_bodies catalog b db.bodies) t))

    installed_both : (x y : Database) (p : ℕ) → nat_lt p n ≡ true → part catalog n p x ≡ part catalog n p y → part catalog n p (record x { bodies = set x.bodies q text }) ≡ part catalog n p (record y { bodies = set y.bodies q text })
    unfolding part
    installed_both x y p t h =
        same_part _ _ (ap (λ d. d.tables) h) (ap (λ d. d.windows) h) (ap (λ d. d.counts) h) (ap (λ d. d.next_numbers) h)
        (ap (λ bodies. seen_bodies catalog (nat_lt p n) (set bodies q text)) (bodies_from catalog n x y p t h))

    install_is_local : EntryIsLocal catalog n (Install client index q text)
    unfolding apply
    install_is_local = record {
      leaves = λ db. only_leaves catalog n (Install client index q text) db _ _ (λ p t. installed_apart db p t);
      depends = λ x y h i. only_same catalog n (Install client index q text) _ _ _ (record { outcome = refl; emitted = refl; parts = λ p t. installed_both x y p t (h p t) });
    }

  pub entry_is_local : (e : Entry) → EntryIsLocal catalog n e
  unfolding apply
  entry_is_local (Call client index q args) = record {
    leaves = λ db. call_leaves client index q args db (slice_get catalog.procedures q) refl;
    depends = λ x y h i. call_same client index q args x y h (slice_get catalog.procedures q) refl;
  }
  entry_is_local (Push client index s source seq rows) = record {
    leaves = push_leaves client index s source seq rows;
    depends = λ x y h i. push_same client index s source seq rows x y h;
  }
  entry_is_local (StepEntry q r) = record {
    leaves = λ db. step_leaves db q r (slice_get catalog.procedures q) refl;
    depends = λ x y h i. step_same x y q r h i (slice_get catalog.procedures q) refl;
  }
  entry_is_local (Install client index q text) = install_is_local client index q text
