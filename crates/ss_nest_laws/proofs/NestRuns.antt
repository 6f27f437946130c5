-- The run of a nest is the run of its members, one after another.
use Rattle.std.proofs.Common.{◌≡◌, ◌==◌, ◌||◌, ℕ, true, false, List, [], ◌∷◌, ◌++◌, map, length, get_or, slice_get, refl, sym, ap, ◌∙◌, subst, Some, Ok, Err}
use Rattle.std.specs.declared.option.Option.{Option}
use Rattle.std.specs.List.{list_all, list_any}
use Rattle.std.proofs.lemmas.Bool.{or_parts}
use Rattle.std.proofs.lemmas.List.{append_assoc, append-nil, length-replicate}
use Rattle.std.proofs.lemmas.List.Folds.{list_any-append}
use Rattle.ss_value.specs.declared.value.Value.{Value}
use Rattle.ss_value.specs.Rows.{Rows}
use Rattle.ss_model.specs.declared.catalog.Catalog.{Catalog}
use Rattle.ss_model.specs.declared.catalog.ProcedureKind.TheVariants.{Border}
use Rattle.ss_model.specs.declared.catalog.Procedure.{Procedure}
use Rattle.ss_model.specs.declared.entry.Outcome.TheVariants.{Done}
use Rattle.ss_model.specs.Results.{OrAbort, ◌>>=◌, try_fold, and_behind}
use Rattle.ss_model.specs.Contents.{Contents}
use Rattle.ss_model.specs.Statements.{Context, Execution}
use Rattle.ss_model.specs.Bodies.{execute_step, execution_start, close_window, owned_batch_windows, run_body}
use Rattle.ss_model.specs.Database.{body_result, run_procedure, emits_to, takes_stream, split_value_for}
use Rattle.ss_model.specs.Orders.{procedure_has, procedure_emits}
use Rattle.ss_model.specs.CatalogForm.{step_of_kind, numbers_distinct}
use Rattle.ss_model.specs.Scopes.{trigger_in_scope}
use Rattle.ss_model.specs.Nests.{Handed, handed_none, hand_on, run_member, handed_batches, later_member, run_members, nest_result, run_nest, moved_input, moved_step, members_emit, moved_body, joined_body, is_plain_step}
use Rattle.ss_model_kept.proofs.CallerLemmas.{get_or-alike}
use Rattle.ss_model_kept.proofs.Related.{Related}
use Rattle.ss_nest_laws.proofs.NestStatements.{Beside, beside_it}
use Rattle.ss_nest_laws.proofs.NestBodies.{joined_length, joined_none, joined_old, Going, body_goes}
use Rattle.ss_nest_laws.proofs.NestPositions.{first_stands, later_stands}

-- ---- results of two kinds

abbrev pub Follows : {A B : Type 0} → (A → B → Type 0) → OrAbort A → OrAbort B → Type 0
Follows R (Ok a) (Ok b) = R a b
Follows R (Ok a) (Err q) = ⊥
Follows R (Err r) (Ok b) = ⊥
Follows R (Err r) (Err q) = r ≡ q

follows_then : {A B : Type 0} (R S : A → B → Type 0) (x : OrAbort A) (y : OrAbort B) (f : A → OrAbort A) (g : B → OrAbort B) → Follows R x y → ((a : A) (b : B) → R a b → Follows S (f a) (g b)) → Follows S (x >>= f) (y >>= g)
follows_then R S (Ok a) (Ok b) f g h k = k a b h
follows_then R S (Ok a) (Err q) f g h k = absurd h
follows_then R S (Err r) (Ok b) f g h k = absurd h
follows_then R S (Err r) (Err q) f g h k = h

fold_append : {A S : Type 0} (f : A → S → OrAbort S) (xs ys : List A) (s : S) → try_fold f (xs ++ ys) s ≡ (try_fold f xs s >>= try_fold f ys)
fold_append f [] ys s = refl
fold_append {A} {S} f (x ∷ xs) ys s = by (fold_append f xs ys) (f x s)
  where
    by : ((t : S) → try_fold f (xs ++ ys) t ≡ (try_fold f xs t >>= try_fold f ys)) → (z : OrAbort S) → (z >>= try_fold f (xs ++ ys)) ≡ ((z >>= try_fold f xs) >>= try_fold f ys)
    by later (Ok t) = later t
    by later (Err r) = refl

then_done : {A S : Type 0} (f : A → S → OrAbort S) (x : OrAbort S) → (x >>= try_fold f []) ≡ x
then_done f (Ok s) = refl
then_done f (Err r) = refl

-- ---- what a nest asks of a member, with those before it

pub record IsMember (catalog : Catalog) (split : Option Value) (q : ℕ) (p : Procedure) : Type 0 where
  pub there : slice_get catalog.procedures q ≡ Some p
  pub no_inner : p.inner ≡ []
  pub plain : list_all is_plain_step p.body ≡ true
  pub streaming : list_all (step_of_kind Border) p.body ≡ true
  pub same_split : split_value_for p.touch [] ≡ split
  pub no_window : owned_batch_windows catalog q ≡ []
  pub apart : (s : ℕ) → takes_stream s p ≡ true → list_any (emits_to s) p.body ≡ false

-- what it emits is emitted by none of those before it
abbrev pub IsNew : Catalog → List ℕ → Procedure → Type 0
IsNew catalog before p = (s : ℕ) → list_any (emits_to s) p.body ≡ true → members_emit catalog before s ≡ false

-- a member behind others: it takes inner streams alone
pub record IsLater (catalog : Catalog) (split : Option Value) (inputs inner before : List ℕ) (q : ℕ) : Type 0 where
  pub procedure : Procedure
  pub member : IsMember catalog split q procedure
  pub new : IsNew catalog before procedure
  pub outside : (s : ℕ) → takes_stream s procedure ≡ true → list_any (λ i. i == s) inputs ≡ false
  pub inside : (s : ℕ) → takes_stream s procedure ≡ true → list_any (λ i. i == s) inner ≡ true

abbrev pub AreLater : Catalog → Option Value → List ℕ → List ℕ → List ℕ → List ℕ → Type 0
AreLater catalog split inputs inner before [] = Unit {0}
AreLater catalog split inputs inner before (q ∷ qs) = IsLater catalog split inputs inner before q × AreLater catalog split inputs inner (before ++ q ∷ []) qs

module _
    (catalog : Catalog) (beside : Beside catalog)
    (scope : list_all (trigger_in_scope catalog) catalog.triggers ≡ true)
    (nest_number : ℕ) (batches : List Rows) (inputs inner : List ℕ) (split : Option Value) (fits : length batches ≡ length inputs)
  where
    abbrev outer : Catalog
    outer = beside_it catalog beside

    abbrev here : Context
    here = record { catalog = outer; procedure = nest_number; args = []; batches = batches; inner = inner; split_value = split }

    -- the nest has come as far as its members
    pub record Reached (before : List ℕ) (w : Execution) (h : Handed) : Type 0 where
      pub contents : w.contents ≡ h.contents
      pub emitted : w.emitted ≡ h.batches
      pub replied : w.reply ≡ []
      pub size : length h.batches ≡ length catalog.streams
      pub empty : (s : ℕ) → members_emit catalog before s ≡ false → get_or h.batches s [] ≡ []

    module _ (before : List ℕ) (q : ℕ) (p : Procedure) (member : IsMember catalog split q p) (new : IsNew catalog before p) (there : List Rows) (w : Execution) (h : Handed) (r : Reached before w h)
        (stand : (e : List Rows) → ((s : ℕ) → takes_stream s p ≡ true → get_or e s [] ≡ get_or h.batches s []) → (i : ℕ) → get_or (and_behind batches (map (λ s. get_or e s []) inner)) (moved_input (and_behind inputs inner) p.inputs i) [] ≡ get_or there i [])
      where
        abbrev by_itself : Context
        by_itself = record { catalog = catalog; procedure = q; args = []; batches = there; inner = []; split_value = split }

        abbrev start : Execution
        start = execution_start catalog h.contents

        abbrev Goes : Execution → Execution → Type 0
        Goes = Going catalog beside scope nest_number q batches there inner split p h.batches (moved_input (and_behind inputs inner) p.inputs) r.size (λ s e. r.empty s (new s e)) member.apart stand

        begun : Goes w start
        begun = record {
          contents = r.contents;
          nest = r.emitted ∙ sym (joined_none h.batches (length catalog.streams) r.size);
          size = length-replicate (length catalog.streams) [];
          quiet = λ s e. get_or-alike (length catalog.streams) s [];
          replied = r.replied;
        }

        body_is : run_procedure catalog q p [] there h.contents ≡ body_result catalog h.contents (try_fold (execute_step by_itself) p.body start)
        unfolding run_body
        body_is =
            ap (body_result catalog h.contents)
            ((λ i.
            try_fold (execute_step (record by_itself { inner = member.no_inner i; split_value = member.same_split i })) p.body start
            >>= try_fold (close_window (record by_itself { inner = member.no_inner i; split_value = member.same_split i })) (member.no_window i))
            ∙ then_done (close_window by_itself) (try_fold (execute_step by_itself) p.body start))

        emits_is : (s : ℕ) → procedure_emits catalog q s ≡ list_any (emits_to s) p.body
        emits_is s = ap (procedure_has (λ d. list_any (emits_to s) d.body)) member.there

        reached : (x y : OrAbort Execution) → Related Goes x y → Follows (Reached (before ++ q ∷ [])) x (hand_on h (body_result catalog h.contents y))
        reached (Ok a) (Ok b) g = record {
          contents = g.contents;
          emitted = g.nest;
          replied = g.replied;
          size = joined_length (λ s. get_or h.batches s []) b.emitted ∙ g.size;
          empty = λ s e.
              let split_any : (members_emit catalog before s || (procedure_emits catalog q s || false)) ≡ false = sym (list_any-append (λ m. procedure_emits catalog m s) before (q ∷ [])) ∙ e in
              let parts = or_parts _ _ split_any in
              let own = or_parts _ _ parts.1 in
              joined_old h.batches b.emitted (r.size ∙ sym g.size) s (g.quiet s (sym (emits_is s) ∙ own.0)) ∙ r.empty s parts.0;
        }
        reached (Ok a) (Err x) g = absurd g
        reached (Err x) (Ok b) g = absurd g
        reached (Err x) (Err y) g = g

        pub member_follows : Follows (Reached (before ++ q ∷ [])) (try_fold (execute_step here) (map (moved_step (moved_input (and_behind inputs inner) p.inputs) inner) p.body) w) (hand_on h (run_procedure catalog q p [] there h.contents))
        member_follows =
            subst (λ z. Follows (Reached (before ++ q ∷ [])) (try_fold (execute_step here) (map (moved_step (moved_input (and_behind inputs inner) p.inputs) inner) p.body) w) (hand_on h z)) (sym body_is)
            (reached _ _ (body_goes catalog beside scope nest_number q batches there inner split p h.batches (moved_input (and_behind inputs inner) p.inputs) r.size (λ s e. r.empty s (new s e)) member.apart stand member.plain member.streaming w start begun))

    later_follows : (before : List ℕ) (q : ℕ) → IsLater catalog split inputs inner before q → (w : Execution) (h : Handed) → Reached before w h → Follows (Reached (before ++ q ∷ [])) (try_fold (execute_step here) (moved_body (and_behind inputs inner) inner (slice_get catalog.procedures q)) w) (later_member catalog q h)
    later_follows before q k w h r =
        let p = k.procedure in
        subst (λ o. Follows (Reached (before ++ q ∷ [])) (try_fold (execute_step here) (moved_body (and_behind inputs inner) inner o) w) (run_member catalog q o (handed_batches h) h)) (sym (k.member).there)
        (member_follows before q p k.member k.new (handed_batches h p) w h r (λ e same. later_stands batches h.batches e inputs inner p.inputs fits k.outside k.inside same))

    members_follow : (before qs : List ℕ) → AreLater catalog split inputs inner before qs → (w : Execution) (h : Handed) → Reached before w h → Follows (Reached (before ++ qs)) (try_fold (execute_step here) (joined_body catalog (and_behind inputs inner) inner qs) w) (try_fold (later_member catalog) qs h)
    members_follow before [] k w h r = subst (λ z. Reached z w h) (sym (append-nil before)) r
    members_follow before (q ∷ qs) k w h r =
        subst (λ z. Follows (Reached (before ++ q ∷ qs)) z (try_fold (later_member catalog) (q ∷ qs) h)) (sym (fold_append (execute_step here) (moved_body (and_behind inputs inner) inner (slice_get catalog.procedures q)) (joined_body catalog (and_behind inputs inner) inner qs) w))
        (follows_then (Reached (before ++ q ∷ [])) (Reached (before ++ q ∷ qs)) _ _ _ _ (later_follows before q k.0 w h r) (λ a b s.
        subst (λ z. Follows (Reached z) (try_fold (execute_step here) (joined_body catalog (and_behind inputs inner) inner qs) a) (try_fold (later_member catalog) qs b)) (append_assoc before (q ∷ []) qs) (members_follow (before ++ q ∷ []) qs k.1 a b s)))

    -- from the first member on
    pub nest_follows : (q : ℕ) (first : Procedure) (qs : List ℕ) → IsMember catalog split q first → first.inputs ≡ inputs → numbers_distinct inputs ≡ true → AreLater catalog split inputs inner (q ∷ []) qs → (s : Contents) →
        Follows (Reached (q ∷ qs)) (try_fold (execute_step here) (joined_body catalog (and_behind inputs inner) inner (q ∷ qs)) (execution_start outer s)) (run_members catalog (q ∷ qs) batches s)
    nest_follows q first qs member inputs_are distinct later s =
        let started : Reached [] (execution_start outer s) (handed_none catalog s) = record {
          contents = refl;
          emitted = refl;
          replied = refl;
          size = length-replicate (length catalog.streams) [];
          empty = λ t e. get_or-alike (length catalog.streams) t [];
        } in
        let stands : (e : List Rows) → (i : ℕ) → get_or (and_behind batches (map (λ s. get_or e s []) inner)) (moved_input (and_behind inputs inner) first.inputs i) [] ≡ get_or batches i [] =
        λ e i. subst (λ z. get_or (and_behind batches (map (λ s. get_or e s []) inner)) (moved_input (and_behind inputs inner) z i) [] ≡ get_or batches i []) (sym inputs_are) (first_stands batches e inputs inner fits distinct i) in
        subst (λ z. Follows (Reached (q ∷ qs)) z (run_members catalog (q ∷ qs) batches s)) (sym (fold_append (execute_step here) (moved_body (and_behind inputs inner) inner (slice_get catalog.procedures q)) (joined_body catalog (and_behind inputs inner) inner qs) (execution_start outer s)))
        (follows_then (Reached (q ∷ [])) (Reached (q ∷ qs)) _ _ _ _
        (subst (λ o. Follows (Reached (q ∷ [])) (try_fold (execute_step here) (moved_body (and_behind inputs inner) inner o) (execution_start outer s)) (run_member catalog q o (λ p. batches) (handed_none catalog s))) (sym member.there)
        (member_follows [] q first member (λ s e. refl) batches (execution_start outer s) (handed_none catalog s) started (λ e same i. stands e i)))
        (λ a b r. members_follow (q ∷ []) qs later a b r))

    result_same : (s : Contents) (members : List ℕ) (x : OrAbort Execution) (y : OrAbort Handed) → Follows (Reached members) x y → body_result outer s x ≡ nest_result catalog s y
    result_same s members (Ok w) (Ok h) r = λ i. record { contents = r.contents i; outcome = Done (r.replied i); emitted = r.emitted i }
    result_same s members (Ok w) (Err q) r = absurd r
    result_same s members (Err x) (Ok h) r = absurd r
    result_same s members (Err x) (Err y) r = λ i. body_result outer s (Err (r i))

    -- as a whole
    pub nest_runs : (nest : Procedure) (q : ℕ) (first : Procedure) (qs : List ℕ) → nest.inner ≡ inner → nest.body ≡ joined_body catalog (and_behind inputs inner) inner (q ∷ qs) → split_value_for nest.touch [] ≡ split → owned_batch_windows outer nest_number ≡ [] →
        IsMember catalog split q first → first.inputs ≡ inputs → numbers_distinct inputs ≡ true → AreLater catalog split inputs inner (q ∷ []) qs → (s : Contents) → run_procedure outer nest_number nest [] batches s ≡ run_nest catalog (q ∷ qs) batches s
    unfolding run_body
    nest_runs nest q first qs inner_is body_is split_is windows_none member inputs_are distinct later s =
        ap (body_result outer s)
        ((λ i.
        try_fold (execute_step (record here { inner = inner_is i; split_value = split_is i })) (body_is i) (execution_start outer s)
        >>= try_fold (close_window (record here { inner = inner_is i; split_value = split_is i })) (windows_none i))
        ∙ then_done (close_window here) _)
        ∙ result_same s (q ∷ qs) _ _ (nest_follows q first qs member inputs_are distinct later s)
