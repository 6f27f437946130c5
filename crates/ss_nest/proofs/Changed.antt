-- A plain catalogue with another body in the place of one procedure's: its nests are the same, and are its nests still.
use Rattle.std.proofs.Common.{◌≡◌, ◌∙◌, ◌==◌, ◌⊎◌, ◌≢◌, ◌&&◌, inl, inr, ℕ, zero, suc, Bool, true, false, cond, List, [], ◌∷◌, ◌++◌, map, length, slice_get, Option, Some, None, unwrap_or, refl, sym, ap, subst}
use Rattle.std.specs.List.{filter, list_all, list_any, range_with_len}
use Rattle.std.specs.Option.{option_map}
use Rattle.std.proofs.lemmas.Bool.{or_parts, both_ways}
use Rattle.std.proofs.lemmas.Bool.Decides.{eqb_tells}
use Rattle.ss_lemmas.proofs.Bools.{some_same}
use Rattle.ss_lemmas.proofs.Numbers.{eqb_self}
use Rattle.ss_model.specs.declared.catalog.Catalog.{Catalog}
use Rattle.ss_model.specs.declared.catalog.Nest.{Nest}
use Rattle.ss_model.specs.declared.catalog.Procedure.{Procedure}
use Rattle.ss_model.specs.declared.catalog.Step.{Step}
use Rattle.ss_model.specs.declared.catalog.Step.TheVariants.{Sql, AbortIf, ForEach, Emit, Local, Return}
use Rattle.ss_model.specs.Results.{map_indexed, and_behind}
use Rattle.ss_model.specs.Database.{emits_to, adds_to, is_streaming, takes_stream, with_body}
use Rattle.ss_model.specs.Orders.{procedure_has, procedure_emits, procedure_takes}
use Rattle.ss_model.specs.Settling.{streams_on}
use Rattle.ss_model.specs.Spares.{AcceptedBody}
use Rattle.ss_model.specs.AcceptedBodies.{with_body_at}
use Rattle.ss_model.specs.CatalogForm.{all_distinct}
use Rattle.ss_model.specs.Nests.{members_emit, members_take, inner_streams, moved_body, joined_body, nest_from, nest_procedure, FedBy, EachFed, IsClosed, touch_of, MayNest, is_plain_step, IsPlain, AreNests}
use Rattle.ss_nest.specs.Members.{stands_in}
use Rattle.ss_nest.proofs.Distinct.{nest_names}

-- ---- procedures with other bodies

at_number : (bodies : ℕ → List Step) (ps : List Procedure) (q : ℕ) → slice_get (map_indexed (λ n p. with_body (bodies n) p) ps) q ≡ option_map (with_body (bodies q)) (slice_get ps q)
at_number bodies [] q = refl
at_number bodies (p ∷ ps) zero = refl
at_number bodies (p ∷ ps) (suc q) = at_number (λ n. bodies (suc n)) ps q

same_names : (bodies : ℕ → List Step) (ps : List Procedure) → map (λ (p : Procedure). p.name) (map_indexed (λ n p. with_body (bodies n) p) ps) ≡ map (λ (p : Procedure). p.name) ps
same_names bodies [] = refl
same_names bodies (p ∷ ps) = ap (λ (ns : List (List ℕ)). p.name ∷ ns) (same_names (λ n. bodies (suc n)) ps)

-- ---- steps on inner streams

none_added : (s : ℕ) (body : List Step) → list_all is_plain_step body ≡ true → list_any (adds_to s) body ≡ false
none_added s [] h = refl
none_added s (Sql x ∷ body) h = none_added s body h
none_added s (AbortIf x code ∷ body) h = none_added s body h
none_added s (ForEach i x ∷ body) h = none_added s body h
none_added s (Emit t x ∷ body) h = none_added s body h
none_added s (Local t x ∷ body) h = absurd (cc)
none_added s (Return x ∷ body) h = none_added s body h

all_plain : (body : List Step) → ((s : ℕ) → list_any (adds_to s) body ≡ false) → list_all is_plain_step body ≡ true
all_plain [] none = refl
all_plain (Sql x ∷ body) none = all_plain body none
all_plain (AbortIf x code ∷ body) none = all_plain body none
all_plain (ForEach i x ∷ body) none = all_plain body none
all_plain (Emit t x ∷ body) none = all_plain body none
all_plain (Local t x ∷ body) none = absurd (both_ways (t == t) (or_parts (t == t) (list_any (adds_to t) body) (none t)).0 (eqb_self t))
all_plain (Return x ∷ body) none = all_plain body none

-- ---- the catalogue with the body

module _ (plain : Catalog) (n : ℕ) (x : Procedure) (there : slice_get plain.procedures n ≡ Some x) (steps : List Step) where
  abbrev changed : Catalog
  changed = with_body_at plain n steps

  abbrev chosen : ℕ → List Step
  chosen k = cond (k == n) steps (unwrap_or (option_map (λ (p : Procedure). p.body) (slice_get plain.procedures k)) [])

  -- what stands there now
  now_at : (k : ℕ) → slice_get changed.procedures k ≡ option_map (with_body (chosen k)) (slice_get plain.procedures k)
  now_at k = at_number chosen plain.procedures k

  own_body : (k : ℕ) (p : Procedure) → slice_get plain.procedures k ≡ Some p → (k == n) ≡ false → chosen k ≡ p.body
  own_body k p is apart =
      ap (λ b. cond b steps (unwrap_or (option_map (λ (d : Procedure). d.body) (slice_get plain.procedures k)) [])) apart ∙ ap (λ o. unwrap_or (option_map (λ (d : Procedure). d.body) o) []) is

  new_body : (k : ℕ) → (k == n) ≡ true → chosen k ≡ steps
  new_body k same = ap (λ b. cond b steps (unwrap_or (option_map (λ (d : Procedure). d.body) (slice_get plain.procedures k)) [])) same

  -- it is the one that was there, elsewhere
  pub other_at : (k : ℕ) → k ≢ n → slice_get changed.procedures k ≡ slice_get plain.procedures k
  other_at k apart = now_at k ∙ by (slice_get plain.procedures k) refl (eqb_tells k n)
    where
      by : (o : Option Procedure) → slice_get plain.procedures k ≡ o → ((k == n ≡ true) × (k ≡ n)) ⊎ ((k == n ≡ false) × (k ≢ n)) → option_map (with_body (chosen k)) o ≡ o
      by None e t = refl
      by (Some p) e (inl t) = absurd (apart t.1)
      by (Some p) e (inr t) = ap (λ (b : List Step). Some (with_body b p)) (own_body k p e t.0)

  pub here_at : slice_get changed.procedures n ≡ Some (with_body steps x)
  here_at = now_at n ∙ (λ i. option_map (with_body (new_body n (eqb_self n) i)) (there i))

  -- a test that reads no body
  has_same : (test : Procedure → Bool) → ((body : List Step) (p : Procedure) → test (with_body body p) ≡ test p) → (k : ℕ) → procedure_has test (slice_get changed.procedures k) ≡ procedure_has test (slice_get plain.procedures k)
  has_same test blind k = ap (procedure_has test) (now_at k) ∙ by (slice_get plain.procedures k)
    where
      by : (o : Option Procedure) → procedure_has test (option_map (with_body (chosen k)) o) ≡ procedure_has test o
      by None = refl
      by (Some p) = blind (chosen k) p

  takes_same : (q s : ℕ) → procedure_takes changed q s ≡ procedure_takes plain q s
  takes_same q s = has_same (takes_stream s) (λ body p. refl) q

  streams_same : (q : ℕ) → streams_on changed q ≡ streams_on plain q
  streams_same q = has_same (λ p. is_streaming p.kind) (λ body p. refl) q

  touch_same : (q : ℕ) → touch_of changed q ≡ touch_of plain q
  touch_same q = ap (option_map (λ (p : Procedure). p.touch)) (now_at q) ∙ by (slice_get plain.procedures q)
    where
      by : (o : Option Procedure) → option_map (λ (p : Procedure). p.touch) (option_map (with_body (chosen q)) o) ≡ option_map (λ (p : Procedure). p.touch) o
      by None = refl
      by (Some p) = refl

  module _ (may : AcceptedBody plain n x steps) where
    emits_same : (q s : ℕ) → procedure_emits changed q s ≡ procedure_emits plain q s
    emits_same q s = ap (procedure_has (λ d. list_any (emits_to s) d.body)) (now_at q) ∙ by (slice_get plain.procedures q) refl (eqb_tells q n)
      where
        by : (o : Option Procedure) → slice_get plain.procedures q ≡ o → ((q == n ≡ true) × (q ≡ n)) ⊎ ((q == n ≡ false) × (q ≢ n))
            → procedure_has (λ d. list_any (emits_to s) d.body) (option_map (with_body (chosen q)) o) ≡ procedure_has (λ d. list_any (emits_to s) d.body) o
        by None e t = refl
        by (Some p) e (inl t) =
            let same : x ≡ p = some_same x p (sym there ∙ ap (slice_get plain.procedures) (sym t.1) ∙ e) in
            ap (list_any (emits_to s)) (new_body q t.0) ∙ may.emits s ∙ ap (λ (d : Procedure). list_any (emits_to s) d.body) same
        by (Some p) e (inr t) = ap (list_any (emits_to s)) (own_body q p e t.0)

    emit_same : (ms : List ℕ) (s : ℕ) → members_emit changed ms s ≡ members_emit plain ms s
    emit_same ms s = λ i. list_any (λ q. emits_same q s i) ms

    take_same : (ms : List ℕ) (s : ℕ) → members_take changed ms s ≡ members_take plain ms s
    take_same ms s = λ i. list_any (λ q. takes_same q s i) ms

    -- ---- a nest that the procedure is not in

    inner_same : (ms : List ℕ) → inner_streams changed ms ≡ inner_streams plain ms
    inner_same ms = λ i. filter (λ s. emit_same ms s i && take_same ms s i) (range_with_len 0 (length plain.streams))

    joined_same : (reads inner ms : List ℕ) → stands_in ms n ≡ false → joined_body changed reads inner ms ≡ joined_body plain reads inner ms
    joined_same reads inner [] out = refl
    joined_same reads inner (m ∷ ms) out =
        let parts = or_parts (m == n) (stands_in ms n) out in
        let apart : m ≢ n = λ same. both_ways (m == n) parts.0 (ap (λ k. m == k) (sym same) ∙ eqb_self m) in
        λ i. moved_body reads inner (other_at m apart i) ++ joined_same reads inner ms parts.1 i

    pub nest_same : (nest : Nest) (first : Procedure) → stands_in nest.members n ≡ false → nest_procedure changed nest first ≡ nest_procedure plain nest first
    nest_same nest first out =
        let inner = inner_streams plain nest.members in
        (λ i. nest_from changed nest (inner_same nest.members i) first)
        ∙ (λ i. record {
          name = nest.name;
          kind = first.kind;
          args = first.args;
          inputs = first.inputs;
          inner = inner;
          touch = first.touch;
          body = joined_same (and_behind first.inputs inner) inner nest.members out i;
        })

    -- ---- its nests

    plain_still : IsPlain plain → IsPlain changed
    plain_still h k p is = by (slice_get plain.procedures k) refl (eqb_tells k n) (sym (now_at k) ∙ is)
      where
        by : (o : Option Procedure) → slice_get plain.procedures k ≡ o → ((k == n ≡ true) × (k ≡ n)) ⊎ ((k == n ≡ false) × (k ≢ n)) → option_map (with_body (chosen k)) o ≡ Some p
            → (p.inner ≡ []) × (list_all is_plain_step p.body ≡ true)
        by None e t f = absurd (cc)
        by (Some d) e (inl t) f =
            let was = h k d e in
            let same : with_body (chosen k) d ≡ p = some_same (with_body (chosen k) d) p f in
            let own = h n x there in (
              ap (λ (z : Procedure). z.inner) (sym same) ∙ was.0,
              ap (λ (z : Procedure). list_all is_plain_step z.body) (sym same) ∙ ap (list_all is_plain_step) (new_body k t.0)
                  ∙ all_plain steps (λ s. may.adds s ∙ none_added s x.body own.1),
            )
        by (Some d) e (inr t) f =
            let was = h k d e in
            let same : with_body (chosen k) d ≡ p = some_same (with_body (chosen k) d) p f in (
              ap (λ (z : Procedure). z.inner) (sym same) ∙ was.0,
              ap (λ (z : Procedure). list_all is_plain_step z.body) (sym same) ∙ ap (list_all is_plain_step) (own_body k d e t.0) ∙ was.1,
            )

    fed_still : (before : List ℕ) (q : ℕ) → FedBy plain before (slice_get plain.procedures q) → FedBy changed before (slice_get changed.procedures q)
    fed_still before q h = subst (FedBy changed before) (sym (now_at q)) (by (slice_get plain.procedures q) h)
      where
        by : (o : Option Procedure) → FedBy plain before o → FedBy changed before (option_map (with_body (chosen q)) o)
        by None k = k
        by (Some p) k = (λ i. list_all (λ s. emit_same before s i) p.inputs) ∙ k

    each_still : (before qs : List ℕ) → EachFed plain before qs → EachFed changed before qs
    each_still before [] h = tt
    each_still before (q ∷ qs) h = (fed_still before q h.0, each_still (before ++ q ∷ []) qs h.1)

    closed_still : (ms : List ℕ) → IsClosed plain ms → IsClosed changed ms
    closed_still [] h = absurd h
    closed_still (q ∷ qs) h = each_still (q ∷ []) qs h

    may_still : (ms : List ℕ) → MayNest plain ms → MayNest changed ms
    may_still ms h = record {
      several = h.several;
      few = h.few;
      streaming = λ q among. streams_same q ∙ h.streaming q among;
      apart = h.apart;
      closed = closed_still ms h.closed;
      inside = λ s q emit take takes. h.inside s q (sym (emit_same ms s) ∙ emit) (sym (take_same ms s) ∙ take) (sym (takes_same q s) ∙ takes);
      same_touch = λ p q one other. touch_same p ∙ h.same_touch p q one other ∙ sym (touch_same q);
      by_rows = λ q among. h.by_rows q among;
    }

    pub nests_still : (nests : List Nest) → AreNests plain nests → AreNests changed nests
    nests_still nests h = record {
      plain = plain_still h.plain;
      each = λ i nest is. may_still nest.members (h.each i nest is);
      named = subst (λ ns. all_distinct (nest_names nests ++ ns) ≡ true) (sym (same_names chosen plain.procedures)) h.named;
      once = h.once;
    }
