-- Each procedure of a catalogue with nests may have its body, and those that may be installed for it.
use Rattle.std.proofs.Common.{◌≡◌, ◌≤◌, ◌==◌, ◌+◌, ◌*◌, ◌⊎◌, inl, inr, nat_le, ℕ, Bool, true, false, List, [], ◌∷◌, ◌++◌, map, length, sum, sum_by, slice_get, refl, sym, ap, ◌∙◌, subst, arith}
use Rattle.std.specs.List.{AllByRecursion, flat_map, list_all, list_any}
use Rattle.std.proofs.lemmas.Bool.{le-leb, leb-true, or_left, or_right}
use Rattle.std.proofs.lemmas.List.{length-map}
use Rattle.std.proofs.lemmas.List.Sums.{sum-map, sum_by-append, sum_by-cons}
use Rattle.ss_model.specs.declared.catalog.Body.{Body}
use Rattle.ss_model.specs.declared.catalog.Catalog.{Catalog}
use Rattle.ss_model.specs.declared.catalog.Nest.{Nest}
use Rattle.ss_model.specs.declared.catalog.Procedure.{Procedure}
use Rattle.ss_model.specs.declared.catalog.ProcedureKind.TheVariants.{Border}
use Rattle.ss_model.specs.declared.catalog.Step.{Step}
use Rattle.ss_model.specs.declared.catalog.Step.TheVariants.{Sql, AbortIf, ForEach, Emit, Local, Return}
use Rattle.ss_model.specs.Results.{and_behind}
use Rattle.ss_model.specs.Database.{is_streaming, streams_read, spare_bodies}
use Rattle.ss_model.specs.CatalogForm.{step_of_kind, step_size, most_steps, body_within_limit}
use Rattle.ss_model.specs.Spares.{AcceptedBody, AcceptedSpares}
use Rattle.ss_model.specs.Accepted.{Accepted}
use Rattle.ss_model.specs.AcceptedBodies.{OwnBodies, OtherBodies}
use Rattle.ss_model.specs.Nests.{AreNests, MayNest, nest_procedure, inner_streams, numbers_apart, moved_input, moved_inner, moved_emit, moved_query, moved_step, moved_body, nested_catalog, nested_number}
use Rattle.ss_lemmas.proofs.Bools.{first_of_two}
use Rattle.ss_lemmas.proofs.EachOf.{all_with}
use Rattle.ss_lemmas.proofs.Numbers.{eqb_self}
use Rattle.ss_model_laws.proofs.AcceptedBodies.{bodies_in}
use Rattle.ss_model_laws.proofs.CallerLemmas.{named}
use Rattle.ss_nest_laws.proofs.Lists.{among, is_among, head_among, all_mapped, all_joined, off}
use Rattle.ss_nest_laws.proofs.NestMembers.{streaming_body, own_steps, input_of, takes_is, streams_of, in_order, head_or_inside}
use Rattle.ss_nest_laws.proofs.NestNumbers.{all_members}
use Rattle.ss_nest_laws.proofs.NestSql.{plain_typed, plain_in_scope, nest_typed, nest_in_scope}
use Rattle.ss_nest_laws.proofs.NestOwns.{still_uses, nest_uses}
use Rattle.ss_nest_laws.proofs.Standing.{OneNest, Standing, by_itself, as_nest, standing, spares_stay, no_spares}

-- ---- how many steps

size_moved : (move : ℕ → ℕ) (inner : List ℕ) (x : Step) → step_size (moved_step move inner x) ≡ step_size x
size_moved move inner (Sql st) = refl
size_moved move inner (AbortIf c code) = refl
size_moved move inner (ForEach i body) = ap (λ n. 1 + n) (length-map body (moved_inner move))
size_moved move inner (Emit s q) = by (list_any (λ i. i == s) inner)
  where
    by : (b : Bool) → step_size (moved_emit move b s (moved_query move q)) ≡ 1
    by true = refl
    by false = refl
size_moved move inner (Local s q) = refl
size_moved move inner (Return q) = refl

sizes_moved : (move : ℕ → ℕ) (inner : List ℕ) (body : List Step) → sum_by step_size (map (moved_step move inner) body) ≡ sum_by step_size body
sizes_moved move inner [] = refl
sizes_moved move inner (x ∷ body) =
    sum_by-cons step_size (moved_step move inner x) (map (moved_step move inner) body)
    ∙ (λ i. size_moved move inner x i + sizes_moved move inner body i) ∙ sym (sum_by-cons step_size x body)

joined_size : (f : ℕ → List Step) (xs : List ℕ) → ((x : ℕ) → among x xs ≡ true → sum_by step_size (f x) ≤ 32) → sum_by step_size (flat_map f xs) ≤ length xs * 32
joined_size f [] h = omega arith
joined_size f (x ∷ xs) h =
    let here : sum_by step_size (f x) ≤ 32 = h x (is_among x xs) in
    let rest : sum_by step_size (flat_map f xs) ≤ length xs * 32 = joined_size f xs (λ y a. h y (or_right (x == y) _ a)) in
    let all : sum_by step_size (f x ++ flat_map f xs) ≡ sum_by step_size (f x) + sum_by step_size (flat_map f xs) = sum_by-append step_size (f x) (flat_map f xs) in
    omega arith

with_inner : (inner : List ℕ) (s n : ℕ) → among s inner ≡ true → n ≤ 256 → nat_le n (most_steps inner) ≡ true
with_inner [] s n a l = cc
with_inner (t ∷ ts) s n a l = le-leb n 256 l

-- ---- of which kind

border_moved : (move : ℕ → ℕ) (inner : List ℕ) (x : Step) → step_of_kind Border x ≡ true → step_of_kind Border (moved_step move inner x) ≡ true
border_moved move inner (Sql st) h = refl
border_moved move inner (AbortIf c code) h = refl
border_moved move inner (ForEach i body) h = refl
border_moved move inner (Emit s q) h = by (list_any (λ i. i == s) inner)
  where
    by : (b : Bool) → step_of_kind Border (moved_emit move b s (moved_query move q)) ≡ true
    by true = refl
    by false = refl
border_moved move inner (Local s q) h = refl
border_moved move inner (Return q) h = cc

module _ (catalog : Catalog) (accepted : Accepted catalog) (nests : List Nest) (text : List ℕ) (are : AreNests catalog nests) where
  abbrev nested : Catalog
  nested = nested_catalog catalog nests text

  -- ---- a procedure in no nest

  body_stays : (q : ℕ) (p : Procedure) → among q (all_members nests) ≡ false → (body : List Step) → AcceptedBody catalog q p body → AcceptedBody nested (nested_number nests q) p body
  body_stays q p out body b = record {
    kind = b.kind;
    size = b.size;
    typed = plain_typed catalog accepted nests text are (streams_read p) p.args body b.typed;
    in_scope = plain_in_scope catalog accepted nests text are (length (streams_read p)) body b.in_scope;
    local = λ args. still_uses catalog accepted nests text are q p out body args (b.local args);
    limited = b.limited;
    emits = b.emits;
    adds = b.adds;
  }

  -- ---- a nest

  module _ (k : OneNest catalog nests) where
    abbrev members : List ℕ
    members = (k.nest).members

    may : MayNest catalog members
    may = are.each k.place k.nest k.stands

    abbrev inner : List ℕ
    inner = inner_streams catalog members

    abbrev reads : List ℕ
    reads = and_behind (k.first).inputs inner

    abbrev made : Procedure
    made = nest_procedure catalog k.nest k.first

    -- it has a stream between members: what the second takes
    some_inner : (s : ℕ) × (among s inner ≡ true)
    some_inner =
        let (qs, order) = in_order catalog accepted members may are.plain k.head k.first k.at_head k.first_is in
        by qs order
      where
        second : (m : ℕ) (ms : List ℕ) → members ≡ k.head ∷ m ∷ ms → (s : ℕ) → (k.head ≡ m) ⊎ (among s inner ≡ true) → among s inner ≡ true
        second m ms order s (inl same) =
            absurd (off _ (first_of_two _ _ (ap numbers_apart (sym order) ∙ may.apart)) (or_left (m == k.head) _ (ap (λ z. z == k.head) (sym same) ∙ eqb_self k.head)))
        second m ms order s (inr a) = a

        by : (qs : List ℕ) → members ≡ k.head ∷ qs → (s : ℕ) × (among s inner ≡ true)
        by [] order =
            let many : 2 ≤ length members = may.several in
            let one : length members ≡ 1 = ap length order in absurd (omega arith)
        by (m ∷ ms) order =
            let a : among m members ≡ true = ap (among m) order ∙ or_right (k.head == m) _ (is_among m ms) in
            let (p, is, streams) = named (λ p. is_streaming p.kind) (slice_get catalog.procedures m) (may.streaming m a) in
            let (s, takes) = input_of catalog accepted m p is streams in
            (s, second m ms order s (head_or_inside catalog accepted members may are.plain k.head k.first k.at_head k.first_is m a s (takes_is catalog accepted m p is s ∙ takes)))

    member_size : (q : ℕ) → among q members ≡ true → sum_by step_size (moved_body reads inner (slice_get catalog.procedures q)) ≤ 32
    member_size q a =
        let (p, is, streams) = named (λ p. is_streaming p.kind) (slice_get catalog.procedures q) (may.streaming q a) in
        let own : nat_le (sum (map step_size p.body)) 32 ≡ true = subst (λ z. body_within_limit z p.body ≡ true) (are.plain q p is).0 (bodies_in catalog accepted q p is).size in
        let few : sum (map step_size p.body) ≤ 32 = leb-true _ _ own in
        let total : sum (map step_size p.body) ≡ sum_by step_size p.body = sum-map step_size p.body in
        let moved : sum_by step_size (map (moved_step (moved_input reads p.inputs) inner) p.body) ≡ sum_by step_size p.body = sizes_moved (moved_input reads p.inputs) inner p.body in
        subst (λ o. sum_by step_size (moved_body reads inner o) ≤ 32) (sym is) (omega arith)

    nest_size : body_within_limit inner made.body ≡ true
    nest_size =
        let (s, a) = some_inner in
        let most : sum_by step_size made.body ≤ length members * 32 = joined_size (λ q. moved_body reads inner (slice_get catalog.procedures q)) members member_size in
        let few : length members ≤ 8 = may.few in
        let total : sum (map step_size made.body) ≡ sum_by step_size made.body = sum-map step_size made.body in
        with_inner inner s (sum (map step_size made.body)) a (omega arith)

    member_kind : (q : ℕ) → among q members ≡ true → list_all (step_of_kind Border) (moved_body reads inner (slice_get catalog.procedures q)) ≡ true
    member_kind q a =
        let (p, is, streams) = named (λ p. is_streaming p.kind) (slice_get catalog.procedures q) (may.streaming q a) in
        ap (λ o. list_all (step_of_kind Border) (moved_body reads inner o)) is
        ∙ all_mapped (step_of_kind Border) (moved_step (moved_input reads p.inputs) inner) (step_of_kind Border) (border_moved (moved_input reads p.inputs) inner) p.body
        (sym (streaming_body p.kind p.body streams) ∙ own_steps catalog accepted q p is)

    nest_kind : list_all (step_of_kind (k.first).kind) made.body ≡ true
    nest_kind =
        let streams : is_streaming (k.first).kind ≡ true = streams_of catalog accepted members may are.plain k.head k.first k.at_head k.first_is k.head k.first k.first_is (head_among members k.head k.at_head) in
        streaming_body (k.first).kind made.body streams
        ∙ all_joined (step_of_kind Border) (λ q. moved_body reads inner (slice_get catalog.procedures q)) members member_kind

    nest_body : AcceptedBody nested (nested_number nests k.head) made made.body
    nest_body =
        let uses = nest_uses catalog accepted nests text are k in
        record {
          kind = nest_kind;
          size = nest_size;
          typed = nest_typed catalog accepted nests text are k;
          in_scope = nest_in_scope catalog accepted nests text are k;
          local = uses.local;
          limited = uses.limited;
          emits = λ s. refl;
          adds = λ s. refl;
        }

  -- ---- all of them

  pub own_bodies : OwnBodies nested
  own_bodies n made is = by (standing catalog nests text are n made is)
    where
      by : Standing catalog nests text are n made → AcceptedBody nested n made made.body
      by (by_itself q stood out number) = subst (λ z. AcceptedBody nested z made made.body) number (body_stays q made out made.body (bodies_in catalog accepted q made stood))
      by (as_nest k made_is number) =
          subst (λ z. AcceptedBody nested z made made.body) number (subst (λ (p : Procedure). AcceptedBody nested (nested_number nests k.head) p p.body) made_is (nest_body k))

  pub other_bodies : OtherBodies nested
  other_bodies n made is = by (standing catalog nests text are n made is)
    where
      by : Standing catalog nests text are n made → AcceptedSpares nested n made
      by (by_itself q stood out number) =
          subst (λ z. AcceptedSpares nested z made) number
          (subst (AllByRecursion (λ (b : Body). AcceptedBody nested (nested_number nests q) made b.steps)) (sym (spares_stay catalog nests text are q out))
          (all_with (λ (b : Body). AcceptedBody catalog q made b.steps) (λ (b : Body). AcceptedBody nested (nested_number nests q) made b.steps) (λ b h. body_stays q made out b.steps h) (spare_bodies catalog q) (accepted.spares q made stood)))
      by (as_nest k made_is number) =
          subst (λ z. AcceptedSpares nested z made) number
          (subst (AllByRecursion (λ (b : Body). AcceptedBody nested (nested_number nests k.head) made b.steps)) (sym (no_spares catalog nests text are k)) tt)
