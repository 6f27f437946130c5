-- An accepted catalogue with other bodies is accepted.
use Rattle.std.proofs.Common.{◌≡◌, ◌==◌, ℕ, zero, suc, Bool, true, cond, ◌&&◌, ◌||◌, nat_le, nat_lt, ◌⊎◌, inl, inr, List, [], ◌∷◌, map, get_or, length, slice_get, refl, sym, ap, ◌∙◌, subst, Some, None, unwrap_or}
use Rattle.std.specs.Option.{option_map}
use Rattle.std.specs.declared.option.Option.{Option}
use Rattle.std.specs.List.{find, list_all, list_any, range_with_len}
use Rattle.ss_value.specs.Rows.{Row}
use Rattle.ss_model.specs.declared.catalog.Body.{Body}
use Rattle.ss_model.specs.declared.catalog.Catalog.{Catalog}
use Rattle.ss_model.specs.declared.catalog.Procedure.{Procedure}
use Rattle.ss_model.specs.declared.catalog.Step.{Step}
use Rattle.ss_model.specs.Results.{map_indexed}
use Rattle.ss_model.specs.Database.{emits_to, adds_to, is_streaming, is_border, is_border_stream, is_inner_stream, takes_stream, streams_read, with_body, spare_bodies}
use Rattle.ss_model.specs.Orders.{IsWired, procedure_emits, procedure_has, procedure_takes}
use Rattle.ss_model.specs.Claims.{UsesOnly}
use Rattle.ss_model.specs.Partitions.{local_claims}
use Rattle.ss_model.specs.Settling.{border_stream, border_stream_from, first_input, emitting_procedure, procedure_numbers}
use Rattle.ss_model.specs.Feeds.{Reaches, at_once, through, BatchesGoForward}
use Rattle.ss_model.specs.CatalogForm.{has_frame, head_of_kind, has_distinct_names, numbers_in_range, counts_within_limits, has_window_sizes, has_distinct_numbers, has_parts, all_distinct, source_names, columns_distinct, numbers_distinct, listed_parts, touch_in_range, trigger_in_range, placement_in_range}
use Rattle.ss_model.specs.Accepted.{Accepted, AcceptedStructure, InnerStreams, IsArg, IsSomewhere, StreamsEndWell, procedure_adds, procedure_nests}
use Rattle.ss_model.specs.AcceptedBodies.{with_bodies, AcceptedBodies, AcceptedFrame, OwnBodies, BodiesMayChange, OtherBodies}
use Rattle.ss_lemmas.proofs.Bools.{some_same}
use Rattle.ss_model_laws.proofs.AcceptedBodies.{in_parts, joined}
use Rattle.ss_model.specs.Spares.{AcceptedBody, AcceptedSpares}
use Rattle.ss_lemmas.proofs.EachOf.{all_with}

-- ---- lists of procedures with other bodies

abbrev pub changed : (ℕ → List Step) → List Procedure → List Procedure
changed bodies = map_indexed (λ q p. with_body (bodies q) p)

-- what reads no body
abbrev pub Blind : {B : Type 0} → (Procedure → B) → Type 0
Blind f = (body : List Step) (p : Procedure) → f (with_body body p) ≡ f p

mapped : {B : Type 0} (f : Procedure → B) → Blind f → (bodies : ℕ → List Step) (ps : List Procedure) → map f (changed bodies ps) ≡ map f ps
mapped f blind bodies [] = refl
mapped f blind bodies (p ∷ ps) = λ i. blind (bodies 0) p i ∷ mapped f blind (λ q. bodies (suc q)) ps i

all_same : (test : Procedure → Bool) → Blind test → (bodies : ℕ → List Step) (ps : List Procedure) → list_all test (changed bodies ps) ≡ list_all test ps
all_same test blind bodies [] = refl
all_same test blind bodies (p ∷ ps) = λ i. blind (bodies 0) p i && all_same test blind (λ q. bodies (suc q)) ps i

any_same : (test : Procedure → Bool) → Blind test → (bodies : ℕ → List Step) (ps : List Procedure) → list_any test (changed bodies ps) ≡ list_any test ps
any_same test blind bodies [] = refl
any_same test blind bodies (p ∷ ps) = λ i. blind (bodies 0) p i || any_same test blind (λ q. bodies (suc q)) ps i

pub length_same : (bodies : ℕ → List Step) (ps : List Procedure) → length (changed bodies ps) ≡ length ps
length_same bodies [] = refl
length_same bodies (p ∷ ps) = ap suc (length_same (λ q. bodies (suc q)) ps)

pub at_number : (bodies : ℕ → List Step) (ps : List Procedure) (q : ℕ) → slice_get (changed bodies ps) q ≡ option_map (with_body (bodies q)) (slice_get ps q)
at_number bodies [] q = refl
at_number bodies (p ∷ ps) zero = refl
at_number bodies (p ∷ ps) (suc q) = at_number (λ q. bodies (suc q)) ps q

module _ (catalog : Catalog) (bodies : ℕ → List Step) where
  abbrev other : Catalog
  other = with_bodies catalog bodies

  -- a procedure of the changed catalogue is one of the catalogue with another body
  pub record Changed (q : ℕ) (p : Procedure) : Type 0 where
    pub was : Procedure
    pub stood : slice_get catalog.procedures q ≡ Some was
    pub is : with_body (bodies q) was ≡ p

  pub was_there : (q : ℕ) (p : Procedure) → slice_get other.procedures q ≡ Some p → Changed q p
  was_there q p is = by (slice_get catalog.procedures q) refl (sym (at_number bodies catalog.procedures q) ∙ is)
    where
      by : (o : Option Procedure) → slice_get catalog.procedures q ≡ o → option_map (with_body (bodies q)) o ≡ Some p → Changed q p
      by None e f = cc
      by (Some d) e f = record { was = d; stood = e; is = some_same _ _ f }

  pub has_same : (test : Procedure → Bool) → Blind test → (q : ℕ) → procedure_has test (slice_get other.procedures q) ≡ procedure_has test (slice_get catalog.procedures q)
  has_same test blind q = ap (procedure_has test) (at_number bodies catalog.procedures q) ∙ by (slice_get catalog.procedures q)
    where
      by : (o : Option Procedure) → procedure_has test (option_map (with_body (bodies q)) o) ≡ procedure_has test o
      by None = refl
      by (Some p) = blind (bodies q) p

  pub takes_same : (q s : ℕ) → procedure_takes other q s ≡ procedure_takes catalog q s
  takes_same q s = has_same (takes_stream s) (λ body p. refl) q

  pub border_same : (s : ℕ) → is_border_stream other s ≡ is_border_stream catalog s
  border_same s = any_same (λ p. is_border p.kind && takes_stream s p) (λ body p. refl) bodies catalog.procedures

  pub inner_same : (s : ℕ) → is_inner_stream other s ≡ is_inner_stream catalog s
  inner_same s = any_same (λ p. list_any (λ i. i == s) p.inner) (λ body p. refl) bodies catalog.procedures

  pub nests_same : (p s : ℕ) → procedure_nests other p s ≡ procedure_nests catalog p s
  nests_same p s = has_same (λ d. list_any (λ i. i == s) d.inner) (λ body p. refl) p

  -- ---- the form

  frame_same : has_frame other ≡ has_frame catalog
  frame_same = λ i. names i && ranges i && limits i && has_window_sizes catalog && numbers i && has_parts catalog && all_same head_of_kind (λ body p. refl) bodies catalog.procedures i
    where
      names : has_distinct_names other ≡ has_distinct_names catalog
      names = λ i.
          all_distinct (source_names catalog) && all_distinct (map (λ d. d.name) catalog.triggers) && all_distinct (mapped (λ d. d.name) (λ body p. refl) bodies catalog.procedures i)
          && list_all (λ d. columns_distinct d.schema) catalog.tables && list_all (λ d. columns_distinct d.schema) catalog.streams
          && list_all (λ d. columns_distinct d.schema) catalog.windows && all_same (λ p. columns_distinct p.args) (λ body p. refl) bodies catalog.procedures i

      ranges : numbers_in_range other ≡ numbers_in_range catalog
      ranges = λ i.
          list_all (λ d. list_all (λ c. nat_lt c (length d.schema)) d.key) catalog.tables
          && list_all (λ d. list_all (list_all (λ c. nat_lt c (length d.schema))) d.indexes && placement_in_range d d.placement) catalog.tables
          && list_all (λ d. nat_lt d.owner (length_same bodies catalog.procedures i)) catalog.windows
          && list_all (λ t. trigger_in_range catalog t.on) catalog.triggers
          && all_same (λ p. list_all (λ s. nat_lt s (length catalog.streams)) (streams_read p) && touch_in_range p.args p.touch) (λ body p. refl) bodies catalog.procedures i

      limits : counts_within_limits other ≡ counts_within_limits catalog
      limits = λ i.
          nat_le (length catalog.tables) 64 && nat_le (length catalog.streams) 32 && nat_le (length catalog.windows) 32
          && nat_le (length catalog.triggers) 64 && nat_le (length_same bodies catalog.procedures i) 64
          && list_all (λ d. nat_le (length d.schema) 16) catalog.tables && list_all (λ d. nat_le (length d.schema) 16) catalog.streams
          && list_all (λ d. nat_le (length d.schema) 16) catalog.windows && all_same (λ p. nat_le (length p.args) 16) (λ body p. refl) bodies catalog.procedures i
          && all_same (λ p. nat_le (length p.inputs) 8) (λ body p. refl) bodies catalog.procedures i && list_all (λ t. nat_le (length t.statements) 8) catalog.triggers

      numbers : has_distinct_numbers other ≡ has_distinct_numbers catalog
      numbers = λ i.
          list_all (λ d. numbers_distinct d.key && list_all numbers_distinct d.indexes) catalog.tables
          && all_same (λ p. numbers_distinct (streams_read p) && numbers_distinct (listed_parts p.touch)) (λ body p. refl) bodies catalog.procedures i

  -- ---- windows

  reaches_back : (n m : ℕ) → Reaches other n m → Reaches catalog n m
  reaches_back n m (at_once e) = at_once e
  reaches_back n m (through {m = k} e r) = through {m = k} e (reaches_back k m r)

  forward : BatchesGoForward catalog → BatchesGoForward other
  forward h n m b c r = h n m b c (reaches_back n m r)

  module _ (accepted : AcceptedBodies catalog bodies) where
    -- ---- workflows

    pub emits_same : (p s : ℕ) → procedure_emits other p s ≡ procedure_emits catalog p s
    emits_same p s = ap (procedure_has (λ d. list_any (emits_to s) d.body)) (at_number bodies catalog.procedures p) ∙ by (slice_get catalog.procedures p) refl
      where
        by : (o : Option Procedure) → slice_get catalog.procedures p ≡ o → procedure_has (λ d. list_any (emits_to s) d.body) (option_map (with_body (bodies p)) o) ≡ procedure_has (λ d. list_any (emits_to s) d.body) o
        by None e = refl
        by (Some d) e = (accepted p d e).emits s

    adds_same : (p s : ℕ) → procedure_adds other p s ≡ procedure_adds catalog p s
    adds_same p s = ap (procedure_has (λ d. list_any (adds_to s) d.body)) (at_number bodies catalog.procedures p) ∙ by (slice_get catalog.procedures p) refl
      where
        by : (o : Option Procedure) → slice_get catalog.procedures p ≡ o → procedure_has (λ d. list_any (adds_to s) d.body) (option_map (with_body (bodies p)) o) ≡ procedure_has (λ d. list_any (adds_to s) d.body) o
        by None e = refl
        by (Some d) e = (accepted p d e).adds s

    pub emitter_same : (s : ℕ) → emitting_procedure other s ≡ emitting_procedure catalog s
    emitter_same s =
        (λ i. unwrap_or (find (λ p. emits_same p s i) (procedure_numbers other)) 0)
        ∙ (λ i. unwrap_or (find (λ p. procedure_emits catalog p s) (range_with_len 0 (length_same bodies catalog.procedures i))) 0)

    first_same : (q : ℕ) → first_input other q ≡ first_input catalog q
    first_same q = ap (λ o. unwrap_or (option_map (λ p. get_or p.inputs 0 0) o) 0) (at_number bodies catalog.procedures q) ∙ by (slice_get catalog.procedures q)
      where
        by : (o : Option Procedure) → unwrap_or (option_map (λ p. get_or p.inputs 0 0) (option_map (with_body (bodies q)) o)) 0 ≡ unwrap_or (option_map (λ p. get_or p.inputs 0 0) o) 0
        by None = refl
        by (Some p) = refl

    border_from_same : (depth q : ℕ) → border_stream_from depth other q ≡ border_stream_from depth catalog q
    border_from_same zero q = first_same q
    border_from_same (suc depth) q =
        let up : border_stream_from depth other (emitting_procedure other (first_input other q)) ≡ border_stream_from depth catalog (emitting_procedure catalog (first_input catalog q)) =
        border_from_same depth (emitting_procedure other (first_input other q)) ∙ ap (border_stream_from depth catalog) (emitter_same (first_input other q) ∙ ap (emitting_procedure catalog) (first_same q)) in
        λ i. cond (has_same (λ p. is_border p.kind) (λ body p. refl) q i) (first_same q i) (up i)

    pub stream_same : (q : ℕ) → border_stream other q ≡ border_stream catalog q
    stream_same q = ap (λ n. border_stream_from n other q) (length_same bodies catalog.procedures) ∙ border_from_same (length catalog.procedures) q

    pub emits_back : (p s : ℕ) → procedure_emits other p s ≡ true → procedure_emits catalog p s ≡ true
    emits_back p s e = sym (emits_same p s) ∙ e

    pub takes_back : (q s : ℕ) → procedure_takes other q s ≡ true → procedure_takes catalog q s ≡ true
    takes_back q s e = sym (takes_same q s) ∙ e

    border_back : (s : ℕ) → is_border_stream other s ≡ true → is_border_stream catalog s ≡ true
    border_back s e = sym (border_same s) ∙ e

    wired : IsWired catalog → IsWired other
    wired w = record {
      one_emitter = λ p q s e f. w.one_emitter p q s (emits_back p s e) (emits_back q s f);
      border_free = λ p s b e. w.border_free p s (border_back s b) (emits_back p s e);
      emits_there = λ p s e. w.emits_there p s (emits_back p s e);
      border_there = λ s b. w.border_there s (border_back s b);
    }

    inner_streams : InnerStreams catalog → InnerStreams other
    inner_streams k = record {
      filled = λ p s. nests_same p s ∙ k.filled p s ∙ sym (adds_same p s);
      one_nest = λ p q s e f. k.one_nest p q s (sym (nests_same p s) ∙ e) (sym (nests_same q s) ∙ f);
      not_emitted = λ p s e. emits_same p s ∙ k.not_emitted p s (sym (inner_same s) ∙ e);
      not_taken = λ q s e. takes_same q s ∙ k.not_taken q s (sym (inner_same s) ∙ e);
    }

    -- ---- the frame

    streams : StreamsEndWell catalog → StreamsEndWell other
    streams k = record {
      wired = wired k.wired;
      inner = inner_streams k.inner;
      fed = λ s l apart. fed s (k.fed s l (sym (inner_same s) ∙ apart));
      taken = λ p s e. let (q, t) = k.taken p s (emits_back p s e) in (q, takes_same q s ∙ t);
      one_consumer = λ p q s b t u. k.one_consumer p q s (border_back s b) (takes_back p s t) (takes_back q s u);
      no_trigger = λ s b. k.no_trigger s (border_back s b);
      one_workflow = λ p q s t e. stream_same p ∙ k.one_workflow p q s (takes_back q s t) (emits_back p s e) ∙ sym (stream_same q);
    }
      where
        fed : (s : ℕ) → (is_border_stream catalog s ≡ true) ⊎ ((p : ℕ) × (procedure_emits catalog p s ≡ true)) → (is_border_stream other s ≡ true) ⊎ ((p : ℕ) × (procedure_emits other p s ≡ true))
        fed s (inl b) = inl (border_same s ∙ b)
        fed s (inr (p, e)) = inr (p, emits_same p s ∙ e)

    structure : AcceptedStructure catalog → AcceptedStructure other
    structure k = record {
      no_arg = λ q p is. let b = was_there q p is in subst (λ (z : Procedure). is_streaming z.kind ≡ true → IsArg z.touch → ⊥) b.is (k.no_arg q b.was b.stood);
      somewhere = λ q p is. let b = was_there q p is in subst (λ (z : Procedure). IsSomewhere z.touch) b.is (k.somewhere q b.was b.stood);
      keyed = k.keyed;
      owned = λ w q o. has_same (λ p. is_streaming p.kind) (λ body p. refl) q ∙ k.owned w q o;
      streams = streams k.streams;
      levels = record { level = k.levels.level; level_rises = λ p q s e t. k.levels.level_rises p q s (emits_back p s e) (takes_back q s t) };
      ranks = record { rank = k.ranks.rank; ranked = k.ranks.ranked; rank_within = k.ranks.rank_within };
      batches_forward = forward k.batches_forward;
    }

    frame : AcceptedFrame catalog → AcceptedFrame other
    frame f = record { form = frame_same ∙ f.form; triggers_typed = f.triggers_typed; triggers_in_scope = f.triggers_in_scope; structure = structure f.structure }

    -- ---- the bodies

    uses_there : (q : ℕ) (p : Procedure) (args : Row) (body own : List Step) → UsesOnly (local_claims catalog q p) catalog q args (with_body body p) → UsesOnly (local_claims other q (with_body own p)) other q args (with_body body p)
    uses_there q p args body own k = record { steps = k.steps; owned = k.owned; triggers = k.triggers }

    uses_back : (q : ℕ) (p : Procedure) (args : Row) (body own : List Step) → UsesOnly (local_claims other q (with_body own p)) other q args (with_body body p) → UsesOnly (local_claims catalog q p) catalog q args (with_body body p)
    uses_back q p args body own k = record { steps = k.steps; owned = k.owned; triggers = k.triggers }

    body_there : (q : ℕ) (p : Procedure) → slice_get catalog.procedures q ≡ Some p → (body : List Step) → AcceptedBody catalog q p body → AcceptedBody other q (with_body (bodies q) p) body
    body_there q p is body k = record {
      kind = k.kind;
      size = k.size;
      typed = k.typed;
      in_scope = k.in_scope;
      local = λ args. uses_there q p args body (bodies q) (k.local args);
      limited = k.limited;
      emits = λ s. k.emits s ∙ sym ((accepted q p is).emits s);
      adds = λ s. k.adds s ∙ sym ((accepted q p is).adds s);
    }

    body_back : (q : ℕ) (p : Procedure) → slice_get catalog.procedures q ≡ Some p → (body : List Step) → AcceptedBody other q (with_body (bodies q) p) body → AcceptedBody catalog q p body
    body_back q p is body k = record {
      kind = k.kind;
      size = k.size;
      typed = k.typed;
      in_scope = k.in_scope;
      local = λ args. uses_back q p args body (bodies q) (k.local args);
      limited = k.limited;
      emits = λ s. k.emits s ∙ (accepted q p is).emits s;
      adds = λ s. k.adds s ∙ (accepted q p is).adds s;
    }

    own_bodies : OwnBodies other
    own_bodies q p is =
        let k = was_there q p is in
        subst (λ (z : Procedure). AcceptedBody other q z z.body) k.is (body_there q k.was k.stood (bodies q) (accepted q k.was k.stood))

    other_bodies : OtherBodies catalog → OtherBodies other
    other_bodies o q p is =
        let k = was_there q p is in
        subst (λ (z : Procedure). AcceptedSpares other q z) k.is
        (all_with (λ (b : Body). AcceptedBody catalog q k.was b.steps) (λ (b : Body). AcceptedBody other q (with_body (bodies q) k.was) b.steps) (λ b s. body_there q k.was k.stood b.steps s) (spare_bodies catalog q) (o q k.was k.stood))

    pub may_change : Accepted catalog → BodiesMayChange catalog bodies
    may_change a = record {
      accepted = joined other (frame ((in_parts catalog).0 a).0) own_bodies (other_bodies a.spares);
      same = λ q p is body. (body_back q p is body, body_there q p is body);
    }
