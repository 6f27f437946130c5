-- A value has one answer: it reads as one catalogue, or it has one refusal, out of memory aside.
use Rattle.std.proofs.Common.{◌≡◌, ◌⊎◌, ℕ, List, true, false, Option, Some, None, refl, sym, ap, subst, ◌∙◌, inl, inr}
use Rattle.std.specs.Prelude.{◌++◌, codes}
use Rattle.std.proofs.lemmas.Bool.{both_ways}
use Rattle.serde_json.specs.Data.{Data}
use Rattle.ss_model.specs.declared.catalog.Catalog.{Catalog}
use Rattle.ss_catalog_outline.specs.declared.types.Outline.{Outline}
use Rattle.ss_catalog_outline.specs.Outlines.{read_outline}
use Rattle.ss_catalog_outline.specs.Twice.{name_twice}
use Rattle.ss_catalog_outline.specs.Unknown.{name_unknown}
use Rattle.ss_catalog_outline.specs.Limits.{is_too_many_to_number, over_limit}
use Rattle.ss_catalog_resolve.specs.declared.fault.SqlSite.{SqlSite}
use Rattle.ss_catalog_resolve.specs.Bodies.{Resolves, FaultAt}
use Rattle.ss_catalog_checks.specs.Firsts.{IsFirst}
use Rattle.ss_catalog_checks.specs.Workflows.{IsOnCycle}
use Rattle.ss_catalog_checks.specs.Cascades.{IsOnTriggerCycle}
use Rattle.ss_catalog_checks.specs.declared.locality.Site.{Site}
use Rattle.ss_catalog_checks.specs.declared.locality.Site.TheVariants.{Step as StepSite, Statement as StatementSite}
use Rattle.ss_catalog_checks.specs.Localities.{refused_step, refused_statement, IsFirstSite}
use Rattle.ss_catalog_checks.specs.StreamEnds.{refused_stream}
use Rattle.ss_catalog_checks.specs.Owners.{refused_window}
use Rattle.ss_catalog.specs.declared.error.CatalogError.{CatalogError}
use Rattle.ss_catalog.specs.declared.error.CatalogError.TheVariants.{NoMemory, Shape, Twice, Unknown, SqlFault, WorkflowCycle, TriggerCycle, LocalityBroken, StreamEnds, WindowOwner, Limit}
use Rattle.ss_catalog.specs.Checks.{IsShaped, HasDistinctNames, HasKnownNames, IsNumbered, IsResolved, HasAcyclicWorkflows, HasAcyclicTriggers, IsLocal, HasRightEnds, HasRightOwners, procedure_name, trigger_name, stream_name, window_name, site_name, site_number}
use Rattle.ss_catalog.specs.Reads.{IsMisshapen, HasTwice, HasUnknown, IsTooMany, HasWorkflowCycle, HasTriggerCycle, HasBadEnds, HasBadOwner, IsOverLimit, Refuses}
use Rattle.ss_catalog.specs.Answers.{HasOneCatalog, IsReadOrRefused, HasOneRefusal}
use Rattle.ss_catalog.proofs.OneAnswer.{ok_same, err_same, ok_or_err}
use Rattle.ss_catalog.proofs.Texts.{SqlLaws, some_same}
use Rattle.ss_catalog.proofs.Resolved.{resolved_same, resolved_or_faulty, fault_same}
use Rattle.ss_catalog.proofs.Kept.{IsSameCatalog, with_texts, same_with_texts, kept, cycle_kept, trigger_cycle_kept, site_kept, stream_kept, window_kept}
use Rattle.ss_catalog.proofs.InTurn.{IsOnce, Reported, InTurn, one_check, and_then, none_or_some, none_with, first_once, first_with_once, first_kept, OfCatalog, Comes, Finding, catalog_check}

-- ---- what a value reads as

-- what passes all checks resolves
pub resolved_of : (d : Data) (o : Outline) (c : Catalog) → HasRightOwners d o c → IsResolved d o c
resolved_of d o c passes = passes.0.0.0.0.0

-- what resolves is the outline of its value
pub shape_of : (d : Data) (o : Outline) (c : Catalog) → IsResolved d o c → IsShaped d o
shape_of d o c resolved = resolved.0.0.0.0

-- a value has one outline
same_outline : (d : Data) (o p : Outline) → IsShaped d o → IsShaped d p → o ≡ p
same_outline d o p h k = ok_same (read_outline d) o p h k

-- and resolves to one catalogue, but for its texts
pub same_catalog : SqlLaws → (d : Data) (o p : Outline) (a b : Catalog) → IsResolved d o a → IsResolved d p b → IsSameCatalog a b
same_catalog laws d o p a b h k = resolved_same laws p a b (subst (λ (x : Outline). Resolves x a) (same_outline d o p (shape_of d o a h) (shape_of d p b k)) h.1) k.1

pub one_catalog : SqlLaws → HasOneCatalog
one_catalog laws d a b h k =
    let same = same_catalog laws d h.outline k.outline a b (resolved_of d h.outline a h.passes) (resolved_of d k.outline b k.passes) in
    same_with_texts a b same (h.text ∙ sym k.text) (h.own_texts ∙ sym k.own_texts)

-- ---- what the checks of a catalogue find

-- the same, the other way round
same_back : (a b : Catalog) → IsSameCatalog a b → IsSameCatalog b a
same_back a b h = record { tables = sym h.tables; streams = sym h.streams; windows = sym h.windows; triggers = sym h.triggers; procedures = sym h.procedures; spares = sym h.spares }

abbrev FirstCycle : Catalog → Option ℕ → Type 0
FirstCycle c = IsFirst (IsOnCycle c)

abbrev FirstTriggerCycle : Catalog → Option ℕ → Type 0
FirstTriggerCycle c = IsFirst (IsOnTriggerCycle c)

cycles_found : OfCatalog FirstCycle
cycles_found = record {
  kept = λ a b x same. first_kept (IsOnCycle a) (IsOnCycle b) (λ n. cycle_kept a b n same) (λ n. cycle_kept b a n (same_back a b same)) x;
  once = λ c. first_once (IsOnCycle c);
  none = λ c n h k. h n k.0;
}

trigger_cycles_found : OfCatalog FirstTriggerCycle
trigger_cycles_found = record {
  kept = λ a b x same. first_kept (IsOnTriggerCycle a) (IsOnTriggerCycle b) (λ n. trigger_cycle_kept a b n same) (λ n. trigger_cycle_kept b a n (same_back a b same)) x;
  once = λ c. first_once (IsOnTriggerCycle c);
  none = λ c n h k. h n k.0;
}

one_site : (c : Catalog) → IsOnce (λ (site : Site). IsFirstSite c (Some site))
one_site c (StepSite q n) (StepSite r m) h k = λ i. let at = first_with_once (refused_step c) (q, n) (r, m) h k i in StepSite at.0 at.1
one_site c (StepSite q n) (StatementSite t m) h k = absurd (none_with (refused_step c) (q, n) k.0 h)
one_site c (StatementSite t n) (StepSite q m) h k = absurd (none_with (refused_step c) (q, m) h.0 k)
one_site c (StatementSite t n) (StatementSite u m) h k = λ i. let at = first_with_once (refused_statement c) (t, n) (u, m) h.1 k.1 i in StatementSite at.0 at.1

no_site : (c : Catalog) (site : Site) → IsFirstSite c None → IsFirstSite c (Some site) → ⊥
no_site c (StepSite q n) h k = none_with (refused_step c) (q, n) h.0 k
no_site c (StatementSite t n) h k = none_with (refused_statement c) (t, n) h.1 k.1

sites_found : OfCatalog IsFirstSite
sites_found = record { kept = site_kept; once = one_site; none = no_site }

abbrev FirstStream : Catalog → Option ℕ → Type 0
FirstStream c s = refused_stream c ≡ s

abbrev FirstWindow : Catalog → Option ℕ → Type 0
FirstWindow c w = refused_window c ≡ w

streams_found : OfCatalog FirstStream
streams_found = record { kept = stream_kept; once = λ c. some_same (refused_stream c); none = λ c. none_or_some (refused_stream c) }

windows_found : OfCatalog FirstWindow
windows_found = record { kept = window_kept; once = λ c. some_same (refused_window c); none = λ c. none_or_some (refused_window c) }

-- so the same catalogue passes the same checks
resolves_kept : (o : Outline) (a b : Catalog) → IsSameCatalog a b → Resolves o a → Resolves o b
resolves_kept o a b = kept (λ (c : Catalog). Resolves o c) (λ (c : Catalog) (text : List ℕ) (own : List (List ℕ)) h. record {
  tables = h.tables;
  streams = h.streams;
  windows = h.windows;
  procedures = h.procedures;
  triggers = h.triggers;
  spares = h.spares;
}) a b

pub passes_same : (d : Data) (o : Outline) (a b : Catalog) → IsSameCatalog a b → HasRightOwners d o a → HasRightOwners d o b
passes_same d o a b same h =
    let ends = h.0 in
    let is_local = ends.0 in
    let cascades = is_local.0 in
    let workflows = cascades.0 in
    let resolved = workflows.0 in (
      (
        (
          (((resolved.0, resolves_kept o a b same resolved.1), cycles_found.kept a b None same workflows.1), trigger_cycles_found.kept a b None same cascades.1),
          sites_found.kept a b None same is_local.1,
        ),
        streams_found.kept a b None same ends.1,
      ),
      windows_found.kept a b None same h.1,
    )

-- ---- what is reported of it

abbrev site_reported : Catalog → Site → List ℕ × ℕ
site_reported c site = (site_name c site, site_number site)

-- nothing that is reported depends on the texts
reported_kept : {X A : Type 0} (name : Catalog → X → A) → ((c : Catalog) (text : List ℕ) (own : List (List ℕ)) (x : X) → name c x ≡ name (with_texts c text own) x) → (a b : Catalog) (x : X) → IsSameCatalog a b → name a x ≡ name b x
reported_kept name free a b x same = kept (λ (c : Catalog). name a x ≡ name c x) (λ (c : Catalog) (text : List ℕ) (own : List (List ℕ)) h. h ∙ free c text own x) a b same refl

abbrev report_sql : SqlSite → CatalogError
report_sql site = SqlFault site.name site.number site.fault

abbrev report_site : List ℕ × ℕ → CatalogError
report_site at = LocalityBroken at.0 at.1

-- ---- the checks, one after another

module _ (d : Data) where
  -- a value comes so far with some outline
  abbrev ComesWith : (Outline → Type 0) → Type 0
  ComesWith Stage = (o : Outline) × Stage o

  -- it passes all checks
  abbrev Passes : Type 0
  Passes = Comes (λ (o : Outline) (c : Catalog). HasRightOwners d o c × (over_limit o ≡ None))

  -- its SQL has this first fault
  abbrev HasFault : SqlSite → Type 0
  HasFault site = (o : Outline) × IsNumbered d o × FaultAt o site

  abbrev BreaksAt : List ℕ × ℕ → Type 0
  BreaksAt = Finding (HasAcyclicTriggers d) IsFirstSite site_reported

  -- what each check reports, in order
  abbrev CountTold : CatalogError → Type 0
  CountTold = Reported Limit (IsOverLimit d)

  abbrev CatalogTold : CatalogError → Type 0
  CatalogTold e =
      Reported WorkflowCycle (HasWorkflowCycle d) e ⊎ (Reported TriggerCycle (HasTriggerCycle d) e ⊎ (Reported report_site BreaksAt e
      ⊎ (Reported StreamEnds (HasBadEnds d) e ⊎ (Reported WindowOwner (HasBadOwner d) e ⊎ CountTold e))))

  abbrev AnyTold : CatalogError → Type 0
  AnyTold e =
      Reported Shape (IsMisshapen d) e ⊎ (Reported Twice (HasTwice d) e ⊎ (Reported Unknown (HasUnknown d) e
      ⊎ (Reported Limit (IsTooMany d) e ⊎ (Reported report_sql HasFault e ⊎ CatalogTold e))))

  -- ---- of the outline

  -- what one outline of the value has, each has
  found_same : {A : Type 0} (f : Outline → Option A) (o p : Outline) (a b : A) → IsShaped d o → IsShaped d p → f o ≡ Some a → f p ≡ Some b → a ≡ b
  found_same f o p a b h k here there = some_same (f p) a b (subst (λ (x : Outline). f x ≡ Some a) (same_outline d o p h k) here) there

  not_there : {A : Type 0} (f : Outline → Option A) (o p : Outline) (a : A) → IsShaped d o → IsShaped d p → f o ≡ Some a → f p ≡ None → ⊥
  not_there f o p a h k some none = none_or_some (f p) a none (subst (λ (x : Outline). f x ≡ Some a) (same_outline d o p h k) some)

  misshapen_once : IsOnce (IsMisshapen d)
  misshapen_once a b h k = h.2 ∙ ap (λ (way : List ℕ). codes "$" ++ way) (err_same (read_outline d) h.0 k.0 h.1 k.1) ∙ sym k.2

  shapes : InTurn (Unit {0}) (ComesWith (IsShaped d)) (Reported Shape (IsMisshapen d))
  shapes = one_check Shape (IsMisshapen d) (λ path h. tt) (λ k. tt) misshapen_once (λ path h k. ok_or_err (read_outline d) k.0 h.0 k.1 h.1)

  names_once : InTurn (ComesWith (IsShaped d)) (ComesWith (HasDistinctNames d)) (Reported Twice (HasTwice d))
  names_once = one_check Twice (HasTwice d) (λ name h. (h.0, h.1)) (λ k. (k.0, k.1.0))
      (λ a b h k. found_same name_twice h.0 k.0 a b h.1 k.1 h.2 k.2) (λ a h k. not_there name_twice h.0 k.0 a h.1 k.1.0 h.2 k.1.1)

  names_known : InTurn (ComesWith (HasDistinctNames d)) (ComesWith (HasKnownNames d)) (Reported Unknown (HasUnknown d))
  names_known = one_check Unknown (HasUnknown d) (λ name h. (h.0, h.1)) (λ k. (k.0, k.1.0))
      (λ a b h k. found_same name_unknown h.0 k.0 a b h.1.0 k.1.0 h.2 k.2) (λ a h k. not_there name_unknown h.0 k.0 a h.1.0 k.1.0.0 h.2 k.1.1)

  too_many_or_not : (o p : Outline) → IsShaped d o → IsShaped d p → is_too_many_to_number o ≡ true → is_too_many_to_number p ≡ false → ⊥
  too_many_or_not o p h k many few = both_ways (is_too_many_to_number p) few (subst (λ (x : Outline). is_too_many_to_number x ≡ true) (same_outline d o p h k) many)

  numbers : InTurn (ComesWith (HasKnownNames d)) (ComesWith (IsNumbered d)) (Reported Limit (IsTooMany d))
  numbers = one_check Limit (IsTooMany d) (λ counted h. (h.0, h.1)) (λ k. (k.0, k.1.0))
      (λ a b h k. found_same over_limit h.0 k.0 a b h.1.0.0 k.1.0.0 h.3 k.3) (λ a h k. too_many_or_not h.0 k.0 h.1.0.0 k.1.0.0.0 h.2 k.1.1)

  module _ (laws : SqlLaws) where
    -- ---- of its SQL

    sql_once : IsOnce HasFault
    sql_once site other h k = fault_same laws k.0 site other (subst (λ (x : Outline). FaultAt x site) (same_outline d h.0 k.0 h.1.0.0.0 k.1.0.0.0) h.2) k.2

    sql_or_none : (site : SqlSite) → HasFault site → Comes (IsResolved d) → ⊥
    sql_or_none site h k = resolved_or_faulty laws k.0 k.1 site k.2.1 (subst (λ (x : Outline). FaultAt x site) (same_outline d h.0 k.0 h.1.0.0.0 k.2.0.0.0.0) h.2)

    sql : InTurn (ComesWith (IsNumbered d)) (Comes (IsResolved d)) (Reported report_sql HasFault)
    sql = one_check report_sql HasFault (λ site h. (h.0, h.1)) (λ k. (k.0, k.2.0)) sql_once sql_or_none

    -- ---- of the catalogue

    same_resolved : (o p : Outline) (a b : Catalog) → IsResolved d o a → IsResolved d p b → IsSameCatalog a b
    same_resolved = same_catalog laws d

    workflows : InTurn (Comes (IsResolved d)) (Comes (HasAcyclicWorkflows d)) (Reported WorkflowCycle (HasWorkflowCycle d))
    workflows = catalog_check (IsResolved d) same_resolved FirstCycle cycles_found
        procedure_name (reported_kept procedure_name (λ c text own x. refl)) WorkflowCycle

    cascades : InTurn (Comes (HasAcyclicWorkflows d)) (Comes (HasAcyclicTriggers d)) (Reported TriggerCycle (HasTriggerCycle d))
    cascades = catalog_check (HasAcyclicWorkflows d) (λ o p a b h k. same_resolved o p a b h.0 k.0) FirstTriggerCycle trigger_cycles_found
        trigger_name (reported_kept trigger_name (λ c text own x. refl)) TriggerCycle

    localities : InTurn (Comes (HasAcyclicTriggers d)) (Comes (IsLocal d)) (Reported report_site BreaksAt)
    localities = catalog_check (HasAcyclicTriggers d) (λ o p a b h k. same_resolved o p a b h.0.0 k.0.0) IsFirstSite sites_found
        site_reported (reported_kept site_reported (λ c text own x. refl)) report_site

    ends : InTurn (Comes (IsLocal d)) (Comes (HasRightEnds d)) (Reported StreamEnds (HasBadEnds d))
    ends = catalog_check (IsLocal d) (λ o p a b h k. same_resolved o p a b h.0.0.0 k.0.0.0) FirstStream streams_found
        stream_name (reported_kept stream_name (λ c text own x. refl)) StreamEnds

    owners : InTurn (Comes (HasRightEnds d)) (Comes (HasRightOwners d)) (Reported WindowOwner (HasBadOwner d))
    owners = catalog_check (HasRightEnds d) (λ o p a b h k. same_resolved o p a b h.0.0.0.0 k.0.0.0.0) FirstWindow windows_found
        window_name (reported_kept window_name (λ c text own x. refl)) WindowOwner

    -- the outline of what passes
    shape_passed : (o : Outline) (c : Catalog) → HasRightOwners d o c → IsShaped d o
    shape_passed o c h = shape_of d o c (resolved_of d o c h)

    counts : InTurn (Comes (HasRightOwners d)) Passes CountTold
    counts = one_check Limit (IsOverLimit d) (λ counted h. (h.0, h.1, h.2)) (λ k. (k.0, k.1, k.2.0))
        (λ a b h k. found_same over_limit h.0 k.0 a b (shape_passed h.0 h.1 h.2) (shape_passed k.0 k.1 k.2) h.3 k.3)
        (λ a h k. not_there over_limit h.0 k.0 a (shape_passed h.0 h.1 h.2) (shape_passed k.0 k.1 k.2.0) h.3 k.2.1)

    -- ---- all

    of_catalog : InTurn (Comes (IsResolved d)) Passes CatalogTold
    of_catalog = and_then workflows (and_then cascades (and_then localities (and_then ends (and_then owners counts))))

    pub all_checks : InTurn (Unit {0}) Passes AnyTold
    all_checks = and_then shapes (and_then names_once (and_then names_known (and_then numbers (and_then sql of_catalog))))

-- ---- each refusal is reported by a check

module _ (d : Data) where
  by_catalog : (e : CatalogError) → CatalogTold d e → (e ≡ NoMemory) ⊎ AnyTold d e
  by_catalog e reported = inr (inr (inr (inr (inr (inr reported)))))

  pub reported_of : (e : CatalogError) → Refuses d e → (e ≡ NoMemory) ⊎ AnyTold d e
  reported_of NoMemory k = inl refl
  reported_of (Shape path) k = inr (inl (path, refl, k))
  reported_of (Twice name) k = inr (inr (inl (name, refl, k)))
  reported_of (Unknown name) k = inr (inr (inr (inl (name, refl, k))))
  reported_of (SqlFault name step fault) k = inr (inr (inr (inr (inr (inl (record { name = name; number = step; fault = fault }, refl, k))))))
  reported_of (WorkflowCycle name) k = by_catalog (WorkflowCycle name) (inl (name, refl, k))
  reported_of (TriggerCycle name) k = by_catalog (TriggerCycle name) (inr (inl (name, refl, k)))
  reported_of (LocalityBroken name step) k = by_catalog (LocalityBroken name step) (inr (inr (inl ((name, step), refl, (k.0, k.1, k.2, k.3, k.4, λ i. (k.5 i, k.6 i))))))
  reported_of (StreamEnds name) k = by_catalog (StreamEnds name) (inr (inr (inr (inl (name, refl, k)))))
  reported_of (WindowOwner name) k = by_catalog (WindowOwner name) (inr (inr (inr (inr (inl (name, refl, k))))))
  reported_of (Limit counted) (inl k) = inr (inr (inr (inr (inl (counted, refl, k)))))
  reported_of (Limit counted) (inr k) = by_catalog (Limit counted) (inr (inr (inr (inr (inr (counted, refl, k))))))

  module _ (laws : SqlLaws) where
    pub passed_or_reported : (e : CatalogError) → Passes d → (e ≡ NoMemory) ⊎ AnyTold d e → e ≡ NoMemory
    passed_or_reported e passed (inl is) = is
    passed_or_reported e passed (inr reported) = absurd ((all_checks d laws).either e reported passed)

    pub one_reported : (e f : CatalogError) → (e ≡ NoMemory → ⊥) → (f ≡ NoMemory → ⊥) → (e ≡ NoMemory) ⊎ AnyTold d e → (f ≡ NoMemory) ⊎ AnyTold d f → e ≡ f
    one_reported e f some other (inl is) k = absurd (some is)
    one_reported e f some other (inr reported) (inl is) = absurd (other is)
    one_reported e f some other (inr reported) (inr too) = (all_checks d laws).once e f reported too

pub read_or_refused : SqlLaws → IsReadOrRefused
read_or_refused laws d c e h k = passed_or_reported d laws e (h.outline, c, (h.passes, h.limits)) (reported_of d e k)

pub one_refusal : SqlLaws → HasOneRefusal
one_refusal laws d e f h k some other = one_reported d laws e f some other (reported_of d e h) (reported_of d f k)
