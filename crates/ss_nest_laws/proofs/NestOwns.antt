-- A nest names only what it may, and so does a procedure in no nest.
use Rattle.std.proofs.Common.{◌≡◌, ℕ, Bool, true, false, List, [], slice_get, refl, sym, ap, ◌∙◌, subst, Some, None}
use Rattle.std.specs.declared.option.Option.{Option}
use Rattle.std.specs.List.{AllByRecursion, filter}
use Rattle.std.specs.Option.{option_map}
use Rattle.std.proofs.lemmas.Option.{slice_get-map}
use Rattle.ss_value.specs.Rows.{Row}
use Rattle.ss_model.specs.declared.catalog.Catalog.{Catalog}
use Rattle.ss_model.specs.declared.catalog.Nest.{Nest}
use Rattle.ss_model.specs.declared.catalog.Procedure.{Procedure}
use Rattle.ss_model.specs.declared.catalog.Step.{Step}
use Rattle.ss_model.specs.declared.catalog.WindowDef.{WindowDef}
use Rattle.ss_model.specs.Results.{and_behind}
use Rattle.ss_model.specs.Contents.{owner_from, window_owner}
use Rattle.ss_model.specs.Statements.{is_on_window}
use Rattle.ss_model.specs.Claims.{Claims, StepClaim, TriggerClaim, UsesOnly}
use Rattle.ss_model.specs.Conjuncts.{StepLimited}
use Rattle.ss_model.specs.Partitions.{local_claims}
use Rattle.ss_model.specs.Database.{is_streaming, with_body}
use Rattle.ss_model.specs.Accepted.{Accepted, UsesItsOwn}
use Rattle.ss_model.specs.Nests.{AreNests, MayNest, nest_procedure, inner_streams, moved_input, moved_step, moved_body, nested_number, nested_window, nested_catalog, stands_for}
use Rattle.ss_lemmas.proofs.Bools.{some_same}
use Rattle.ss_lemmas.proofs.EachOf.{all_with}
use Rattle.ss_model_laws.proofs.CallerLemmas.{named}
use Rattle.ss_nest_laws.proofs.Lists.{among, head_among, each_mapped, each_joined}
use Rattle.ss_nest_laws.proofs.NestMembers.{touch_same}
use Rattle.ss_nest_laws.proofs.NestNumbers.{all_members, among_all, some_nest, stands_alone, stands_among, stands_back, same_number, number_same}
use Rattle.ss_nest_laws.proofs.NestUses.{trigger_still, step_still, step_claimed, step_limited}
use Rattle.ss_nest_laws.proofs.Standing.{OneNest, nest_at}

module _ (catalog : Catalog) (accepted : Accepted catalog) (nests : List Nest) (text : List ℕ) (are : AreNests catalog nests) where
  abbrev nested : Catalog
  nested = nested_catalog catalog nests text

  -- ---- owners of windows

  pub owner_goes : (w q : ℕ) → window_owner catalog w ≡ Some q → window_owner nested w ≡ Some (nested_number nests q)
  owner_goes w q o = ap owner_from (slice_get-map (nested_window nests) catalog.windows w) ∙ by (slice_get catalog.windows w) o
    where
      by : (d : Option WindowDef) → owner_from d ≡ Some q → owner_from (option_map (nested_window nests) d) ≡ Some (nested_number nests q)
      by None e = cc
      by (Some d) e = ap (λ z. Some (nested_number nests z)) (some_same d.owner q e)

  pub owner_was : (w n : ℕ) → window_owner nested w ≡ Some n → (q : ℕ) × (window_owner catalog w ≡ Some q) × (nested_number nests q ≡ n)
  owner_was w n o = by (slice_get catalog.windows w) refl (sym (ap owner_from (slice_get-map (nested_window nests) catalog.windows w)) ∙ o)
    where
      by : (d : Option WindowDef) → slice_get catalog.windows w ≡ d → owner_from (option_map (nested_window nests) d) ≡ Some n → (q : ℕ) × (window_owner catalog w ≡ Some q) × (nested_number nests q ≡ n)
      by None at_w e = cc
      by (Some d) at_w e = (d.owner, ap owner_from at_w, some_same _ n e)

  -- ---- a procedure in no nest

  module _ (q : ℕ) (p : Procedure) (out : among q (all_members nests) ≡ false) where
    only_one : (m : ℕ) → nested_number nests m ≡ nested_number nests q → m ≡ q
    only_one m same = by (among m (all_members nests)) refl
      where
        stood : stands_for nests m ≡ q
        stood = same_number nests are.once m q same ∙ stands_alone nests q out

        by : (b : Bool) → among m (all_members nests) ≡ b → m ≡ q
        by false alone = sym (stands_alone nests m alone) ∙ stood
        by true a =
            let k = some_nest nests m a in
            let one : OneNest catalog nests = nest_at catalog nests text are k.place k.nest k.there in
            let head : one.head ≡ q = sym (stands_among nests are.once one.place one.nest one.stands one.head one.at_head m k.member) ∙ stood in
            let inside : among q (all_members nests) ≡ true = ap (λ z. among z (all_members nests)) (sym head) ∙ among_all nests one.place one.nest one.stands one.head (head_among (one.nest).members one.head one.at_head) in
            let wrong : true ≡ false = sym inside ∙ out in cc

    abbrev here : Claims
    here = local_claims catalog q p

    abbrev gone : Claims
    gone = local_claims nested (nested_number nests q) p

    pub still_uses : (body : List Step) (args : Row) → UsesOnly here catalog q args (with_body body p) → UsesOnly gone nested (nested_number nests q) args (with_body body p)
    still_uses body args k = record {
      steps = all_with (StepClaim here catalog args) (StepClaim gone nested args)
          (step_still here gone (λ t c. c) (λ w c. owner_goes w q c) (λ params t vs c. c) (λ i. i) (λ params t x c. c) (λ params t x c. c) nested args) body k.steps;
      owned = λ w o. o;
      triggers = λ w o.
          let (m, was, same) = owner_was w (nested_number nests q) o in
          all_with (TriggerClaim here) (TriggerClaim gone)
          (trigger_still here gone (λ t c. c) (λ w c. owner_goes w q c) (λ params t vs c. c) (λ i. i) (λ params t x c. c) (λ params t x c. c)) _
          (k.triggers w (was ∙ ap Some (only_one m same)));
    }

  -- ---- a nest

  module _ (k : OneNest catalog nests) where
    abbrev members : List ℕ
    members = (k.nest).members

    may : MayNest catalog members
    may = are.each k.place k.nest k.stands

    abbrev number : ℕ
    number = nested_number nests k.head

    abbrev inner : List ℕ
    inner = inner_streams catalog members

    abbrev reads : List ℕ
    reads = and_behind (k.first).inputs inner

    abbrev made : Procedure
    made = nest_procedure catalog k.nest k.first

    abbrev behind : Claims
    behind = local_claims nested number made

    same_touch : (q : ℕ) (p : Procedure) → slice_get catalog.procedures q ≡ Some p → among q members ≡ true → p.touch ≡ (k.first).touch
    same_touch q p is a = touch_same catalog accepted members may are.plain k.head k.first k.at_head k.first_is q p is a

    owner_there : (w q : ℕ) → among q members ≡ true → window_owner catalog w ≡ Some q → window_owner nested w ≡ Some number
    owner_there w q a o = owner_goes w q o ∙ ap Some (number_same nests are.once k.place k.nest k.stands k.head k.at_head q a)

    -- who has the number of the nest is a member
    is_member : (q : ℕ) → nested_number nests q ≡ number → among q members ≡ true
    is_member q same =
        stands_back nests are.once k.place k.nest k.stands k.head k.at_head q
        (same_number nests are.once q k.head same ∙ stands_among nests are.once k.place k.nest k.stands k.head k.at_head k.head (head_among members k.head k.at_head))

    module _ (args : Row) (q : ℕ) (p : Procedure) (is : slice_get catalog.procedures q ≡ Some p) (a : among q members ≡ true) where
      own : UsesOnly (local_claims catalog q (record p { touch = (k.first).touch })) catalog q args p
      own = subst (λ t. UsesOnly (local_claims catalog q (record p { touch = t })) catalog q args p) (same_touch q p is a) ((accepted.uses q p is).local args)

      abbrev before : Claims
      before = local_claims catalog q (record p { touch = (k.first).touch })

      member_steps : AllByRecursion (StepClaim behind nested args) (moved_body reads inner (slice_get catalog.procedures q))
      member_steps =
          subst (λ o. AllByRecursion (StepClaim behind nested args) (moved_body reads inner o)) (sym is)
          (each_mapped (StepClaim before catalog args) (StepClaim behind nested args) (moved_step (moved_input reads p.inputs) inner)
          (step_claimed before behind (λ t c. c) (λ w c. owner_there w q a c) (λ params t vs c. c) (moved_input reads p.inputs) (λ params t x c. c) (λ params t x c. c) nested args inner) p.body own.steps)

      member_triggers : (w : ℕ) → window_owner catalog w ≡ Some q → AllByRecursion (TriggerClaim behind) (filter (λ t. is_on_window w t.on) catalog.triggers)
      member_triggers w o =
          all_with (TriggerClaim before) (TriggerClaim behind)
          (trigger_still before behind (λ t c. c) (λ w c. owner_there w q a c) (λ params t vs c. c) (moved_input reads p.inputs) (λ params t x c. c) (λ params t x c. c)) _ (own.triggers w o)

      member_limited : AllByRecursion (StepLimited nested (k.first).touch) (moved_body reads inner (slice_get catalog.procedures q))
      member_limited =
          subst (λ o. AllByRecursion (StepLimited nested (k.first).touch) (moved_body reads inner o)) (sym is)
          (each_mapped (StepLimited catalog (k.first).touch) (StepLimited nested (k.first).touch) (moved_step (moved_input reads p.inputs) inner) (step_limited catalog (k.first).touch (moved_input reads p.inputs) inner) p.body
          (subst (λ t. AllByRecursion (StepLimited catalog t) p.body) (same_touch q p is a) (accepted.uses q p is).limited))

    pub nest_uses : UsesItsOwn nested number made
    nest_uses = record {
      local = λ args. record {
        steps = each_joined (StepClaim behind nested args) (λ q. moved_body reads inner (slice_get catalog.procedures q)) members (λ q a.
            let (p, is, streams) = named (λ p. is_streaming p.kind) (slice_get catalog.procedures q) (may.streaming q a) in member_steps args q p is a);
        owned = λ w o. o;
        triggers = λ w o.
            let (q, was, same) = owner_was w number o in
            let (p, is, streams) = named (λ p. is_streaming p.kind) (slice_get catalog.procedures q) (may.streaming q (is_member q same)) in
            member_triggers args q p is (is_member q same) w was;
      };
      limited = each_joined (StepLimited nested (k.first).touch) (λ q. moved_body reads inner (slice_get catalog.procedures q)) members (λ q a.
          let (p, is, streams) = named (λ p. is_streaming p.kind) (slice_get catalog.procedures q) (may.streaming q a) in member_limited [] q p is a);
    }
