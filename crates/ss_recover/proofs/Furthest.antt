-- Whatever bodies may be installed, no entry gets past the one at which a catalogue stops that has each body that the entries name.
use Rattle.std.proofs.Common.{◌≡◌, ◌∙◌, inl, inr, ◌≤◌, ◌^◌, ℕ, suc, Bool, List, take, length, arith, refl, sym, ap, subst}
use Rattle.std.proofs.lemmas.List.{take-take}
use Rattle.ss_lemmas.proofs.EachOf.{all_with}
use Rattle.ss_model.specs.declared.catalog.Body.{Body}
use Rattle.ss_model.specs.declared.catalog.Catalog.{Catalog}
use Rattle.ss_model.specs.declared.entry.Entry.{Entry}
use Rattle.ss_model.specs.declared.entry.Entry.TheVariants.{Call, Push, Step, Install}
use Rattle.ss_model.specs.declared.entry.Mode.{Mode}
use Rattle.ss_model.specs.declared.entry.Mode.TheVariants.{Strong, Weak}
use Rattle.ss_model.specs.Accepted.{Accepted}
use Rattle.ss_model.specs.Database.{Database as Model}
use Rattle.ss_model.specs.Settled.{SettlingTerminates}
use Rattle.ss_model.specs.Settling.{IsWeakList, kept}
use Rattle.ss_model.specs.SparesAside.{GoesOnWith, SparesAside, with_spares}
use Rattle.ss_nest.specs.Bodies.{HasOneNestedBody, NestedBodiesMayStand}
use Rattle.ss_weak_lists.specs.Stops.{PassesLast, WeakStopsOnce}
use Rattle.ss_weak_lists.specs.WeakLists.{KeptCarriesWeak, WeakListsGrow}
use Rattle.ss_snapshot.specs.Images.{HasOneKept, IsImageOf}
use Rattle.ss_snapshot.specs.Own.{IsReadFromItsText, SameButSpares}
use Rattle.ss_snapshot.proofs.BothSpares.{both}
use Rattle.ss_standing.specs.Standing.{listed_entries}
use Rattle.ss_recover.specs.Faults.{NoneStopsLater, StopsAfter, WithAnyBodies}
use Rattle.ss_recover.specs.Loading.{AreNamed, IsNamed}
use Rattle.ss_recover.proofs.BothBodies.{behind_goes_on, front_goes_on, joint_own, one_joint, other_accepted}
use Rattle.ss_recover.proofs.Faulty.{at_front, no_stop, not_before}
use Rattle.ss_recover.proofs.KeptStops.{after_either, passes_either}
use Rattle.ss_recover.proofs.MoreValues.{FindsBody, passes_back, passes_too, replays_too, stops_too}
use Rattle.ss_recover.proofs.Reaching.{Reaches, reaches}

-- what is a body of no catalogue of this text is none of one with more
named_finds : (catalog more : Catalog) → IsReadFromItsText more → more.text ≡ catalog.text → (e : Entry) → IsNamed catalog e → FindsBody more catalog e
named_finds catalog more own same (Call client index procedure args) named = tt
named_finds catalog more own same (Push client index stream source seq rows) named = tt
named_finds catalog more own same (Step procedure batch) named = tt
named_finds catalog more own same (Install client index procedure text) (inl has) = λ there. has
named_finds catalog more own same (Install client index procedure text) (inr none) = λ there. absurd (none more own same there)

-- entries that stop do so without those behind the one at which they stop
cut_stops : (mode : Mode) (catalog : Catalog) (d : Model) (first : ℕ) (entries : List Entry) (n : ℕ) → StopsAfter mode catalog d first entries n → StopsAfter mode catalog d first (take (suc n) entries) n
cut_stops Strong catalog d first entries n stops =
    let (list, is, behind) = stops in (
      list,
      is,
      record {
        before = behind.before ∙ sym (take-take (length list) (suc n) entries (omega (arith, is)));
        replays = behind.replays;
        few = behind.few;
        entry = behind.entry;
        there = at_front entries (suc n) (length list) (omega (arith, is)) ∙ behind.there;
        stops = behind.stops;
      },
    )
cut_stops Weak catalog d first entries n stops = record {
  before = record {
    list = stops.before.list;
    is_weak = subst (λ (es : List Entry). IsWeakList catalog d es (listed_entries stops.before.list)) (sym (take-take n (suc n) entries (omega arith))) stops.before.is_weak;
    replays = stops.before.replays;
    few = stops.before.few;
  };
  entry = stops.entry;
  there = at_front entries (suc n) n (omega arith) ∙ stops.there;
  stops = stops.stops;
}

-- where entries stop there was a place
has_place : (mode : Mode) (catalog : Catalog) (d : Model) (first : ℕ) (entries : List Entry) (n : ℕ) → StopsAfter mode catalog d first entries n → first ≤ 2 ^ 60
has_place Strong catalog d first entries n stops = (let (list, is, behind) = stops in omega (arith, behind.few))
has_place Weak catalog d first entries n stops = omega (arith, stops.before.few)

-- the laws from which it follows
pub record Laws : Type 0 where
  pub aside : SparesAside
  pub stand : NestedBodiesMayStand
  pub one_body : HasOneNestedBody
  pub one_kept : HasOneKept
  pub once : WeakStopsOnce
  pub carries : KeptCarriesWeak
  pub terminates : SettlingTerminates
  pub grow : WeakListsGrow

module _ (laws : Laws) (bodies : Bool) (image : List ℕ) (first : ℕ) (catalog other : Catalog) (x y : Model) (accepted : Accepted catalog)
    (is : IsImageOf bodies image first catalog x) (too : IsImageOf bodies image first other y) where
  same : SameButSpares catalog other
  same = (laws.one_kept bodies image first catalog other x y is too).0

  abbrev spares : List (List Body)
  spares = both catalog.spares other.spares

  abbrev joint : Catalog
  joint = with_spares catalog spares

  joint_is : joint ≡ with_spares other spares
  joint_is = one_joint laws.stand laws.one_body catalog other same is.own too.own

  on : GoesOnWith catalog spares
  on = front_goes_on laws.stand laws.one_body catalog other same is.own too.own

  on_other : GoesOnWith other spares
  on_other = behind_goes_on laws.stand laws.one_body catalog other same is.own too.own

  accepted_too : Accepted other
  accepted_too = other_accepted laws.stand laws.one_body catalog other same is.own too.own accepted

  own : IsReadFromItsText joint
  own = joint_own laws.stand laws.one_body catalog other same is.own too.own

  alike : kept joint x ≡ kept joint y
  alike =
      (laws.aside catalog accepted spares on).keeps x ∙ (laws.one_kept bodies image first catalog other x y is too).1
      ∙ sym (ap (λ (c : Catalog). kept c y) joint_is ∙ (laws.aside other accepted_too spares on_other).keeps y)

  -- what is told of the other catalogue with the bodies of both holds of the joint one
  from_joint : (P : Catalog → Type 0) → P joint → P (with_spares other spares)
  from_joint P h = subst P joint_is h

  -- where settling passes the last place in the one, it does so in the other
  passes_there : PassesLast catalog x first → PassesLast other y first
  passes_there passes =
      let wide = passes_too laws.aside catalog accepted spares on x is.image.whole first passes in
      passes_back laws.aside other accepted_too spares on_other y too.image.whole first
      (from_joint (λ (c : Catalog). PassesLast c y first) (passes_either laws.carries joint x y alike first wide))

  module _ (mode : Mode) (entries : List Entry) (n : ℕ) (named : AreNamed catalog entries) (stops : StopsAfter mode catalog x first entries n) where
    -- so they stop with the bodies of both
    stops_wide : StopsAfter mode (with_spares other spares) y first entries n
    stops_wide =
        let finds = all_with (IsNamed catalog) (FindsBody joint catalog) (named_finds catalog joint own refl) entries named in
        let wide = stops_too laws.aside catalog accepted spares on mode x is.image.whole first entries n finds stops in
        from_joint (λ (c : Catalog). StopsAfter mode c y first entries n) (after_either laws.carries joint mode x y alike first entries n wide)

    -- and in the other no later
    stops_there : (m : ℕ) × StopsAfter mode other y first entries m × m ≤ n
    stops_there = by (reaches other y first entries laws.terminates laws.grow accepted_too too.image.whole.in_step (has_place mode catalog x first entries n stops) mode (suc n))
      where
        by : Reaches mode other y first entries (suc n) → (m : ℕ) × StopsAfter mode other y first entries m × m ≤ n
        by (inl replays) =
            absurd (no_stop laws.once (with_spares other spares) y first (take (suc n) entries) mode n
            (replays_too laws.aside other accepted_too spares on_other mode y too.image.whole first (take (suc n) entries) replays)
            (cut_stops mode (with_spares other spares) y first entries n stops_wide))
        by (inr (inl (m, stop, less))) = (m, stop, omega (arith, less))
        by (inr (inr (weak, passes))) =
            absurd (not_before laws.once (with_spares other spares) y first entries mode n weak (passes_too laws.aside other accepted_too spares on_other y too.image.whole first passes) stops_wide)

-- a list that stops where the catalogue has each body that it names stops no later in any other
pub none_stops_later : Laws → (mode : Mode) (bodies : Bool) (image : List ℕ) (first : ℕ) (catalog : Catalog) (db : Model) (entries : List Entry) (n : ℕ) → Accepted catalog → AreNamed catalog entries
    → IsImageOf bodies image first catalog db → StopsAfter mode catalog db first entries n → NoneStopsLater mode bodies image first catalog entries n
none_stops_later laws mode bodies image first catalog db entries n accepted named is stops = λ other d text too.
    stops_there laws bodies image first catalog other db d accepted is too mode entries n named stops

-- and settling that passes the last place does so in any
pub pass_in_all : Laws → (bodies : Bool) (image : List ℕ) (first : ℕ) (catalog : Catalog) (db : Model) → Accepted catalog → IsImageOf bodies image first catalog db → PassesLast catalog db first
    → WithAnyBodies bodies image first catalog (λ other d. PassesLast other d first)
pass_in_all laws bodies image first catalog db accepted is past = λ other d text too. passes_there laws bodies image first catalog other db d accepted is too past
