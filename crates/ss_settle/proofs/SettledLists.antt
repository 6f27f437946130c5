-- Lists that go on by the steps of settling, while all partitions are in hand.
use Rattle.std.proofs.Common.{◌≡◌, ◌≤◌, ◌<◌, ◌+◌, ◌^◌, ℕ, List, [], ◌∷◌, ◌++◌, map, length, refl, sym, ap, ◌∙◌, subst, arith, append_assoc, length-append, Some, None, IsSome, is_some, Ok, Err, Result, false, true≢false, slice_get}
use Rattle.std.proofs.lemmas.Bool.Decides.{Decides-eqb}
use Rattle.std.specs.declared.option.Option.{Option}
use Rattle.ss_lemmas.proofs.Bools.{first_of_two, second_of_two}
use Rattle.ss_model.specs.declared.catalog.Catalog.{Catalog}
use Rattle.ss_model.specs.declared.catalog.Procedure.{Procedure}
use Rattle.ss_model.specs.declared.entry.Entry.{Entry}
use Rattle.ss_model.specs.declared.entry.Entry.TheVariants.{Step as StepEntry}
use Rattle.ss_model.specs.declared.entry.Listed.{Listed}
use Rattle.ss_model.specs.declared.entry.Outcome.{Outcome}
use Rattle.ss_model.specs.Database.{Database, Applied, apply, apply_step, batch_count, is_ready}
use Rattle.ss_model.specs.Replays.{after, database_after, entry_outcome}
use Rattle.ss_model.specs.Settled as model
use Rattle.ss_model.specs.Settling.{after_entries, next_settled}
use Rattle.ss_model.proofs.CallerLemmas.{tested}
use Rattle.ss_model_laws.proofs.CallerLemmas.{loop_settles, next_is_ready}
use Rattle.ss_report_laws.proofs.CallerLemmas.{applied_of}
use Rattle.ss_shard.specs.Parts.{all_partitions}
use Rattle.ss_commitlog.specs.declared.placed.Placed.{Placed}
use Rattle.ss_commitlog.specs.declared.placed.Unlisted.{Unlisted}
use Rattle.ss_commitlog.specs.declared.placed.Unlisted.TheVariants.{NoMemory, ListFull}
use Rattle.ss_commitlog.specs.declared.role.Role.TheVariants.{Log, Part}
use Rattle.ss_commitlog.specs.declared.rule.Item.{Item}
use Rattle.ss_commitlog.specs.Meaning.{listed_of}
use Rattle.ss_commitlog.specs.Roles.{In}
use Rattle.ss_commitlog.specs.Rule.{item}
use Rattle.ss_commitlog.specs.Tokens.{Known, roles_of}
use Rattle.ss_commitlog.proofs.CallerLemmas.{after-append, length-listed_of, listed_of-append, on_longer}
use Rattle.ss_turns.specs.Executed.{IsStepped}
use Rattle.ss_turns.specs.Stepping.{EachGoesOn}
use Rattle.ss_turns.proofs.CallerLemmas.{all_met, went_in}
use Rattle.ss_settle.specs.Ready.{FoundNext}
use Rattle.ss_settle.specs.Settlings.{AreSettling, EndedWith, SettledFrom, SettledInOrder, SettlesFrom, entries_of}
use Rattle.ss_settle.proofs.WholeList.{known_at, all_know, mark_of, whole_before, whole_with}

entries_of-append : (xs ys : List Listed) → entries_of (xs ++ ys) ≡ entries_of xs ++ entries_of ys
entries_of-append [] ys = refl
entries_of-append (x ∷ xs) ys = ap (λ (es : List Entry). x.entry ∷ es) (entries_of-append xs ys)

same_after : (catalog : Catalog) (db : Database) (list : List Listed) → after_entries catalog db (entries_of list) ≡ after catalog db list
same_after catalog db [] = refl
same_after catalog db (l ∷ ls) = same_after catalog (database_after catalog db l.entry) ls

-- a step that has an outcome has the number of its procedure's next batch
next_number : (catalog : Catalog) (d : Database) (q r : ℕ) (outcome : Outcome) → entry_outcome catalog d (StepEntry q r) ≡ Some outcome → r ≡ batch_count d q
unfolding apply
next_number catalog d q r outcome e = let (a, is) = applied_of (apply catalog d (StepEntry q r)) outcome e in by (slice_get catalog.procedures q) a is
  where
    by : (o : Option Procedure) (a : Applied) → apply_step catalog d q r o ≡ Some a → r ≡ batch_count d q
    by None a is = cc
    by (Some p) a is = sym ((Decides-eqb (batch_count d q) r).0 (second_of_two _ _ (first_of_two _ _ (tested (is_ready d q r p) _ a is))))

-- marks that went on meanwhile
pub settles_on : (catalog : Catalog) (n : ℕ) (db : Database) (old ks ls : List Known) (ran : ℕ) → EachGoesOn catalog n ks ls → SettlesFrom catalog n db old ks ran → SettlesFrom catalog n db old ls ran
settles_on catalog n db old ks ls ran on far = λ list may. far list (whole_before catalog n db list ks ls on may)

module _ (catalog : Catalog) (n : ℕ) (db : Database) (old : List Known) (ran : ℕ) (list : List Item) (far : SettledFrom catalog n db old ran list) where
  at_end : after_entries catalog (after catalog db (listed_of far.before)) (entries_of (listed_of far.steps)) ≡ after catalog db (listed_of list)
  at_end =
      same_after catalog (after catalog db (listed_of far.before)) (listed_of far.steps) ∙ (sym (after-append catalog db far.before far.steps)
      ∙ ap (λ (l : List Item). after catalog db (listed_of l)) (sym far.splits))

  -- one step more
  one_more : (i : Item) (q : ℕ) → next_settled catalog (after catalog db (listed_of list)) ≡ Some q → i.listed.entry ≡ StepEntry q (batch_count (after catalog db (listed_of list)) q) → SettledFrom catalog n db old (ran + 1) (list ++ i ∷ [])
  one_more i q next is =
      let start = after catalog db (listed_of far.before) in
      let goes = (loop_settles catalog start (entries_of (listed_of far.steps))).goes_on far.in_order q (ap (next_settled catalog) at_end ∙ next) in
      let same : StepEntry q (batch_count (after_entries catalog start (entries_of (listed_of far.steps))) q) ≡ i.listed.entry = ap (λ (d : Database). StepEntry q (batch_count d q)) at_end ∙ sym is in
      let all : entries_of (listed_of (far.steps ++ i ∷ [])) ≡ entries_of (listed_of far.steps) ++ i.listed.entry ∷ []
      = ap entries_of (listed_of-append far.steps (i ∷ [])) ∙ entries_of-append (listed_of far.steps) (listed_of (i ∷ [])) in
      record {
        before = far.before;
        whole = far.whole;
        steps = far.steps ++ i ∷ [];
        splits = ap (λ (l : List Item). l ++ i ∷ []) far.splits ∙ append_assoc far.before far.steps (i ∷ []);
        many = length-append far.steps (i ∷ []) ∙ ap (λ (m : ℕ). m + 1) far.many;
        in_order = subst (λ (es : List Entry). model.SettlesOn catalog start es) (sym all) (subst (λ (e : Entry). model.SettlesOn catalog start (entries_of (listed_of far.steps) ++ e ∷ [])) same goes);
      }

  none_next : model.NoneReady catalog (after catalog db (listed_of list)) → next_settled catalog (after catalog db (listed_of list)) ≡ None
  none_next none = by (next_settled catalog (after catalog db (listed_of list))) refl
    where
      by : (o : Option ℕ) → next_settled catalog (after catalog db (listed_of list)) ≡ o → o ≡ None
      by None is = refl
      by (Some q) is = absurd (true≢false (sym ((next_is_ready catalog (after catalog db (listed_of list))).some q is) ∙ none q))

  -- how it ended
  pub ended_in_order : (limit : ℕ) (end : Result (Unit {0}) Unlisted) → EndedWith catalog db limit (listed_of list) end → SettledInOrder catalog db (listed_of list) ran end
  ended_in_order limit end ended = record {
    before = listed_of far.before;
    steps = listed_of far.steps;
    splits = ap listed_of far.splits ∙ listed_of-append far.before far.steps;
    many = length-listed_of far.steps ∙ far.many;
    in_order = by end ended;
  }
    where
      by : (e : Result (Unit {0}) Unlisted) → EndedWith catalog db limit (listed_of list) e → AreSettling catalog (after catalog db (listed_of far.before)) (entries_of (listed_of far.steps)) e
      by (Ok done) ended = (loop_settles catalog (after catalog db (listed_of far.before)) (entries_of (listed_of far.steps))).ends far.in_order (ap (next_settled catalog) at_end ∙ none_next ended.0)
      by (Err unlisted) ended = far.in_order

-- ---- how long the list is

-- each of these marks knows a list of so many entries at least
abbrev pub AllHave : ℕ → List Known → Type 0
AllHave count ks = (k : Known) → In k ks → count ≤ length k.list

pub all_have : (catalog : Catalog) (n : ℕ) (count : ℕ) (ks ls : List Known) → EachGoesOn catalog n ks ls → AllHave count ks → AllHave count ls
all_have catalog n count ks ls on have l there =
    let (k, was, goes) = went_in catalog n ks ls on l there in
    let longer = on_longer catalog n l.list k goes.on in
    let long = have k was in
    omega arith

-- ---- a step that was tried

-- so many steps more are those of settling, and no more than the list has entries
pub record WentOn (catalog : Catalog) (n : ℕ) (db : Database) (old ls : List Known) (ran : ℕ) : Type 0 where
  pub far : SettlesFrom catalog n db old ls ran
  pub have : AllHave ran ls

-- marks that went on
pub went_on : (catalog : Catalog) (n : ℕ) (db : Database) (old ks ls : List Known) (ran : ℕ) → EachGoesOn catalog n ks ls → WentOn catalog n db old ks ran → WentOn catalog n db old ls ran
went_on catalog n db old ks ls ran on was = record { far = settles_on catalog n db old ks ls ran on was.far; have = all_have catalog n ran ks ls on was.have }

module _ (catalog : Catalog) (n : ℕ) (some : 1 ≤ n) (db : Database) (old ks ls : List Known) (roles : roles_of ks ≡ map Part (all_partitions n)) (new_roles : roles_of ls ≡ map Part (all_partitions n))
    (first limit q : ℕ) (found : FoundNext catalog n db ks q) (ran : ℕ) (was : WentOn catalog n db old ks ran) where
  -- it ran
  pub ran_on : (o : Option Placed) → IsSome o → IsStepped catalog n first limit q ks ls (Ok o) → WentOn catalog n db old ls (ran + 1)
  ran_on None is stepped = absurd (true≢false (sym is))
  ran_on (Some placed) is stepped =
      let (mid, r, at, small, step, know, on) = stepped in
      let l = placed.listed in
      let i : Item = item l (roles_of ks ++ Log ∷ []) in
      let (k, there, role) = mark_of catalog n some 0 some ks roles in
      let long : ran ≤ length mid = (let a = was.have k there in let b = on_longer catalog n mid k (on k there) in omega arith) in
      record {
        far = λ list may.
            let w = whole_with catalog n some db list mid i ks ls new_roles know on may in
            let outcome : entry_outcome catalog (after catalog db (listed_of mid)) (StepEntry q r) ≡ Some l.outcome
            = subst (λ (e : Entry). entry_outcome catalog (after catalog db (listed_of mid)) e ≡ Some l.outcome) step w.outcome in
            let number = next_number catalog (after catalog db (listed_of mid)) q r l.outcome outcome in
            subst (λ (x : List Item). SettledFrom catalog n db old (ran + 1) x) (sym w.is)
            (one_more catalog n db old ran mid (was.far mid w.whole) i q (found.next mid w.whole) (step ∙ ap (λ (x : ℕ). StepEntry q x) number));
        have = λ m m_in. (let e = ap (λ (x : List Item). length x) (known_at (mid ++ i ∷ []) ls (all_know (mid ++ i ∷ []) ks ls know) m m_in) in let f = length-append mid (i ∷ []) in omega arith);
      }

  -- its count fits
  pub few_ran : (o : Option Placed) → IsSome o → IsStepped catalog n first limit q ks ls (Ok o) → ran + 1 < 2 ^ 64
  few_ran None is stepped = absurd (true≢false (sym is))
  few_ran (Some placed) is stepped =
      let (mid, r, at, small, step, know, on) = stepped in
      let (k, there, role) = mark_of catalog n some 0 some ks roles in
      let a = was.have k there in
      let b = on_longer catalog n mid k (on k there) in
      omega arith

  -- it didn't, and settling goes on, or ended by it
  pub stood_still : (o : Option Placed) → is_some o ≡ false → IsStepped catalog n first limit q ks ls (Ok o) → WentOn catalog n db old ls ran
  stood_still None is on = went_on catalog n db old ks ls ran on was
  stood_still (Some placed) is stepped = absurd (true≢false is)

  pub stopped : (why : Unlisted) → IsStepped catalog n first limit q ks ls (Err why) → SettlesFrom catalog n db old ls ran
  stopped NoMemory on = settles_on catalog n db old ks ls ran on was.far
  stopped (ListFull count) stepped = let (mid, count_is, full, know, on) = stepped in settles_on catalog n db old ks ls ran (all_met catalog n mid ks ls know on) was.far
