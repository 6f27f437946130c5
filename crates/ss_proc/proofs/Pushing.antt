-- What a push comes to on each database that a shard stands for.
use Rattle.std.proofs.Common.{◌≡◌, ◌+◌, ◌==◌, ◌<◌, ◌^◌, ◌&&◌, nat_lt, ℕ, zero, suc, true, false, cond, List, [], ◌∷◌, map, set, length, length-set, refl, sym, ap, subst, ◌∙◌, Some, None, Bool, arith}
use Rattle.std.specs.Prelude.{unwrap_or}
use Rattle.std.specs.Ordering.{eq_by_cmp, nat_cmp}
use Rattle.std.specs.Cmp.Lexicographic.{slice_cmp, nat_list_cmp_total}
use Rattle.std.specs.FinMap as finite
use Rattle.std.proofs.lemmas.Bool.{ltb-true}
use Rattle.ss_value.specs.Rows.{Rows}
use Rattle.ss_model.specs.declared.catalog.Catalog.{Catalog}
use Rattle.ss_model.specs.declared.entry.Entry.{Entry}
use Rattle.ss_model.specs.declared.entry.Entry.TheVariants.{Push}
use Rattle.ss_model.specs.declared.entry.Outcome.{Outcome}
use Rattle.ss_model.specs.declared.entry.Outcome.TheVariants.{Done, Duplicate, Gap}
use Rattle.ss_model.specs.Contents.{Contents}
use Rattle.ss_model.specs.Accepted.{Accepted}
use Rattle.ss_model.specs.Batches.{pushed_batch}
use Rattle.ss_model.specs.Database.{NextNumbers, Database, Applied, apply, only_when, push_fits, numbered_push, next_number, accept_batch}
use Rattle.ss_lemmas.proofs.Bools.{first_of_two, second_of_two}
use Rattle.ss_shard.specs.Bodies.{texts_of, with_coming}
use Rattle.ss_shard.specs.ShardValue.{ShardValue}
use Rattle.ss_shard.specs.Sources.{number_of, numbers_at, number_in, SameNumbers, with_number, push_outcome}
use Rattle.ss_shard.specs.Contents.{tables_of}
use Rattle.ss_shard.specs.Shards.{Same}
use Rattle.ss_shard.specs.Windows.{kept_part, Holds, HoldsDatabase}
use Rattle.ss_shard.proofs.CallerLemmas.{alike_again}
use Rattle.ss_proc.specs.declared.runner.Executed.{Executed}
use Rattle.ss_proc.specs.Entries.{Ran, Commits, counts_after, numbers_after, number_raised}

-- ---- what it says that a push fits

module _ (catalog : Catalog) (client s seq : ℕ) (rows : Rows) (fits : push_fits catalog client s seq rows ≡ true) where
  pub is_countable : seq < 2 ^ 63
  is_countable = ltb-true _ _ (second_of_two _ _ (first_of_two _ _ fits))

  pub stream_there : Accepted catalog → s < length catalog.streams
  stream_there accepted = accepted.structure.streams.wired.border_there s (second_of_two _ _ (first_of_two _ _ (first_of_two _ _ (first_of_two _ _ fits))))

-- ---- one number set in both

-- the number of a source after one was set
set_number : (numbers : NextNumbers) (source : List ℕ) (n : ℕ) (name : List ℕ) → number_of (finite.insert numbers source n) name ≡ cond (eq_by_cmp (slice_cmp nat_cmp) name source) n (number_of numbers name)
set_number numbers source n name = ap (λ o. unwrap_or o 0) (finite.get-insert nat_list_cmp_total numbers source n name) ∙ by (eq_by_cmp (slice_cmp nat_cmp) name source)
  where
    by : (b : Bool) → unwrap_or (cond b (Some n) (finite.get numbers name)) 0 ≡ cond b n (number_of numbers name)
    by true = refl
    by false = refl

-- whether two positions are the same, and whether a list has a position
same_position : ℕ → ℕ → Bool
same_position zero zero = true
same_position zero (suc s) = false
same_position (suc t) zero = false
same_position (suc t) (suc s) = same_position t s

has_position : List NextNumbers → ℕ → Bool
has_position [] s = false
has_position (x ∷ xs) zero = true
has_position (x ∷ xs) (suc s) = has_position xs s

as_long : (one two : List NextNumbers) (s : ℕ) → length two ≡ length one → has_position two s ≡ has_position one s
unfolding has_position
as_long [] [] s e = refl
as_long [] (y ∷ two) s e = absurd (omega (arith, e))
as_long (x ∷ one) [] s e = absurd (omega (arith, e))
as_long (x ∷ one) (y ∷ two) zero e = refl
as_long (x ∷ one) (y ∷ two) (suc s) e = as_long one two s (omega (arith, e))

-- the numbers of a stream among all, where those of one were replaced
here_or_there : (xs : List NextNumbers) (s t : ℕ) (x : NextNumbers) → numbers_at (set xs s x) t ≡ cond (same_position t s && has_position xs s) x (numbers_at xs t)
unfolding same_position has_position
here_or_there [] s t x = by (same_position t s)
  where
    by : (b : Bool) → finite.empty ≡ cond (b && false) x finite.empty
    by true = refl
    by false = refl
here_or_there (y ∷ ys) zero zero x = refl
here_or_there (y ∷ ys) zero (suc t) x = refl
here_or_there (y ∷ ys) (suc s) zero x = refl
here_or_there (y ∷ ys) (suc s) (suc t) x = here_or_there ys s t x

abbrev picked : Bool → ℕ → ℕ → ℕ
picked b x y = cond b x y

both_set : (one two : List NextNumbers) (s : ℕ) (source : List ℕ) (n : ℕ) → SameNumbers one two → SameNumbers (with_number one s source n) (with_number two s source n)
both_set one two s source n same = record {
  streams = length-set two s _ ∙ same.streams ∙ sym (length-set one s _);
  numbers = λ t name.
      at two t name
      ∙ (λ i. picked (same_position t s && as_long one two s same.streams i) (cond (eq_by_cmp (slice_cmp nat_cmp) name source) n (same.numbers s name i)) (same.numbers t name i))
      ∙ sym (at one t name);
}
  where
    either : (b : Bool) (x y : NextNumbers) (name : List ℕ) → number_of (cond b x y) name ≡ picked b (number_of x name) (number_of y name)
    either true x y name = refl
    either false x y name = refl

    at : (xs : List NextNumbers) (t : ℕ) (name : List ℕ) → number_in (with_number xs s source n) t name ≡ picked (same_position t s && has_position xs s) (cond (eq_by_cmp (slice_cmp nat_cmp) name source) n (number_in xs s name)) (number_in xs t name)
    at xs t name =
        ap (λ (ns : NextNumbers). number_of ns name) (here_or_there xs s t (finite.insert (numbers_at xs s) source n))
        ∙ either (same_position t s && has_position xs s) (finite.insert (numbers_at xs s) source n) (numbers_at xs t) name
        ∙ ap (λ x. picked (same_position t s && has_position xs s) x (number_in xs t name)) (set_number (numbers_at xs s) source n name)

-- ---- a push

module _ (catalog : Catalog) (old new : ShardValue) (db : Database) (holds : HoldsDatabase catalog old db) (client index s : ℕ) (source : List ℕ) (seq : ℕ) (rows : Rows) (fits : push_fits catalog client s seq rows ≡ true)
    (same : SameNumbers old.sources new.sources) (rest : new ≡ record old { sources = new.sources }) (nothing : old.coming ≡ None) where
  abbrev next : ℕ
  next = next_number db s source

  abbrev pushed : Applied
  pushed = numbered_push db s source seq rows next

  push_value : apply catalog db (Push client index s source seq rows) ≡ Some pushed
  unfolding apply
  push_value = ap (λ b. only_when b (Some pushed)) fits

  alike : SameNumbers db.next_numbers new.sources
  alike = record { streams = same.streams ∙ holds.numbers.streams; numbers = λ t name. same.numbers t name ∙ holds.numbers.numbers t name }

  mid : ShardValue
  mid = record old { sources = new.sources }

  still : HoldsDatabase catalog new db
  unfolding mid
  still = subst (λ (h : ShardValue). HoldsDatabase catalog h db) (sym rest)
      (record { contents = record { tables = holds.contents.tables; windows = holds.contents.windows }; counts = holds.counts; numbers = alike; bodies = holds.bodies })

  came : (e : Executed) (a : Applied) → apply catalog db (Push client index s source seq rows) ≡ Some a → e.outcome ≡ a.outcome → e.emitted ≡ pushed_batch s rows e.outcome
      → (a.db).contents ≡ db.contents → (a.db).counts ≡ db.counts → (a.db).bodies ≡ db.bodies → SameNumbers (a.db).next_numbers (number_raised s source seq e.outcome new.sources) → Ran catalog db (Push client index s source seq rows) e new
  came e a value folds gave contents counts bodies numbers = record {
    applied = a;
    value = value;
    outcome = folds;
    emitted = gave ∙ ap (pushed_batch s rows) folds;
    leaves = subst (Holds catalog new) (sym contents) still.contents;
    counts = still.counts ∙ sym counts;
    numbers = numbers;
    bodies = ap (λ (h : ShardValue). texts_of catalog (with_coming h.coming h.bodies)) rest ∙ ap (λ c. texts_of catalog (with_coming c old.bodies)) nothing ∙ holds.bodies ∙ sym bodies;
  }

  pub push_ran : (e : Executed) → e.outcome ≡ push_outcome seq (number_in old.sources s source) → e.emitted ≡ pushed_batch s rows e.outcome → Ran catalog db (Push client index s source seq rows) e new
  push_ran e folds gave = by (seq == next) (nat_lt seq next) push_value (folds ∙ ap (push_outcome seq) (holds.numbers.numbers s source))
    where
      by : (b c : Bool)
          → apply catalog db (Push client index s source seq rows) ≡ Some (cond b (record { db = accept_batch db s source seq rows; outcome = Done []; emitted = [] }) (cond c (record { db = db; outcome = Duplicate next; emitted = [] }) (record { db = db; outcome = Gap next; emitted = [] })))
          → e.outcome ≡ cond b (Done []) (cond c (Duplicate next) (Gap next)) → Ran catalog db (Push client index s source seq rows) e new
      by true c value is =
          came e (record { db = accept_batch db s source seq rows; outcome = Done []; emitted = [] }) value is gave refl refl refl
          (subst (λ o. SameNumbers (accept_batch db s source seq rows).next_numbers (number_raised s source seq o new.sources)) (sym is) (both_set db.next_numbers new.sources s source (seq + 1) alike))
      by false true value is =
          came e (record { db = db; outcome = Duplicate next; emitted = [] }) value is gave refl refl refl
          (subst (λ o. SameNumbers db.next_numbers (number_raised s source seq o new.sources)) (sym is) alike)
      by false false value is =
          came e (record { db = db; outcome = Gap next; emitted = [] }) value is gave refl refl refl
          (subst (λ o. SameNumbers db.next_numbers (number_raised s source seq o new.sources)) (sym is) alike)

-- ---- what is the same stands for the same

pub holds_same : (catalog : Catalog) (old new : ShardValue) → Same old new → (db : Database) → HoldsDatabase catalog old db → HoldsDatabase catalog new db
holds_same catalog old new same db holds = record {
  contents = record { tables = ap tables_of same.tables ∙ holds.contents.tables; windows = ap (map kept_part) same.windows ∙ holds.contents.windows };
  counts = same.cursors ∙ holds.counts;
  numbers = alike_again db.next_numbers old.sources new.sources holds.numbers same.sources;
  bodies = ap (texts_of catalog) same.bodies.0 ∙ holds.bodies;
}

-- ---- an entry that is committed

pub keeps_so : (catalog : Catalog) (e : Entry) (outcome : Outcome) (old new : ShardValue) → ((s : Contents) → Holds catalog old s → Holds catalog new s) → new.cursors ≡ counts_after e old.cursors → new.sources ≡ numbers_after e outcome old.sources → new.bodies ≡ with_coming old.coming old.bodies → Commits catalog e outcome old new
keeps_so catalog e outcome old new holds cursors sources bodies db executed ran same = record {
  contents = holds (ran.applied).db.contents ran.leaves;
  counts = cursors ∙ ran.counts;
  numbers = subst (SameNumbers (ran.applied).db.next_numbers) (sym sources) (subst (λ o. SameNumbers (ran.applied).db.next_numbers (numbers_after e o old.sources)) same ran.numbers);
  bodies = ap (texts_of catalog) bodies ∙ ran.bodies;
}
