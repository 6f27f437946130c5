-- What stays in hand, and an entry that ran on it.
use Rattle.std.proofs.Common.{◌≡◌, ◌≤◌, ℕ, List, [], ◌∷◌, refl, sym, ap, subst, ◌∙◌, slice_get, length, arith, Ok, Err}
use Rattle.std.specs.declared.result.Result.{Result}
use Rattle.std.specs.List.{AllByRecursion}
use Rattle.ss_value.specs.Rows.{Rows}
use Rattle.ss_model.specs.declared.catalog.Catalog.{Catalog}
use Rattle.ss_model.specs.declared.entry.Emitted.{Emitted}
use Rattle.ss_model.specs.declared.entry.Entry.{Entry}
use Rattle.ss_model.specs.declared.entry.Entry.TheVariants.{Call, Push, Step as StepEntry, Install}
use Rattle.ss_model.specs.declared.entry.Listed.{Listed}
use Rattle.ss_model.specs.Accepted.{Accepted}
use Rattle.ss_model.specs.Batches.{emitted_batches}
use Rattle.ss_model.specs.Database.{Applied, Database, stream_batches}
use Rattle.ss_model.specs.parts.HeldParts.{blank_after, HoldsTouched}
use Rattle.ss_model.specs.parts.Locality.{SameInputs}
use Rattle.ss_model.specs.Replays.{after}
use Rattle.ss_proc.specs.Parts.{RanBeside}
use Rattle.ss_shard.specs.Parts.{is_among, HoldsParts}
use Rattle.ss_shard.specs.ShardValue.{ShardValue}
use Rattle.ss_shard.specs.Unions.{numbers_of}
use Rattle.ss_commitlog.specs.declared.placed.Placed.{Placed}
use Rattle.ss_commitlog.specs.declared.placed.Unlisted.{Unlisted}
use Rattle.ss_commitlog.specs.declared.placed.Unlisted.TheVariants.{NoMemory, ListFull}
use Rattle.ss_commitlog.specs.declared.role.Role.{Role}
use Rattle.ss_commitlog.specs.declared.rule.Item.{Item}
use Rattle.ss_commitlog.specs.Meaning.{listed_of}
use Rattle.ss_commitlog.specs.Right.{AgreesWith, Gives, IsKnownTo, IsRight}
use Rattle.ss_commitlog.specs.Roles.{In}
use Rattle.ss_commitlog.specs.Tokens.{Known, AllContinue, AllKnow, added}
use Rattle.ss_commitlog.proofs.CallerLemmas.{own_part}
use Rattle.ss_commitlog.proofs.Replaying.{after_more, known_inputs}
use Rattle.ss_hand.specs.declared.hand.Hand.{Hand}
use Rattle.ss_hand.specs.Hands.{IsInHand}
use Rattle.ss_turns.specs.Runs.{AreGiven, EndedAsSaid, HasCommitted, HasRun, HasStayed}
use Rattle.ss_hand.proofs.CallerLemmas.{holds_same_parts}
use Rattle.ss_turns.proofs.Marks.{agree_behind, agree_fewer, same_held, same_roles}

-- ---- what an entry that ran beside blanks gives

same_emitted : (catalog : Catalog) (n : ℕ) (held : ℕ → _) (e : Entry) (a : Applied) → emitted_batches catalog e (blank_after catalog n held a) ≡ emitted_batches catalog e a
same_emitted catalog n held (Call client index q args) a = refl
same_emitted catalog n held (Push client index s source seq rows) a = refl
same_emitted catalog n held (Install client index q text) a = refl
same_emitted catalog n held (StepEntry q r) a = refl

beside_gives : (catalog : Catalog) (n : ℕ) (held : List ℕ) (d : Database) (l : Listed) (emitted : List Emitted) (now : ShardValue) → RanBeside catalog n held d l.entry (record { outcome = l.outcome; emitted = emitted }) now → Gives catalog d l emitted
beside_gives catalog n held d l emitted now b = (
  b.applied,
  b.value,
  sym (b.ran.outcome ∙ ap (λ (a : Applied). a.outcome) b.same),
  b.ran.emitted ∙ ap (emitted_batches catalog l.entry) b.same ∙ same_emitted catalog n (is_among held) l.entry b.applied,
)

-- ---- databases that have the same streams

same_batches : (x y : Database) (r : ℕ) (ss : List ℕ) → ((s : ℕ) → slice_get (stream_batches x s) r ≡ slice_get (stream_batches y s) r) → AllByRecursion (λ s. slice_get (stream_batches x s) r ≡ slice_get (stream_batches y s) r) ss
same_batches x y r [] same = tt
same_batches x y r (s ∷ ss) same = (same s, same_batches x y r ss same)

abbrev with_streams : Database → Database → Database
with_streams d source = record d { streams = source.streams }

same_inputs : (catalog : Catalog) (e : Entry) (d source : Database) → SameInputs catalog e (with_streams d source) source
same_inputs catalog (Call client index q args) d source = tt
same_inputs catalog (Push client index s name seq rows) d source = tt
same_inputs catalog (Install client index q text) d source = tt
same_inputs catalog (StepEntry q r) d source = λ p is. same_batches (with_streams d source) source r p.inputs (λ s. refl)

more_know : (catalog : Catalog) (db d : Database) (ks ms : List Known) → ((k : Known) → In k ks → In k ms) → (e : Entry) → IsKnownTo catalog db ks e d → IsKnownTo catalog db ms e d
more_know catalog db d ks ms more (Call client index q args) known = tt
more_know catalog db d ks ms more (Push client index s source seq rows) known = tt
more_know catalog db d ks ms more (Install client index q text) known = tt
more_know catalog db d ks ms more (StepEntry q r) known = (known.0, more known.0 known.1, known.2)

-- ---- the marks of the partitions, as they come back with what is said of an entry

abbrev pub Came : Catalog → ℕ → List Known → Listed → List Known → Result Placed Unlisted → Type 0
Came catalog n ks l ks' (Ok placed) = (list : List Item) × (roles : List Role) × AllKnow (added list roles l) ks ks' × AllContinue catalog n list ks
Came catalog n ks l ks' (Err NoMemory) = ks' ≡ ks
Came catalog n ks l ks' (Err (ListFull count)) = (list : List Item) × AllKnow list ks ks' × AllContinue catalog n list ks

module _ {I : Type 0} (catalog : Catalog) (accepted : Accepted catalog) (n : ℕ) (some : 1 ≤ n) (db : Database) (held : List ℕ) (hand : Hand I) (in_hand : IsInHand catalog n db held hand) where
  -- the shard holds its parts of each database that the marks agree with
  holds_where : (d : Database) → AgreesWith catalog n db hand.marks d → HoldsParts catalog n held hand.shard d
  holds_where d agrees =
      holds_same_parts catalog n some in_hand.of_one.database d held (subst (λ (ps : List ℕ). 1 ≤ length ps) in_hand.numbers (omega arith))
      (same_held catalog n db held hand.marks in_hand.roles in_hand.of_one.database d in_hand.of_one.agrees agrees) hand.shard in_hand.of_one.holds

  behind : (list : List Item) → AllContinue catalog n list hand.marks → AgreesWith catalog n db hand.marks (after catalog db (listed_of list))
  behind list all = own_part catalog accepted n some db list hand.marks all

  -- it holds its parts behind each list that goes on from what the marks know
  pub holds_behind : (list : List Item) → AllContinue catalog n list hand.marks → HoldsParts catalog n held hand.shard (after catalog db (listed_of list))
  holds_behind list all = holds_where (after catalog db (listed_of list)) (behind list all)

  -- nothing changed
  pub still_in_hand : (shard : ShardValue) → HasStayed catalog n hand.shard shard → IsInHand catalog n db held (record hand { shard = shard })
  still_in_hand shard stays = record {
    rising = in_hand.rising;
    run = in_hand.run;
    numbers = ap (λ (p : ℕ). p ∷ numbers_of hand.shells.items) stays.number ∙ in_hand.numbers;
    parts = stays.parts held in_hand.parts;
    left = in_hand.left;
    roles = in_hand.roles;
    of_one = record { database = in_hand.of_one.database; holds = stays.holds held in_hand.of_one.database in_hand.of_one.holds; agrees = in_hand.of_one.agrees };
  }

  -- the marks know more, of which nothing touches what is in hand
  pub known_in_hand : (shard : ShardValue) (ks : List Known) (list : List Item) → HasStayed catalog n hand.shard shard → AllKnow list hand.marks ks → AllContinue catalog n list hand.marks → IsInHand catalog n db held (record hand { shard = shard; marks = ks })
  known_in_hand shard ks list stays know all =
      let d = after catalog db (listed_of list) in
      record {
        rising = in_hand.rising;
        run = in_hand.run;
        numbers = ap (λ (p : ℕ). p ∷ numbers_of hand.shells.items) stays.number ∙ in_hand.numbers;
        parts = stays.parts held in_hand.parts;
        left = in_hand.left;
        roles = same_roles list hand.marks ks know ∙ in_hand.roles;
        of_one = record { database = d; holds = stays.holds held d (holds_where d (behind list all)); agrees = agree_behind catalog n db list hand.marks ks know };
      }

  module _ (l : Listed) (batches : List Rows) (touched : HoldsTouched catalog n (is_among held) l.entry) (given : AreGiven catalog db hand.marks l.entry batches) where
    -- an entry that ran is right for the log
    module _ (emitted : List Emitted) (now : ShardValue) (run : HasRun catalog n hand.shard now l batches emitted) where
      gives_on : (d : Database) → HoldsParts catalog n held hand.shard d → SameInputs catalog l.entry d given.source → Gives catalog d l emitted
      gives_on d holds same = beside_gives catalog n held d l emitted now (run.ran held touched d holds (given.at_hand d same))

      holds_there : HoldsParts catalog n held hand.shard (with_streams in_hand.of_one.database given.source)
      holds_there = let holds = in_hand.of_one.holds in record { contents = holds.contents; counts = holds.counts; numbers = holds.numbers; bodies = holds.bodies }

      pub right_in_hand : (ms : List Known) → ((k : Known) → In k hand.marks → In k ms) → IsRight catalog n db ms l emitted
      right_in_hand ms more = record {
        source = given.source;
        known = more_know catalog db given.source hand.marks ms more l.entry given.known;
        inputs = given.inputs;
        witness = with_streams in_hand.of_one.database given.source;
        given = gives_on (with_streams in_hand.of_one.database given.source) holds_there (same_inputs catalog l.entry in_hand.of_one.database given.source);
        gives = λ d agrees same. gives_on d (holds_where d (agree_fewer catalog n db d hand.marks ms more agrees)) same;
      }

    -- the shard then has its parts of what the entry leaves
    listed_in_hand : (shard : ShardValue) (ks : List Known) (list : List Item) (roles : List Role) → HasCommitted catalog n hand.shard shard l.entry batches → AllKnow (added list roles l) hand.marks ks → AllContinue catalog n list hand.marks
        → IsInHand catalog n db held (record hand { shard = shard; marks = ks })
    listed_in_hand shard ks list roles done know all =
        let d = after catalog db (listed_of list) in
        let same = known_inputs catalog n db list hand.marks l.entry given.source all given.known given.inputs in
        let left = done.holds held touched d (holds_where d (behind list all)) (given.at_hand d same) in
        let is = after_more catalog db list roles l left.applied left.value in
        record {
          rising = in_hand.rising;
          run = in_hand.run;
          numbers = ap (λ (p : ℕ). p ∷ numbers_of hand.shells.items) done.number ∙ in_hand.numbers;
          parts = done.parts held in_hand.parts;
          left = in_hand.left;
          roles = same_roles (added list roles l) hand.marks ks know ∙ in_hand.roles;
          of_one = record {
            database = after catalog db (listed_of (added list roles l));
            holds = subst (HoldsParts catalog n held shard) (sym is) left.holds;
            agrees = agree_behind catalog n db (added list roles l) hand.marks ks know;
          };
        }

    pub ended_in_hand : (shard : ShardValue) (ks : List Known) (said : Result Placed Unlisted) → EndedAsSaid catalog n hand.shard shard l.entry batches said → Came catalog n hand.marks l ks said → IsInHand catalog n db held (record hand { shard = shard; marks = ks })
    ended_in_hand shard ks (Ok placed) ended came = let (list, roles, know, all) = came in listed_in_hand shard ks list roles ended know all
    ended_in_hand shard ks (Err NoMemory) ended came = subst (λ (ms : List Known). IsInHand catalog n db held (record hand { shard = shard; marks = ms })) (sym came) (still_in_hand shard ended)
    ended_in_hand shard ks (Err (ListFull count)) ended came = let (list, know, all) = came in known_in_hand shard ks list ended know all
