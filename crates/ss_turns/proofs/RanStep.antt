-- A step that ran on the parts in hand.
use Rattle.std.proofs.Common.{◌<◌, true, length, refl, slice_get, Some, None, Ok, Err, true≢false, ◌≡◌, ℕ, List, sym, ap, subst, ◌∙◌}
use Rattle.std.proofs.lemmas.Option.{slice_get_within}
use Rattle.std.specs.declared.option.Option.{Option}
use Rattle.std.specs.declared.result.Result.{Result}
use Rattle.std.specs.Prelude.{IsOkAnd, MatchResult}
use Rattle.ss_model.specs.declared.catalog.Catalog.{Catalog}
use Rattle.ss_model.specs.declared.catalog.Procedure.{Procedure}
use Rattle.ss_model.specs.declared.entry.Entry.TheVariants.{Step as StepEntry}
use Rattle.ss_model.specs.declared.entry.Listed.{Listed}
use Rattle.ss_model.specs.Database.{Database, has_step}
use Rattle.ss_commitlog.specs.declared.placed.Placed.{Placed}
use Rattle.ss_commitlog.specs.declared.placed.Unlisted.{Unlisted}
use Rattle.ss_commitlog.specs.declared.placed.Unlisted.TheVariants.{NoMemory, ListFull}
use Rattle.ss_commitlog.specs.declared.role.Role.{Role}
use Rattle.ss_commitlog.specs.Tokens.{Known, AllKnow, added, roles_of}
use Rattle.ss_turns.specs.Commits.{CommitsListed}
use Rattle.ss_turns.specs.Executed.{IsStepped}
use Rattle.ss_turns.specs.Runs.{SaysOnly}
use Rattle.ss_turns.specs.Stepping.{EachGoesOn, LacksWhereNotReady, stepped_of}
use Rattle.ss_turns.proofs.InHand.{Came}
use Rattle.ss_turns.proofs.MarksOn.{all_on_and_on, all_on_itself, continue_through, know_through, roles_go_on}

-- what its commit says, and the marks behind it
module _ (catalog : Catalog) (n first limit : ℕ) (ks : List Known) (l : Listed) (ks' : List Known) where
  pub says_listed : (said : Result Placed Unlisted) → CommitsListed catalog n first limit ks l ks' said → SaysOnly l said
  says_listed (Ok placed) done = let (list, at, small, same, know, all) = done in same
  says_listed (Err unlisted) done = tt

  pub came_listed : (said : Result Placed Unlisted) → CommitsListed catalog n first limit ks l ks' said → Came catalog n ks l ks' said
  came_listed (Ok placed) done = let (list, at, small, same, know, all) = done in (list, roles_of ks, know, all)
  came_listed (Err NoMemory) done = done
  came_listed (Err (ListFull count)) done = let (list, count_is, full, know, all) = done in (list, know, all)

-- a step that ran had its batches
pub lacks_nothing : (catalog : Catalog) (db : Database) (ks : List Known) (q r : ℕ) (said : Result Placed Unlisted) → LacksWhereNotReady catalog db ks q r (stepped_of said)
lacks_nothing catalog db ks q r (Ok placed) = tt
lacks_nothing catalog db ks q r (Err unlisted) = tt

-- what is mapped by `Some` is what became of the step
pub mapped_some : (said : Result Placed Unlisted) (did : Result (Option Placed) Unlisted) → MatchResult said (λ placed. IsOkAnd did (λ x. x ≡ Some placed)) (λ e. did ≡ Err e) → did ≡ stepped_of said
mapped_some (Ok placed) (Ok x) is = ap Ok is
mapped_some (Ok placed) (Err e) is = absurd is
mapped_some (Err unlisted) did is = is

-- a procedure that has a step is there
pub step_there : (ps : List Procedure) (q : ℕ) → has_step (slice_get ps q) ≡ true → q < length ps
step_there ps q has = by (slice_get ps q) refl has
  where
    by : (o : Option Procedure) → slice_get ps q ≡ o → has_step o ≡ true → q < length ps
    by None is h = absurd (true≢false (sym h))
    by (Some p) is h = slice_get_within ps q p is

-- what is said of a step
pub stepped_so : (catalog : Catalog) (parts first limit q r : ℕ) (ks ms : List Known) (l : Listed) → l.entry ≡ StepEntry q r → (said : Result Placed Unlisted) → CommitsListed catalog parts first limit ks l ms said
    → IsStepped catalog parts first limit q ks ms (stepped_of said)
stepped_so catalog parts first limit q r ks ms l is (Ok placed) done =
    let (list, at, small, same, know, all) = done in
    (list, r, at, small, ap (λ (x : Listed). x.entry) same ∙ is, subst (λ (x : Listed). AllKnow (added list (roles_of ks) x) ks ms) (sym same) know, all)
stepped_so catalog parts first limit q r ks ms l is (Err NoMemory) done = subst (λ (x : List Known). EachGoesOn catalog parts ks x) (sym done) (all_on_itself catalog parts ks)
stepped_so catalog parts first limit q r ks ms l is (Err (ListFull count)) done = done

pub stepped_through : (catalog : Catalog) (parts first limit q : ℕ) (ks ls ms : List Known) → EachGoesOn catalog parts ks ls → (did : Result (Option Placed) Unlisted) → IsStepped catalog parts first limit q ls ms did
    → IsStepped catalog parts first limit q ks ms did
stepped_through catalog parts first limit q ks ls ms all (Ok (Some placed)) done =
    let (list, r, at, small, is, know, on) = done in (
      list,
      r,
      at,
      small,
      is,
      know_through catalog parts (added list (roles_of ks) placed.listed) ks ls ms all
          (subst (λ (rs : List Role). AllKnow (added list rs placed.listed) ls ms) (roles_go_on catalog parts ks ls all) know),
      continue_through catalog parts list ks ls all on,
    )
stepped_through catalog parts first limit q ks ls ms all (Ok None) done = all_on_and_on catalog parts ks ls ms all done
stepped_through catalog parts first limit q ks ls ms all (Err NoMemory) done = all_on_and_on catalog parts ks ls ms all done
stepped_through catalog parts first limit q ks ls ms all (Err (ListFull count)) done =
    let (list, count_is, long, know, on) = done in
    (list, count_is, long, know_through catalog parts list ks ls ms all know, continue_through catalog parts list ks ls all on)
