-- An entry whose value is known behind a list is right for marks that all know that list.
use Rattle.std.proofs.Common.{◌≡◌, inl, inr, ⊎_elim, ◌≤◌, ◌<◌, ℕ, nat_lt, true, List, [], ◌∷◌, length, slice_get, refl, sym, ap, ◌∙◌, subst, Some, None}
use Rattle.std.proofs.lemmas.Bool.{ltb-true}
use Rattle.std.specs.declared.option.Option.{Option}
use Rattle.std.specs.List.{AllByRecursion, list_all}
use Rattle.ss_lemmas.proofs.Bools.{first_of_two, second_of_two}
use Rattle.ss_value.specs.Rows.{Rows}
use Rattle.ss_model.specs.declared.catalog.Catalog.{Catalog}
use Rattle.ss_model.specs.declared.catalog.Procedure.{Procedure}
use Rattle.ss_model.specs.declared.entry.Entry.{Entry}
use Rattle.ss_model.specs.declared.entry.Entry.TheVariants.{Call, Push, Step as StepEntry, Install}
use Rattle.ss_model.specs.declared.entry.Emitted.{Emitted}
use Rattle.ss_model.specs.declared.entry.Listed.{Listed}
use Rattle.ss_model.specs.Accepted.{Accepted}
use Rattle.ss_model.specs.Batches.{emitted_batches, output_batches, pushed_batch}
use Rattle.ss_model.specs.Database.{Database, Applied, apply, apply_step, is_ready, stream_batches}
use Rattle.ss_model.specs.parts.Locality.{SameApplied}
use Rattle.ss_model.specs.Partitions.{part, touches}
use Rattle.ss_model.specs.Replays.{after}
use Rattle.ss_model_laws.proofs.CallerLemmas.{entry_is_local}
use Rattle.ss_commitlog.specs.declared.role.Role.{Role}
use Rattle.ss_commitlog.specs.declared.role.Role.TheVariants.{Part}
use Rattle.ss_commitlog.specs.declared.rule.Item.{Item}
use Rattle.ss_commitlog.specs.Meaning.{listed_of}
use Rattle.ss_commitlog.specs.Roles.{In}
use Rattle.ss_commitlog.specs.Right.{AgreesWith, Gives, HasInputs, IsKnownTo, IsRight, known_database}
use Rattle.ss_commitlog.specs.Tokens.{Covers, Known, roles_of}
use Rattle.ss_commitlog.proofs.Values.{when_value}

-- a role among those of some tokens is one token's
pub token_of : (role : Role) (ks : List Known) → In role (roles_of ks) → (k : Known) × In k ks × (k.role ≡ role)
token_of role [] i = absurd i
token_of role (k ∷ ks) i = ⊎_elim (λ (e : role ≡ k.role). (k, inl refl, sym e)) (λ (j : In role (roles_of ks)). let (x, there, is) = token_of role ks j in (x, inr there, is)) i

-- the batches of an entry go by its outcome and by what its body emitted
same_batches : (catalog : Catalog) (e : Entry) (a b : Applied) → a.outcome ≡ b.outcome → a.emitted ≡ b.emitted → emitted_batches catalog e a ≡ emitted_batches catalog e b
same_batches catalog (Call client index q args) a b o em = refl
same_batches catalog (Push client index s source seq rows) a b o em = ap (pushed_batch s rows) o
same_batches catalog (Install client index q text) a b o em = refl
same_batches catalog (StepEntry q r) a b o em = ap (λ (x : List Rows). output_batches catalog x (slice_get catalog.procedures q)) em

-- an entry that has the same effect gives the same
same_gives : (catalog : Catalog) (parts : ℕ) (d : Database) (l : Listed) (em : List Emitted) (a : Applied) → a.outcome ≡ l.outcome → em ≡ emitted_batches catalog l.entry a
    → (o : Option Applied) → apply catalog d l.entry ≡ o → SameApplied catalog parts l.entry o (Some a) → Gives catalog d l em
same_gives catalog parts d l em a outcome batches None is h = absurd h
same_gives catalog parts d l em a outcome batches (Some b) is h = (b, is, h.outcome ∙ outcome, batches ∙ sym (same_batches catalog l.entry b a h.outcome h.emitted))

below_all : (d : Database) (r : ℕ) (ss : List ℕ) → list_all (λ s. nat_lt r (length (stream_batches d s))) ss ≡ true → AllByRecursion (λ s. r < length (stream_batches d s)) ss
below_all d r [] e = tt
below_all d r (s ∷ ss) e = (ltb-true r (length (stream_batches d s)) (first_of_two _ _ e), below_all d r ss (second_of_two _ _ e))

step_inputs : (catalog : Catalog) (d : Database) (q r : ℕ) (p : Procedure) (a : Applied) → apply_step catalog d q r (Some p) ≡ Some a → AllByRecursion (λ s. r < length (stream_batches d s)) p.inputs
step_inputs catalog d q r p a e = below_all d r p.inputs (second_of_two _ _ (when_value (is_ready d q r p) _ a e))

-- where an entry has a value its batches are there
has_inputs : (catalog : Catalog) (d : Database) (e : Entry) (a : Applied) → apply catalog d e ≡ Some a → HasInputs catalog e d
unfolding apply
has_inputs catalog d (Call client index q args) a is = tt
has_inputs catalog d (Push client index s source seq rows) a is = tt
has_inputs catalog d (Install client index q text) a is = tt
has_inputs catalog d (StepEntry q r) a is = λ p named. step_inputs catalog d q r p a (ap (apply_step catalog d q r) (sym named) ∙ is)

is_known : (catalog : Catalog) (db : Database) (ks : List Known) (e : Entry) (k : Known) → In k ks → IsKnownTo catalog db ks e (known_database catalog db k)
is_known catalog db ks (Call client index q args) k i = tt
is_known catalog db ks (Push client index s source seq rows) k i = tt
is_known catalog db ks (Install client index q text) k i = tt
is_known catalog db ks (StepEntry q r) k i = (k, i, refl)

module _ (catalog : Catalog) (accepted : Accepted catalog) (parts : ℕ) (some : 1 ≤ parts) (db : Database) (list : List Item) (ks : List Known) (one : (k : Known) → In k ks → k.list ≡ list) (first : Known)
    (first_in : In first ks) where
  -- the database behind the list
  abbrev behind : Database
  behind = known_database catalog db first

  known_as : (k : Known) → In k ks → known_database catalog db k ≡ behind
  known_as k i = ap (λ (l : List Item). after catalog db (listed_of l)) (one k i ∙ sym (one first first_in))

  same_parts : (l : Listed) → Covers catalog parts (roles_of ks) l.entry → (d : Database) → AgreesWith catalog parts db ks d → (p : ℕ) → touches catalog parts l.entry p ≡ true → part catalog parts p d ≡ part catalog parts p behind
  same_parts l covers d agrees p touched =
      let (k, i, is) = token_of (Part p) ks (covers (Part p) touched) in
      agrees p k i is ∙ ap (part catalog parts p) (known_as k i)

  pub right_at_one_list : (l : Listed) (em : List Emitted) → Covers catalog parts (roles_of ks) l.entry → Gives catalog (known_database catalog db first) l em → IsRight catalog parts db ks l em
  right_at_one_list l em covers (a, is, outcome, batches) = record {
    source = behind;
    known = is_known catalog db ks l.entry first first_in;
    inputs = has_inputs catalog behind l.entry a is;
    witness = behind;
    given = (a, is, outcome, batches);
    gives = λ d agrees same.
        same_gives catalog parts d l em a outcome batches (apply catalog d l.entry) refl
        (subst (SameApplied catalog parts l.entry (apply catalog d l.entry)) is
        ((entry_is_local catalog accepted parts some l.entry).depends d behind (same_parts l covers d agrees) same));
  }
