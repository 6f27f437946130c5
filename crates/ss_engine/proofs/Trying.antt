-- The next step of a procedure, which is tried.
use Rattle.std.proofs.Common.{⊎_elim, ◌≡◌, ℕ, ◌≤◌, ◌<◌, true, slice_get, Result, Ok, Err, IfOk, List, [], ◌∷◌, ◌++◌, length, sym, ap, ◌∙◌, subst, arith, append_assoc, IfSome, Some, None}
use Rattle.std.specs.declared.option.Option.{Option}
use Rattle.ss_model.specs.declared.catalog.Catalog.{Catalog}
use Rattle.ss_model.specs.declared.catalog.Procedure.{Procedure}
use Rattle.ss_model.specs.declared.entry.Entry.{Entry}
use Rattle.ss_model.specs.declared.entry.Entry.TheVariants.{Step as StepEntry}
use Rattle.ss_model.specs.Database.{Database, has_step, is_streaming}
use Rattle.ss_model.specs.Orders.{procedure_has}
use Rattle.ss_model.proofs.CallerLemmas.{few_procedures, home_below, procedure_there}
use Rattle.ss_model.specs.Accepted.{Accepted}
use Rattle.ss_commitlog.specs.declared.placed.Placed.{Placed}
use Rattle.ss_commitlog.specs.declared.placed.Unlisted.{Unlisted}
use Rattle.ss_commitlog.specs.declared.placed.Unlisted.TheVariants.{NoMemory, ListFull}
use Rattle.ss_commitlog.specs.declared.role.Role.TheVariants.{Log}
use Rattle.ss_commitlog.specs.declared.rule.Item.{Item}
use Rattle.ss_commitlog.specs.Reading.{IsReadyAt}
use Rattle.ss_commitlog.specs.Roles.{In}
use Rattle.ss_commitlog.specs.Rule.{item}
use Rattle.ss_commitlog.specs.Tokens.{Known, AllContinue, AllKnow, Continues, roles_of}
use Rattle.ss_engine.specs.declared.partition.pumped.Pumped.{Pumped}
use Rattle.ss_turns.specs.Executed.{IsStepped}
use Rattle.ss_commitlog.specs.Growing.{GoesOn}
use Rattle.ss_engine.specs.Pumped.{IsLeastOf, IsPumped, AfterPump}
use Rattle.ss_engine.specs.Tried.{StepsAt, tried_of, IsOfProcedure, IsTried}
use Rattle.ss_commitlog.proofs.CallerLemmas.{on_and_on, on_longer}
use Rattle.ss_settle.proofs.CallerLemmas.{ready_fits}
use Rattle.ss_engine.proofs.Pumps.{after_later, pumped_later}

-- a procedure that is ready at a partition takes its steps there
pub ready_steps : (catalog : Catalog) (n : ℕ) (d : Database) (p q : ℕ) → IsReadyAt catalog n d p q → StepsAt catalog n p q
ready_steps catalog n d p q ready = (ready.0, ready_fits catalog n d p q ready)

step_there : (ps : List Procedure) (q : ℕ) → has_step (slice_get ps q) ≡ true → q < length ps
step_there ps q e = procedure_there (λ p. is_streaming p.kind) ps q (as_test (slice_get ps q) e)
  where
    as_test : (o : Option Procedure) → has_step o ≡ true → procedure_has (λ p. is_streaming p.kind) o ≡ true
    as_test None t = cc
    as_test (Some p) t = t

-- a step that fits is that of one of these
pub steps_below : (catalog : Catalog) → Accepted catalog → (n p q : ℕ) → StepsAt catalog n p q → q < 64
steps_below catalog accepted n p q (home, fits) = let there = step_there catalog.procedures q fits in let few = few_procedures catalog accepted.form in omega arith

pub steps_run : (catalog : Catalog) (n : ℕ) → 1 ≤ n → (p q : ℕ) → StepsAt catalog n p q → p < n
steps_run catalog n some p q (home, fits) = subst (λ z. z < n) home (home_below n (slice_get catalog.procedures q) some)

-- what an execution on some marks left each of them to know
each_knows : (list : List Item) (ks ls : List Known) (m : Known) → AllKnow list ks ls → In m ls → m.list ≡ list
each_knows list [] [] m all i = absurd i
each_knows list [] (l ∷ ls) m all i = absurd all
each_knows list (k ∷ ks) [] m all i = absurd all
each_knows list (k ∷ ks) (l ∷ ls) m all i = ⊎_elim (λ (e : m ≡ l). ap (λ (x : Known). x.list) e ∙ all.0.list_is) (λ (j : In m ls). each_knows list ks ls m all.1 j) i

pub own_procedure : (catalog : Catalog) (n first limit q : ℕ) (ks ls : List Known) (s : Result (Option Placed) Unlisted) → IsStepped catalog n first limit q ks ls s → IsOfProcedure q s
own_procedure catalog n first limit q ks ls (Ok (Some placed)) done = let (list, r, at, small, step, all, on) = done in (r, step)
own_procedure catalog n first limit q ks ls (Ok None) done = tt
own_procedure catalog n first limit q ks ls (Err why) done = tt

-- a note knew what the marks in hand knew, and met one of them again behind the step
module _ (catalog : Catalog) (n : ℕ) (db : Database) (first limit p q : ℕ) (ks ls : List Known) (k shown end : Known) (least : (r : ℕ) → IsLeastOf catalog n (StepEntry q r) p)
    (one_of : In k ks) (met : k.list ≡ shown.list) (last : (m : Known) × In m ls × Continues catalog n end.list m) (short : length end.list ≤ limit) where
  begins : (list : List Item) → AllContinue catalog n list ks → length shown.list ≤ length list
  begins list on = let a = on_longer catalog n list k (on k one_of) in let b : length k.list ≡ length shown.list = ap (λ (z : List Item). length z) met in omega arith

  tried_is : (s : Result (Option Placed) Unlisted) → IsStepped catalog n first limit q ks ls s → IfSome (tried_of s) (AfterPump catalog n db first limit p shown end)
  tried_is (Ok (Some placed)) done =
      let (list, r, at, small, step, all, on) = done in
      let it : Item = item placed.listed (roles_of ks ++ Log ∷ []) in
      let (m, m_in, more) = last in
      let m_is : m.list ≡ list ++ it ∷ [] = each_knows (list ++ it ∷ []) ks ls m all m_in in
      let whole : end.list ≡ list ++ it ∷ more.rest = more.is ∙ ap (λ (z : List Item). z ++ more.rest) m_is ∙ append_assoc list (it ∷ []) more.rest in
      let a = begins list on in
      ((list, it, more.rest, whole, at, subst (λ (e : Entry). IsLeastOf catalog n e p) (sym step) (least r)), omega arith)
  tried_is (Ok None) done = tt
  tried_is (Err NoMemory) done = tt
  tried_is (Err (ListFull count)) done =
      let (list, count_is, full, all, on) = done in
      let (m, m_in, more) = last in
      let m_is : m.list ≡ list = each_knows list ks ls m all m_in in
      let a = on_longer catalog n end.list m more in
      let b : length m.list ≡ length list = ap (λ (z : List Item). length z) m_is in
      (omega arith, count_is)

  pub step_tried : GoesOn catalog n shown end → (s : Result (Option Placed) Unlisted) → IsStepped catalog n first limit q ks ls s → (did : Option Pumped) → did ≡ tried_of s → IsTried catalog n db first limit p shown end did
  step_tried to_end s done did same = subst (λ (o : Option Pumped). IsTried catalog n db first limit p shown end o) (sym same) (record { on = to_end; did_is = tried_is s done })

-- the note had gone on before
pub tried_later : (catalog : Catalog) (n : ℕ) (db : Database) (first limit p : ℕ) (a b c : Known) (o : Option Pumped) → GoesOn catalog n a b → IsTried catalog n db first limit p b c o
    → IsTried catalog n db first limit p a c o
tried_later catalog n db first limit p a b c None on is = record { on = on_and_on catalog n a b c on is.on; did_is = tt }
tried_later catalog n db first limit p a b c (Some d) on is = record { on = on_and_on catalog n a b c on is.on; did_is = after_later catalog n db first limit p a b c d on is.did_is }

-- where something is said of it, that is what the pump says
pub tried_pumps : (catalog : Catalog) (n : ℕ) (db : Database) (first limit p : ℕ) (a b c : Known) (o : Option Pumped) (did : Pumped) → GoesOn catalog n a b → IsTried catalog n db first limit p b c o → o ≡ Some did
    → IsPumped catalog n db first limit p a c did
tried_pumps catalog n db first limit p a b c o did on is same =
    pumped_later catalog n db first limit p a b c did on (record { on = is.on; did_is = subst (λ (x : Option Pumped). IfSome x (AfterPump catalog n db first limit p b c)) same is.did_is })

-- what holds of a result where it is no error
pub of_ok : {A E : Type 0} (r : Result A E) (x : A) (P : A → Type 0) → r ≡ Ok x → IfOk r P → P x
of_ok r x P is all = subst (λ z. IfOk z P) is all
