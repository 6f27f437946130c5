-- The catalogue is accepted, and what both clients ask for is right.
use Rattle.std.proofs.Common.{◌≡◌, ◌==◌, inl, inr, ⊎_elim, ℕ, zero, suc, nat_lt, cond, codes, Bool, true, false, List, [], ◌∷◌, length, slice_get, refl, sym, ap, ◌∙◌, subst, Some, None, unwrap_or, arith}
use Rattle.std.proofs.lemmas.Bool.{and_from, lt-ltb}
use Rattle.std.specs.Cmp.Lexicographic.{slice_cmp}
use Rattle.std.specs.Ordering.{nat_cmp}
use Rattle.std.specs.Str.{bytes_eq}
use Rattle.std.specs.FinMap.{get-empty}
use Rattle.std.specs.declared.option.Option.{Option}
use Rattle.ss_lemmas.proofs.Numbers.{eqb_is, eqb_self}
use Rattle.ss_value.specs.Rows.{Rows}
use Rattle.ss_model.specs.declared.entry.Outcome.{Outcome}
use Rattle.ss_model.specs.declared.entry.Outcome.TheVariants.{Done}
use Rattle.ss_model.specs.Accepted.{Accepted, UsesItsOwn}
use Rattle.ss_model.specs.Batches.{pushed_batch}
use Rattle.ss_model.specs.Bodies.{run_body}
use Rattle.ss_model.specs.declared.catalog.Procedure.{Procedure}
use Rattle.ss_model.specs.Database.{Applied, Database, apply, batch_count, body_text, empty_database, input_batches, is_ready, next_number, numbered_push, only_when, present, run_procedure, stepped, stepped_on, stream_batches, with_body}
use Rattle.ss_model.specs.Typing.{catalog_typed}
use Rattle.ss_model.proofs.CallerLemmas.{Tested, accepted_of, tested_of}
use Rattle.ss_model_laws.proofs.CallerLemmas.{matching_stays}
use Rattle.ss_commitlog.specs.declared.role.Role.{Role}
use Rattle.ss_commitlog.specs.declared.role.Role.TheVariants.{Reader, Part, Client, Disk, Log}
use Rattle.ss_commitlog.specs.Reading.{found_batch}
use Rattle.ss_commitlog.specs.Roles.{In}
use Rattle.ss_commitlog.specs.Tokens.{Covers, Known, known}
use Rattle.ss_commitlog.specs.Right.{Gives, IsRight, known_database}
use Rattle.ss_commitlog.specs.Committing.{IsOpening}
use Rattle.ss_commitlog.proofs.CallerLemmas.{right_at_one_list}
use Rattle.ss_commitlog_tests.specs.Lives.{pair_of}
use Rattle.ss_commitlog_tests.specs.Workflow.{taker, note, workflow, push, pushed, step, call}

tested : Tested workflow (λ p. 0)
tested = tested_of workflow (λ p. 0) refl

typed : catalog_typed workflow ≡ true
typed = refl

taker_local : UsesItsOwn workflow 0 taker
taker_local = record { local = λ args. record { steps = tt; owned = λ w o. o; triggers = λ w o. cc }; limited = tt }

note_local : UsesItsOwn workflow 1 note
note_local = record { local = λ args. record { steps = tt; owned = λ w o. o; triggers = λ w o. cc }; limited = tt }

pub accepted : Accepted workflow
accepted = accepted_of workflow (λ p. 0) tested typed (taker_local, (note_local, tt))

pub opening : IsOpening workflow 2 (empty_database workflow)
opening = record { accepted = accepted; some = omega arith; matches = (matching_stays workflow accepted.structure.streams.wired).starts }

-- ---- whom the entries concern

pub push_covers : Covers workflow 2 (Part 0 ∷ Client 0 ∷ []) push.entry
push_covers Reader t = cc
push_covers (Part p) t = inl (ap Part (eqb_is p 0 t))
push_covers (Client c) t = inr (inl (ap Client (sym (eqb_is 0 c t))))
push_covers Disk t = cc
push_covers Log t = cc

pub step_covers : Covers workflow 2 (Part 0 ∷ []) step.entry
step_covers Reader t = cc
step_covers (Part p) t = inl (ap Part (eqb_is p 0 t))
step_covers (Client c) t = cc
step_covers Disk t = cc
step_covers Log t = cc

pub call_covers : Covers workflow 2 (Part 1 ∷ Client 1 ∷ []) call.entry
call_covers Reader t = cc
call_covers (Part p) t = inl (ap Part (eqb_is p 1 t))
call_covers (Client c) t = inr (inl (ap Client (sym (eqb_is 1 c t))))
call_covers Disk t = cc
call_covers Log t = cc

-- ---- the push and the call, at the opening

opened : (n first : ℕ) (k : Known) → In k (pair_of n first) → k.list ≡ []
opened n first k i = ⊎_elim (λ (e : k ≡ known (Part n) [] first 0). ap (λ (x : Known). x.list) e) (λ (j : In k (known (Client n) [] first 0 ∷ [])). ⊎_elim (λ (e : k ≡ known (Client n) [] first 0). ap (λ (x : Known). x.list) e) (λ z. absurd z) j) i

no_number : next_number (empty_database workflow) 0 (codes "k") ≡ 0
no_number = ap (λ (o : Option ℕ). unwrap_or o 0) (get-empty (slice_cmp nat_cmp) (codes "k"))

accepted_first : (numbered_push (empty_database workflow) 0 (codes "k") 0 [] (next_number (empty_database workflow) 0 (codes "k"))).outcome ≡ Done []
accepted_first = subst (λ n. (numbered_push (empty_database workflow) 0 (codes "k") 0 [] n).outcome ≡ Done []) (sym no_number) refl

push_gives : Gives workflow (empty_database workflow) push pushed
unfolding apply
push_gives = (
  numbered_push (empty_database workflow) 0 (codes "k") 0 [] (next_number (empty_database workflow) 0 (codes "k")),
  refl,
  accepted_first,
  ap (λ (o : Outcome). pushed_batch 0 [] o) (sym accepted_first),
)

call_gives : Gives workflow (empty_database workflow) call []
unfolding apply run_body
call_gives = (_, refl, refl, refl)

pub push_right : (first : ℕ) → IsRight workflow 2 (empty_database workflow) (pair_of 0 first) push pushed
push_right first =
    right_at_one_list workflow accepted 2 (omega arith) (empty_database workflow) [] (pair_of 0 first) (opened 0 first) (known (Part 0) [] first 0) (inl refl) push pushed push_covers push_gives

pub call_right : (first : ℕ) → IsRight workflow 2 (empty_database workflow) (pair_of 1 first) call []
call_right first = right_at_one_list workflow accepted 2 (omega arith) (empty_database workflow) [] (pair_of 1 first) (opened 1 first) (known (Part 1) [] first 0) (inl refl) call [] call_covers call_gives

-- ---- the step, where its batch was found

ready_by : (n : ℕ) (bs : List Rows) (rows : Rows) → cond (nat_lt 0 n) None (slice_get bs 0) ≡ Some rows → ((n == 0) ≡ true) × (nat_lt 0 (length bs) ≡ true)
ready_by zero [] rows e = cc
ready_by zero (b ∷ bs) rows e = (eqb_self 0, lt-ltb 0 (length (b ∷ bs)) (omega arith))
ready_by (suc n) bs rows e =
    let taken : nat_lt 0 (suc n) ≡ true = lt-ltb 0 (suc n) (omega arith) in
    let none : cond true None (slice_get bs 0) ≡ Some rows = sym (ap (λ b. cond b None (slice_get bs 0)) taken) ∙ e in
    absurd (cc)

-- no body is there to be installed, so in each database the procedure has its own
own_body : (b : Bool) → with_body (cond b taker.body taker.body) taker ≡ taker
own_body true = refl
own_body false = refl

taker_present : (d : Database) → present workflow d 0 taker ≡ taker
taker_present d = own_body (bytes_eq [] (body_text d 0))

abbrev ran : Database → Procedure → Applied
ran d p = stepped d 0 0 taker (run_procedure workflow 0 p [] (input_batches d 0 taker) d.contents)

step_gives : (d : Database) (rows : Rows) → found_batch d 0 0 0 ≡ Some rows → Gives workflow d step []
unfolding apply run_body
step_gives d rows e =
    let r = ready_by (batch_count d 0) (stream_batches d 0) rows e in
    let ready : is_ready d 0 0 taker ≡ true = and_from _ _ (and_from _ _ refl r.0) (and_from _ _ r.1 refl) in
    (stepped_on workflow d 0 0 taker (input_batches d 0 taker), ap (λ b. only_when b (Some (stepped_on workflow d 0 0 taker (input_batches d 0 taker)))) ready, ap (λ p. (ran d p).outcome) (taker_present d), refl)

pub step_right : (k : Known) (rows : Rows) → k.role ≡ Part 0 → found_batch (known_database workflow (empty_database workflow) k) 0 0 0 ≡ Some rows → IsRight workflow 2 (empty_database workflow) (k ∷ []) step []
step_right k rows is found =
    right_at_one_list workflow accepted 2 (omega arith) (empty_database workflow) k.list (k ∷ []) (λ x i. ⊎_elim (λ (e : x ≡ k). ap (λ (y : Known). y.list) e) (λ z. absurd z) i) k (inl refl) step []
    (λ role t. subst (λ (n : Role). In role (n ∷ [])) (sym is) (step_covers role t)) (step_gives (known_database workflow (empty_database workflow) k) rows found)
