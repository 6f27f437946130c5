-- What weak lists hold, that they grow, and that what is kept of a database is enough for them.
use Rattle.std.proofs.Common.{◌≡◌, ◌∙◌, ℕ, List, [], ◌∷◌, ◌++◌, get_or, nat_lt, ◌==◌, ◌&&◌, refl, sym, ap, subst, append_assoc, slice_get, None}
use Rattle.std.specs.List.{AllByRecursion, filter, fold, list_all}
use Rattle.ss_model.specs.declared.catalog.Catalog.{Catalog}
use Rattle.ss_model.specs.declared.catalog.Procedure.{Procedure}
use Rattle.ss_model.specs.declared.entry.Entry.{Entry}
use Rattle.ss_model.specs.declared.entry.Entry.TheVariants.{Step as StepEntry}
use Rattle.ss_model.specs.declared.entry.Listed.{Listed}
use Rattle.ss_model.specs.declared.entry.Outcome.TheVariants.{Done}
use Rattle.ss_model.specs.Aborts.{IsFromClient}
use Rattle.ss_model.specs.Database.{Database, is_streaming}
use Rattle.ss_model.specs.Orders.{procedure_has}
use Rattle.ss_model.specs.Replays.{database_after, after}
use Rattle.ss_model.specs.Settling.{Settles, after_entries, IsWeakList, kept, KeptCarries, next_settled, lower_rank, procedure_numbers, is_ready_now}
use Rattle.ss_model_kept.proofs.CallerLemmas.{from_kept}
use Rattle.ss_model.specs.Asked.{listed_entries, asked_of}
use Rattle.ss_weak_lists.specs.WeakLists.{WeakCarried}
use Rattle.ss_weak_lists.proofs.Asked.{asked_append, one_asked}

module _ (catalog : Catalog) where
  -- ---- entries and lists

  pub entries_append : (db : Database) (first rest : List Entry) → after_entries catalog db (first ++ rest) ≡ after_entries catalog (after_entries catalog db first) rest
  entries_append db [] rest = refl
  entries_append db (e ∷ first) rest = entries_append (database_after catalog db e) first rest

  pub after_is : (db : Database) (list : List Listed) → after catalog db list ≡ after_entries catalog db (listed_entries list)
  after_is db [] = refl
  after_is db (l ∷ ls) = after_is (database_after catalog db l.entry) ls

  -- ---- what a weak list holds

  steps_alone : (steps : List Entry) (db : Database) → Settles catalog db steps → asked_of steps ≡ []
  steps_alone [] db h = refl
  steps_alone (e ∷ es) db h = ap (λ z. asked_of (z ∷ es)) h.2 ∙ steps_alone es (database_after catalog db e) h.3

  pub weak_holds : (entries : List Entry) (db : Database) (list : List Entry) → AllByRecursion IsFromClient entries → IsWeakList catalog db entries list → asked_of list ≡ entries
  weak_holds [] db list all h = steps_alone list db h
  weak_holds (e ∷ es) db list all h =
      let later = weak_holds es (database_after catalog (after_entries catalog db h.0) e) h.1 all.1 h.4 in
      ap asked_of h.2 ∙ asked_append h.0 (e ∷ h.1) ∙ ap (λ z. z ++ asked_of (e ∷ h.1)) (steps_alone h.0 db h.3) ∙ one_asked e h.1 all.0 ∙ ap (λ z. e ∷ z) later

  -- ---- one entry more

  pub weak_grows : (entries : List Entry) (db : Database) (list : List Entry) (e : Entry) (steps : List Entry) → IsWeakList catalog db entries list
      → Settles catalog (database_after catalog (after_entries catalog db list) e) steps → IsWeakList catalog db (entries ++ e ∷ []) (list ++ e ∷ steps)
  weak_grows [] db list e steps h s = (list, steps, refl, h, s)
  weak_grows (f ∷ fs) db list e steps h s =
      let mid = database_after catalog (after_entries catalog db h.0) f in
      let end : after_entries catalog db list ≡ after_entries catalog mid h.1 = ap (after_entries catalog db) h.2 ∙ entries_append db h.0 (f ∷ h.1) in
      let later = weak_grows fs mid h.1 e steps h.4 (subst (λ z. Settles catalog (database_after catalog z e) steps) end s) in
      (h.0, h.1 ++ e ∷ steps, ap (λ l. l ++ e ∷ steps) h.2 ∙ append_assoc h.0 (f ∷ h.1) (e ∷ steps), h.3, later)

  -- ---- what is kept is enough

  ready_same : (x y : Database) → kept catalog x ≡ kept catalog y → (q : ℕ) → is_ready_now catalog x q ≡ is_ready_now catalog y q
  ready_same x y k q =
      let same = from_kept catalog x y k in
      λ i. procedure_has (λ (p : Procedure). is_streaming p.kind && (get_or (same.counts i) q 0 == get_or (same.counts i) q 0) && list_all (λ s. nat_lt (get_or (same.counts i) q 0) (same.lengths s i)) p.inputs) (slice_get catalog.procedures q)

  next_same : (x y : Database) → kept catalog x ≡ kept catalog y → next_settled catalog x ≡ next_settled catalog y
  next_same x y k = λ i. fold (lower_rank catalog) None (filter (λ q. ready_same x y k q i) (procedure_numbers catalog))

  module _ (carries : KeptCarries) where
    kept_next : (x y : Database) → kept catalog x ≡ kept catalog y → (e : Entry) → kept catalog (database_after catalog x e) ≡ kept catalog (database_after catalog y e)
    kept_next x y k e = (carries catalog x y k (record { entry = e; outcome = Done [] } ∷ [])).after

    kept_entries : (es : List Entry) (x y : Database) → kept catalog x ≡ kept catalog y → kept catalog (after_entries catalog x es) ≡ kept catalog (after_entries catalog y es)
    kept_entries [] x y k = k
    kept_entries (e ∷ es) x y k = kept_entries es (database_after catalog x e) (database_after catalog y e) (kept_next x y k e)

    settles_carried : (list : List Entry) (x y : Database) → kept catalog x ≡ kept catalog y → Settles catalog x list → Settles catalog y list
    settles_carried [] x y k h = sym (next_same x y k) ∙ h
    settles_carried (e ∷ es) x y k h =
        let same = from_kept catalog x y k in
        (h.0, sym (next_same x y k) ∙ h.1, h.2 ∙ (λ i. StepEntry h.0 (get_or (same.counts i) h.0 0)), settles_carried es (database_after catalog x e) (database_after catalog y e) (kept_next x y k e) h.3)

    weak_carried : (entries : List Entry) (x y : Database) → kept catalog x ≡ kept catalog y → (list : List Entry) → IsWeakList catalog x entries list → IsWeakList catalog y entries list
    weak_carried [] x y k list h = settles_carried list x y k h
    weak_carried (e ∷ es) x y k list h =
        let before = after_entries catalog x h.0 in
        let other = after_entries catalog y h.0 in
        let next = kept_next before other (kept_entries h.0 x y k) e in
        let later = weak_carried es (database_after catalog before e) (database_after catalog other e) next h.1 h.4 in
        (h.0, h.1, h.2, settles_carried h.0 x y k h.3, later)

    pub kept_carries_weak : (x y : Database) → kept catalog x ≡ kept catalog y → WeakCarried catalog x y
    kept_carries_weak x y k = record { settles = λ list h. settles_carried list x y k h; weak = λ entries list h. weak_carried entries x y k list h }
