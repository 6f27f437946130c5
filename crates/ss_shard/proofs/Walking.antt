-- A walk over the rows of a table.
use Rattle.std.proofs.Common.{◌≡◌, ℕ, suc, ◌==◌, ◌+◌, ◌<◌, Bool, true, false, cond, Option, Some, None, List, [], ◌∷◌, ◌++◌, map, length, refl, ap, sym, ◌∙◌, subst, arith, append-nil, append_assoc, length-append, Bor}
use Rattle.std.proofs.lemmas.List.{length-map, map_push}
use Rattle.std.specs.Option.{option_map}
use Rattle.std.specs.List.{find, AllByRecursion}
use Rattle.std.proofs.lemmas.Bool.Decides.{nat_tests}
use Rattle.ss_value.specs.Rows.{Row}
use Rattle.std.specs.FinMap as finmap
use Rattle.ss_lemmas.proofs.Numbers.{eqb_self}
use Rattle.ss_model.specs.Contents.{Table}
use Rattle.ss_table.specs.TableValue.{LiveRows, first_in, after_in, row_among}
use Rattle.ss_table.specs.Keyed.{SlotsDiffer}
use Rattle.ss_shard.specs.Contents.{without_slot, rows_by_key}
use Rattle.ss_shard.proofs.ByKey.{entries_by_key}
use Rattle.ss_shard.specs.Lent.{rows_behind}

abbrev pub Live : Type 0
Live = Row × (ℕ × Row)

-- the row of an entry
abbrev pub row_of : Live → Row
row_of e = e.1.1

-- ---- entries whose slots differ

other_slot : (m n : ℕ) → (n ≡ m → ⊥) → (m == n) ≡ false
other_slot m n apart = by (m == n) refl
  where
    by : (b : Bool) → (m == n) ≡ b → b ≡ false
    by true e = absurd (apart (let s : m ≡ n = grind (arith, nat_tests) in sym s))
    by false e = refl

-- what holds of each entry holds of one in their midst
midst : (P : Live → Type 0) (before : List Live) (e : Live) (behind : List Live) → AllByRecursion P (before ++ e ∷ behind) → P e
midst P [] e behind h = h.0
midst P (x ∷ xs) e behind h = midst P xs e behind h.1

module _ (e : Live) (behind : List Live) where
  row_here : (before : List Live) → SlotsDiffer (before ++ e ∷ behind) → row_among (before ++ e ∷ behind) e.1.0 ≡ Some e.1.1
  row_here [] apart = ap (λ b. option_map row_of (cond b (Some e) (find (λ d. d.1.0 == e.1.0) behind))) (eqb_self e.1.0)
  row_here (x ∷ xs) apart =
      ap (λ b. option_map row_of (cond b (Some x) (find (λ d. d.1.0 == e.1.0) (xs ++ e ∷ behind)))) (other_slot x.1.0 e.1.0 (midst (λ d. d.1.0 ≡ x.1.0 → ⊥) xs e behind apart.0))
      ∙ row_here xs apart.1

  next_here : (before : List Live) → SlotsDiffer (before ++ e ∷ behind) → after_in (before ++ e ∷ behind) e.1.0 ≡ first_in behind
  next_here [] apart = ap (λ b. cond b (first_in behind) (after_in behind e.1.0)) (eqb_self e.1.0)
  next_here (x ∷ xs) apart =
      ap (λ b. cond b (first_in (xs ++ e ∷ behind)) (after_in (xs ++ e ∷ behind) e.1.0)) (other_slot x.1.0 e.1.0 (midst (λ d. d.1.0 ≡ x.1.0 → ⊥) xs e behind apart.0))
      ∙ next_here xs apart.1

-- ---- the walk

-- a walk that has met the first entries, whose rows these are, and is at the next one
pub record Walked (es : List Live) (at : Option ℕ) (rows : List (Bor Row)) : Type 0 where
  pub before : List Live
  pub behind : List Live
  pub is : es ≡ before ++ behind
  pub here : at ≡ first_in behind
  pub met : rows_behind rows ≡ map row_of before

-- an entry of this slot is next
pub record Stands (es : List Live) (slot : ℕ) (rows : List (Bor Row)) : Type 0 where
  pub before : List Live
  pub entry : Live
  pub rest : List Live
  pub slot_is : entry.1.0 ≡ slot
  pub is : es ≡ before ++ entry ∷ rest
  pub met : rows_behind rows ≡ map row_of before

-- one that begins has met none
pub walk_begun : (es : List Live) (at : Option ℕ) (rows : List (Bor Row)) → at ≡ first_in es → rows ≡ [] → Walked es at rows
walk_begun es at rows first none = record { before = []; behind = es; is = refl; here = first; met = ap rows_behind none }

module _ (es : List Live) (at : Option ℕ) (rows : List (Bor Row)) (w : Walked es at rows) where
  -- at its end it has met all
  pub walk_ended : at ≡ None → rows_behind rows ≡ map row_of es
  walk_ended none = w.met ∙ ap (map row_of) (sym (append-nil w.before) ∙ sym (w.is ∙ ap (λ b. w.before ++ b) (by w.behind (sym w.here ∙ none))))
    where
      by : (behind : List Live) → first_in behind ≡ None → behind ≡ []
      by [] e = refl
      by (x ∷ xs) e = cc

  pub walk_at : (slot : ℕ) → at ≡ Some slot → Stands es slot rows
  walk_at slot some = by w.behind w.is (sym w.here ∙ some)
    where
      by : (behind : List Live) → es ≡ w.before ++ behind → first_in behind ≡ Some slot → Stands es slot rows
      by [] is e = cc
      by (x ∷ xs) is e = record { before = w.before; entry = x; rest = xs; slot_is = (let same : x.1.0 ≡ slot = cc in same); is = is; met = w.met }

module _ (es : List Live) (apart : SlotsDiffer es) (slot : ℕ) (rows : List (Bor Row)) (s : Stands es slot rows) where
  -- the row of that slot
  pub stands_row : row_among es slot ≡ Some s.entry.1.1
  stands_row =
      (λ i. row_among (s.is i) (sym s.slot_is i))
      ∙ row_here s.entry s.rest s.before (subst SlotsDiffer s.is apart)

  stands_next : after_in es slot ≡ first_in s.rest
  stands_next =
      (λ i. after_in (s.is i) (sym s.slot_is i))
      ∙ next_here s.entry s.rest s.before (subst SlotsDiffer s.is apart)

  -- a step meets it, and is at the next one
  pub walk_on : (row : Bor Row) (next : Option ℕ) → row_among es slot ≡ Some row.now → next ≡ after_in es slot → Walked es next (rows ++ row ∷ [])
  walk_on row next there goes =
      let same : row.now ≡ s.entry.1.1 = cc (stands_row, there) in
      record {
        before = s.before ++ s.entry ∷ [];
        behind = s.rest;
        is = s.is ∙ sym (append_assoc s.before (s.entry ∷ []) s.rest);
        here = goes ∙ stands_next;
        met = map_push (λ (r : Bor Row). r.now) rows row ∙ (λ i. s.met i ++ same i ∷ []) ∙ sym (map_push row_of s.before s.entry);
      }

  -- and there was one to meet
  pub walk_within : length rows < length es
  walk_within =
      let met : length rows ≡ length s.before = sym (length-map rows (λ (r : Bor Row). r.now)) ∙ ap length s.met ∙ length-map s.before row_of in
      let all : length es ≡ length s.before + suc (length s.rest) = ap length s.is ∙ length-append s.before (s.entry ∷ s.rest) in
      omega arith

-- ---- all rows

-- the rows of the entries are those of the table by key
pub rows_of_entries : (live : LiveRows) → finmap.values (rows_by_key live) ≡ map row_of (finmap.entries live)
rows_of_entries live = ap (map (λ e. e.1)) (entries_by_key live) ∙ by (finmap.entries live)
  where
    by : (es : List Live) → map (λ (e : Row × Row). e.1) (map without_slot es) ≡ map row_of es
    by [] = refl
    by (e ∷ es) = ap (λ rows. e.1.1 ∷ rows) (by es)

-- and there are as many
pub rows_counted : (rows : List (Bor Row)) (table : Table) → rows_behind rows ≡ finmap.values table → length rows ≡ finmap.len table
rows_counted rows table are = sym (length-map rows (λ (r : Bor Row). r.now)) ∙ ap length are ∙ length-map (finmap.entries table) (λ e. e.1) ∙ sym (finmap.len-entries table)
