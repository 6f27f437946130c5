-- One request more among those that are placed, and one line more.
use Rattle.std.proofs.Common.{◌≡◌, ◌∙◌, ◌<◌, ◌+◌, ◌==◌, ◌⊎◌, inl, inr, ℕ, suc, List, [], ◌∷◌, ◌++◌, length, take, drop, get_or, slice_get, cond, Option, Some, None, option_map, true, false, refl, sym, ap, append_assoc, append-nil, take-append-drop, arith}
use Rattle.std.specs.List.{count_by}
use Rattle.std.specs.Str.{bytes_eq}
use Rattle.std.proofs.lemmas.Bool.{cases_Bool, eqb-true}
use Rattle.std.proofs.lemmas.Grind.{take_at_read}
use Rattle.std.proofs.lemmas.List.Sums.{sum_by_push}
use Rattle.ss_lemmas.proofs.LoopItem.{next}
use Rattle.ss_lines.specs.declared.line.Line.{Line}
use Rattle.ss_model.specs.declared.catalog.Procedure.{Procedure}
use Rattle.ss_model.specs.declared.entry.Request.{Request}
use Rattle.ss_audit_laws.specs.Shape.{line_kind}
use Rattle.ss_audit_laws.specs.Checks.{called_replies, called_reply, first_by, procedure_named}
use Rattle.ss_audit.specs.declared.positions.Placed.{Placed}
use Rattle.ss_audit.specs.Positions.{asked_by, behind_placed, placed_lines, placed_requests}
use Rattle.ss_audit.proofs.Numbers.{eq_flip, there}

-- how many requests of a client there are
abbrev pub many_of : ℕ → List Request → ℕ
many_of client rs = count_by (λ (x : Request). x.client == client) rs

-- a request where it stands
abbrev pub placed_as : Request → ℕ → ℕ → Placed
placed_as r index position = record { client = r.client; index = index; position = position }

module _ (all : List Request) (i : ℕ) (r : Request) (within : i < length all) (is : r ≡ get_or all i r) where
  taken : take (i + 1) all ≡ take i all ++ r ∷ []
  taken = (take_at_read all i r within).1 ∙ ap (λ (x : Request). take i all ++ x ∷ []) (sym is)

  -- the places of what is left, where one of them is taken
  pub placed_here : (long : length (take i all) ≡ i) → placed_requests (take i all) (drop i all) ≡ placed_as r (many_of r.client (take i all)) i ∷ placed_requests (take (i + 1) all) (drop (i + 1) all)
  placed_here long =
      ap (placed_requests (take i all)) (next all i r within is)
      ∙ (λ k. placed_as r (many_of r.client (take i all)) (long k) ∷ placed_requests (sym taken k) (drop (i + 1) all))

  -- one more is placed
  pub one_placed : (before every : List Placed) (index : ℕ) → length (take i all) ≡ i → index ≡ many_of r.client (take i all) → before ++ placed_requests (take i all) (drop i all) ≡ every
      → (before ++ placed_as r index i ∷ []) ++ placed_requests (take (i + 1) all) (drop (i + 1) all) ≡ every
  one_placed before every index long counted so_far =
      append_assoc before (placed_as r index i ∷ []) (placed_requests (take (i + 1) all) (drop (i + 1) all))
      ∙ ap (λ n. before ++ placed_as r n i ∷ placed_requests (take (i + 1) all) (drop (i + 1) all)) counted
      ∙ ap (λ (ps : List Placed). before ++ ps) (sym (placed_here long))
      ∙ so_far

  -- and one more is counted
  pub one_counted : (client old : ℕ) → old ≡ many_of client (take i all) → cond (client == r.client) (many_of r.client (take i all) + 1) old ≡ many_of client (take (i + 1) all)
  one_counted client old counted = by (cases_Bool (client == r.client)) ∙ sym (ap (many_of client) taken)
    where
      more : many_of client (take i all ++ r ∷ []) ≡ many_of client (take i all) + cond (r.client == client) 1 0
      more = sum_by_push (λ (x : Request). cond (x.client == client) 1 0) (take i all) r

      by : (client == r.client ≡ true) ⊎ (client == r.client ≡ false) → cond (client == r.client) (many_of r.client (take i all) + 1) old ≡ many_of client (take i all ++ r ∷ [])
      by (inl same) =
          let own : client ≡ r.client = eqb-true client r.client same in
          ap (λ b. cond b (many_of r.client (take i all) + 1) old) same
          ∙ ap (λ n. many_of n (take i all) + 1) (sym own)
          ∙ ap (λ b. many_of client (take i all) + cond b 1 0) (sym (eq_flip r.client client ∙ same))
          ∙ sym more
      by (inr other) =
          ap (λ b. cond b (many_of r.client (take i all) + 1) old) other
          ∙ counted
          ∙ (let none : many_of client (take i all) ≡ many_of client (take i all) + 0 = omega arith in none)
          ∙ ap (λ b. many_of client (take i all) + cond b 1 0) (sym (eq_flip r.client client ∙ other))
          ∙ sym more

-- requests are placed one behind another
split : (earlier ls rs : List Request) → placed_requests earlier (ls ++ rs) ≡ placed_requests earlier ls ++ placed_requests (earlier ++ ls) rs
split earlier [] rs = ap (λ (e : List Request). placed_requests e rs) (sym (append-nil earlier))
split earlier (x ∷ ls) rs =
    ap (λ (ps : List Placed). placed_as x (many_of x.client earlier) (length earlier) ∷ ps)
    (split (earlier ++ x ∷ []) ls rs ∙ ap (λ (e : List Request). placed_requests (earlier ++ x ∷ []) ls ++ placed_requests e rs) (append_assoc earlier (x ∷ []) ls))

pub as_many : (earlier ls : List Request) → length (placed_requests earlier ls) ≡ length ls
as_many earlier [] = refl
as_many earlier (x ∷ ls) = ap (λ n. suc n) (as_many (earlier ++ x ∷ []) ls)

module _ (all : List Request) (i : ℕ) (r : Request) (within : i < length all) (is : r ≡ get_or all i r) (long : length (take i all) ≡ i) where
  -- beside a request stands its index
  pub index_beside : slice_get (placed_requests [] all) i ≡ Some (placed_as r (many_of r.client (take i all)) i)
  index_beside =
      let front = placed_requests [] (take i all) in
      let rest = placed_requests (take (i + 1) all) (drop (i + 1) all) in
      let here = placed_as r (many_of r.client (take i all)) i in
      let whole : placed_requests [] all ≡ front ++ here ∷ rest =
      ap (placed_requests []) (sym (take-append-drop i all)) ∙ split [] (take i all) (drop i all) ∙ ap (λ (ps : List Placed). front ++ ps) (placed_here all i r within is long) in
      ap (λ (ps : List Placed). slice_get ps i) whole ∙ ap (slice_get (front ++ here ∷ rest)) (sym (as_many [] (take i all) ∙ long)) ∙ there front here rest

  -- the replies that are left, where one of them is checked
  pub reply_here : (entries : List Line) → called_replies entries (take i all) (drop i all) ≡ called_reply r.line (first_by r.client (many_of r.client (take i all)) entries) ∷ called_replies entries (take (i + 1) all) (drop (i + 1) all)
  reply_here entries =
      ap (called_replies entries (take i all)) (next all i r within is)
      ∙ (λ k. called_reply r.line (first_by r.client (many_of r.client (take i all)) entries) ∷ called_replies entries (sym (taken all i r within is) k) (drop (i + 1) all))

-- one line more is placed, if it is about a request
pub one_line : (all : List Line) (i : ℕ) (l : Line) (before every : List Placed) (by : Option (ℕ × ℕ)) → drop i all ≡ l ∷ drop (i + 1) all → asked_by (line_kind l) ≡ by
    → before ++ placed_lines i (drop i all) ≡ every → (before ++ behind_placed i by []) ++ placed_lines (i + 1) (drop (i + 1) all) ≡ every
one_line all i l before every by here is so_far = placed by (λ n. suc_is n) ∙ ap (λ (o : Option (ℕ × ℕ)). before ++ behind_placed i o (placed_lines (suc i) (drop (i + 1) all))) (sym is) ∙ ap (λ (ls : List Line). before ++ placed_lines i ls) (sym here) ∙ so_far
  where
    suc_is : (n : ℕ) → n + 1 ≡ suc n
    suc_is n = omega arith

    placed : (o : Option (ℕ × ℕ)) → ((n : ℕ) → n + 1 ≡ suc n) → (before ++ behind_placed i o []) ++ placed_lines (i + 1) (drop (i + 1) all) ≡ before ++ behind_placed i o (placed_lines (suc i) (drop (i + 1) all))
    placed None one = append_assoc before [] (placed_lines (i + 1) (drop (i + 1) all)) ∙ ap (λ n. before ++ placed_lines n (drop (i + 1) all)) (one i)
    placed (Some p) one = append_assoc before (behind_placed i (Some p) []) (placed_lines (i + 1) (drop (i + 1) all)) ∙ ap (λ n. before ++ behind_placed i (Some p) (placed_lines n (drop (i + 1) all))) (one i)

-- a procedure of another name is passed
pub one_passed : (name : List ℕ) (all : List Procedure) (i : ℕ) (p : Procedure) → drop i all ≡ p ∷ drop (i + 1) all → bytes_eq p.name name ≡ false
    → option_map (λ q. i + q) (procedure_named name (drop i all)) ≡ option_map (λ q. i + 1 + q) (procedure_named name (drop (i + 1) all))
one_passed name all i p here other =
    ap (λ (ps : List Procedure). option_map (λ q. i + q) (procedure_named name ps)) here
    ∙ ap (λ b. option_map (λ q. i + q) (cond b (Some 0) (option_map (λ q. suc q) (procedure_named name (drop (i + 1) all))))) other
    ∙ by (procedure_named name (drop (i + 1) all))
  where
    by : (o : Option ℕ) → option_map (λ q. i + q) (option_map (λ q. suc q) o) ≡ option_map (λ q. i + 1 + q) o
    by None = refl
    by (Some q) = let same : i + suc q ≡ i + 1 + q = omega arith in ap (λ n. Some n) same

-- and the one of this name is found
pub found_here : (name : List ℕ) (all : List Procedure) (i : ℕ) (p : Procedure) → drop i all ≡ p ∷ drop (i + 1) all → bytes_eq p.name name ≡ true
    → option_map (λ q. i + q) (procedure_named name (drop i all)) ≡ Some i
found_here name all i p here same =
    ap (λ (ps : List Procedure). option_map (λ q. i + q) (procedure_named name ps)) here
    ∙ ap (λ b. option_map (λ q. i + q) (cond b (Some 0) (option_map (λ q. suc q) (procedure_named name (drop (i + 1) all))))) same
    ∙ (let none : i + 0 ≡ i = omega arith in ap (λ n. Some n) none)
