-- Requests found by client and index, and the lines of entries that are about them.
use Rattle.std.proofs.Common.{Bor, ◌≡◌, ◌∙◌, ◌<◌, ◌≤◌, ◌==◌, ◌&&◌, inl, inr, ℕ, suc, List, [], ◌∷◌, ◌++◌, length, drop, get_or, slice_get, is_some, nat_lt, Bool, true, false, cond, Option, Some, None, option_map, option_and_then, refl, sym, ap, append_assoc, length-append, arith}
use Rattle.std.specs.Option.{IfSome, option_copied}
use Rattle.std.specs.List.{find, count_by}
use Rattle.std.specs.declared.cmp.Ordering.{Ordering}
use Rattle.std.specs.declared.cmp.Ordering.TheVariants.{Less, Equal, Greater}
use Rattle.std.specs.Ordering.{nat_cmp, ordering_then, is_eq}
use Rattle.std.specs.Cmp.{unsigned_tied}
use Rattle.std.specs.BTreeMap.{BTreeMap, get}
use Rattle.std.proofs.lemmas.Bool.{cases_Bool, eqb-true, and_parts, ltb-false, ltb-true}
use Rattle.std.proofs.lemmas.Option.{slice_get-get_or, slice_get_past}
use Rattle.ss_lines.specs.declared.line.Line.{Line}
use Rattle.ss_model.specs.declared.entry.Asked.{Asked}
use Rattle.ss_model.specs.declared.entry.Asked.TheVariants.{Call as CallAsked, Push as PushAsked, Install as InstallAsked}
use Rattle.ss_model.specs.declared.entry.Entry.{Entry}
use Rattle.ss_model.specs.declared.entry.Request.{Request}
use Rattle.ss_model.specs.Report.{asked_entry, entries_behind, client_index}
use Rattle.ss_report_lines.specs.declared.kind.LineKind.{LineKind}
use Rattle.ss_report_lines.specs.declared.kind.LineKind.TheVariants.{Reply, Call, Push, Install, Step, Table, Row, Done}
use Rattle.ss_report_lines.specs.Said.{said}
use Rattle.ss_audit_laws.specs.Shape.{line_kind}
use Rattle.ss_audit_laws.specs.Checks.{first_by, is_by, is_number}
use Rattle.ss_audit.specs.declared.positions.Placed.{Placed}
use Rattle.ss_audit.specs.Positions.{Finds, asked_by, behind_placed, first_position, placed_lines, placed_requests, position_in, request_cmp, said_at}
use Rattle.ss_audit.proofs.Numbers.{eq_flip, there}

-- ---- the map

then_eq : (x y : Ordering) → is_eq (ordering_then x y) ≡ (is_eq x && is_eq y)
then_eq Less y = refl
then_eq Equal y = refl
then_eq Greater y = refl

same_request : (c i client index : ℕ) → is_eq (request_cmp (c, i) (client, index)) ≡ (client == c && index == i)
same_request c i client index = then_eq (nat_cmp c client) (nat_cmp i index) ∙ (λ k. (unsigned_tied c client ∙ eq_flip c client) k && (unsigned_tied i index ∙ eq_flip i index) k)

-- with one more in front
pub one_more : (all ps : List Placed) (at : ℕ) (p : Placed) (first new : BTreeMap (ℕ × ℕ) ℕ) → drop at all ≡ p ∷ ps → Finds ps first
    → ((q : ℕ × ℕ) → get request_cmp new q ≡ cond (is_eq (request_cmp (p.client, p.index) q)) (Some p.position) (get request_cmp first q)) → Finds (drop at all) new
one_more all ps at p first new here found updated client index =
    updated (client, index)
    ∙ ap (λ b. cond b (Some p.position) (position_in first client index)) (same_request p.client p.index client index)
    ∙ ap (λ (o : Option ℕ). cond (client == p.client && index == p.index) (Some p.position) o) (found client index)
    ∙ ap (first_position client index) (sym here)

-- ---- what is looked up

-- what a list has at a place
pub looked_up : {X : Type 0} (xs : List X) (at : ℕ) (r : Option (Bor X)) → is_some r ≡ nat_lt at (length xs) → IfSome r (λ (x : Bor X). x.now ≡ get_or xs at x.now) → option_copied r ≡ slice_get xs at
looked_up xs at None is h = let past : length xs ≤ at = ltb-false _ _ (sym is) in sym (slice_get_past xs at past)
looked_up xs at (Some x) is h = let within : at < length xs = ltb-true _ _ (sym is) in sym (slice_get-get_or xs at x.now within ∙ ap Some (sym h))

-- what is lent, and then changed
pub copied : {X Y : Type 0} (f : X → Y) (r : Option (Bor X)) → option_map (λ (x : Bor X). f x.now) r ≡ option_map f (option_copied r)
copied f None = refl
copied f (Some x) = refl

-- ---- what is asked for

module _ (client index : ℕ) where
  -- whether an entry is this client's, of this index
  abbrev wanted : Entry → Bool
  wanted e = is_number index (client_index client e)

  -- what is asked for at a position
  abbrev pub asked_at : List Request → Option ℕ → Option Entry
  asked_at rs o = option_map (λ (r : Request). asked_entry client index r.what) (option_and_then (slice_get rs) o)

  numbered : (b : Bool) (n : ℕ) → is_number index (cond b (Some n) None) ≡ (b && n == index)
  numbered true n = refl
  numbered false n = refl

  its_index : (c n : ℕ) (what : Asked) → client_index client (asked_entry c n what) ≡ cond (c == client) (Some n) None
  its_index c n (CallAsked q args) = refl
  its_index c n (PushAsked s source seq rows) = refl
  its_index c n (InstallAsked q text) = refl

  tested : (c n : ℕ) (what : Asked) → wanted (asked_entry c n what) ≡ (client == c && index == n)
  tested c n what = ap (is_number index) (its_index c n what) ∙ numbered (c == client) n ∙ (λ k. eq_flip c client k && eq_flip n index k)

  -- what is found by the places of requests is the entry of that index
  pub found_as : (earlier rs : List Request) → asked_at (earlier ++ rs) (first_position client index (placed_requests earlier rs)) ≡ find wanted (entries_behind earlier rs)
  found_as earlier [] = refl
  found_as earlier (r ∷ rs) =
      let n = count_by (λ (x : Request). x.client == r.client) earlier in
      let e = asked_entry r.client n r.what in
      let test = client == r.client && index == n in
      let more = first_position client index (placed_requests (earlier ++ r ∷ []) rs) in
      let rest = find wanted (entries_behind (earlier ++ r ∷ []) rs) in
      elim (cases_Bool test) [
        | inl same ↦
            let both = and_parts (client == r.client) (index == n) same in
            let is = eqb-true client r.client both.0 in
            let nth = eqb-true index n both.1 in
            ap (λ b. asked_at (earlier ++ r ∷ rs) (cond b (Some (length earlier)) more)) same
            ∙ ap (option_map (λ (r : Request). asked_entry client index r.what)) (there earlier r rs)
            ∙ (λ k. Some (asked_entry (is k) (nth k) r.what))
            ∙ sym (ap (λ b. cond b (Some e) rest) (tested r.client n r.what ∙ same))
        | inr other ↦
            ap (λ b. asked_at (earlier ++ r ∷ rs) (cond b (Some (length earlier)) more)) other
            ∙ ap (λ (xs : List Request). asked_at xs more) (sym (append_assoc earlier (r ∷ []) rs))
            ∙ found_as (earlier ++ r ∷ []) rs
            ∙ sym (ap (λ b. cond b (Some e) rest) (tested r.client n r.what ∙ other))
      ]

  -- ---- what is printed

  -- one line more in front
  printed : (before : List Line) (l : Line) (ls : List Line) → said_at ((before ++ l ∷ []) ++ ls) (first_position client index (placed_lines (length (before ++ l ∷ [])) ls)) ≡ first_by client index ls
      → said_at (before ++ l ∷ ls) (first_position client index (placed_lines (length before) (l ∷ ls))) ≡ first_by client index (l ∷ ls)
  printed before l ls h = by (line_kind l)
    where
      behind : Option ℕ
      behind = first_position client index (placed_lines (suc (length before)) ls)

      one : suc (length before) ≡ length (before ++ l ∷ [])
      one = omega (arith, length-append before (l ∷ []))

      more : said_at (before ++ l ∷ ls) behind ≡ first_by client index ls
      more =
          ap (λ (xs : List Line). said_at xs behind) (sym (append_assoc before (l ∷ []) ls))
          ∙ ap (λ n. said_at ((before ++ l ∷ []) ++ ls) (first_position client index (placed_lines n ls))) one
          ∙ h

      chosen : (b : Bool) → said_at (before ++ l ∷ ls) (cond b (Some (length before)) behind) ≡ cond b (said l.bytes) (first_by client index ls)
      chosen true = ap (option_and_then (λ (l : Line). said l.bytes)) (there before l ls)
      chosen false = more

      by : (k : Option LineKind) → said_at (before ++ l ∷ ls) (first_position client index (behind_placed (length before) (asked_by k) (placed_lines (suc (length before)) ls))) ≡ cond (is_by client index k) (said l.bytes) (first_by client index ls)
      by None = more
      by (Some (Reply n)) = more
      by (Some (Call c i)) = chosen (client == c && index == i)
      by (Some (Push c i)) = chosen (client == c && index == i)
      by (Some (Install c i)) = chosen (client == c && index == i)
      by (Some (Step r)) = more
      by (Some (Table n)) = more
      by (Some Row) = more
      by (Some (Done n)) = more

  -- what is found by the places of lines is what the first such line says
  pub first_said : (before ls : List Line) → said_at (before ++ ls) (first_position client index (placed_lines (length before) ls)) ≡ first_by client index ls
  first_said before [] = refl
  first_said before (l ∷ ls) = printed before l ls (first_said (before ++ l ∷ []) ls)
