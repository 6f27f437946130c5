-- Lanes before the first request.
use Rattle.std.proofs.Common.{◌≡◌, ◌<◌, ◌+◌, ◌-◌, ℕ, zero, suc, List, [], ◌∷◌, ◌++◌, get_or, refl, sym, ap, ◌∙◌, subst, arith}
use Rattle.std.proofs.lemmas.List.{length_push}
use Rattle.std.proofs.lemmas.Option.{get_or_from_slice_get, slice_get-get_or, slice_get_within}
use Rattle.ss_lemmas.proofs.Ends.{ends_alike}
use Rattle.ss_commitlog.specs.declared.role.Role.TheVariants.{Reader, Client}
use Rattle.ss_commitlog.specs.Rule.{numbered, reader}
use Rattle.ss_commitlog.specs.Tokens.{Known, known, at_opening}
use Rattle.ss_lanes.specs.Lanes.{LaneView, AreFresh, IsFresh, start_of}
use Rattle.ss_lanes.proofs.ByClient.{each_more}

-- the marks of the clients from one on, and a note for each of them behind those of the partitions
pub record AreLeft (first parts clients client : ℕ) (marks notes : List Known) : Type 0 where
  pub more : ℕ
  pub many : client + more ≡ clients
  pub marks_are : marks ≡ at_opening first (numbered Client client more [])
  pub notes_are : notes ≡ at_opening first (numbered reader 0 (parts + more) [])

last_reader : (first k m : ℕ) → at_opening first (numbered reader k (suc m) []) ≡ at_opening first (numbered reader k m []) ++ known Reader [] first 0 ∷ []
last_reader first k zero = refl
last_reader first k (suc m) = ap (λ (ks : List Known). known Reader [] first 0 ∷ ks) (last_reader first (suc k) m)

last_note : (first parts m : ℕ) → at_opening first (numbered reader 0 (parts + suc m) []) ≡ at_opening first (numbered reader 0 (parts + m) []) ++ known Reader [] first 0 ∷ []
last_note first parts m = let more : parts + suc m ≡ suc (parts + m) = omega arith in ap (λ k. at_opening first (numbered reader 0 k [])) more ∙ last_reader first 0 (parts + m)

-- the next client's mark and note, and those behind them
pub record NextLeft (first parts clients client : ℕ) (mark note : Known) (marks notes : List Known) : Type 0 where
  pub mark_is : mark ≡ known (Client client) [] first 0
  pub note_is : note ≡ known Reader [] first 0
  pub left : AreLeft first parts clients (client + 1) marks notes

module _ (first parts clients client : ℕ) (low : client < clients) where
  no_mark : (m : ℕ) → client + m ≡ clients → [] ≡ at_opening first (numbered Client client m []) → ⊥
  no_mark zero many none = omega arith
  no_mark (suc m) many none = cc

  pub mark_left : (marks notes : List Known) → AreLeft first parts clients client marks notes → marks ≡ [] → ⊥
  mark_left marks notes left none = no_mark left.more left.many (sym none ∙ left.marks_are)

  no_note : (m : ℕ) → client + m ≡ clients → [] ≡ at_opening first (numbered reader 0 (parts + m) []) → ⊥
  no_note m many none = let more : parts + m ≡ suc (parts + m - 1) = omega arith in none_of (parts + m - 1) (none ∙ ap (λ k. at_opening first (numbered reader 0 k [])) more)
    where
      none_of : (k : ℕ) → [] ≡ at_opening first (numbered reader 0 (suc k) []) → ⊥
      none_of k e = cc

  pub note_left : (marks notes : List Known) → AreLeft first parts clients client marks notes → notes ≡ [] → ⊥
  note_left marks notes left none = no_note left.more left.many (sym none ∙ left.notes_are)

  next_of : (m : ℕ) (mark note : Known) (marks notes : List Known) → client + m ≡ clients → mark ∷ marks ≡ at_opening first (numbered Client client m []) → notes ++ note ∷ [] ≡ at_opening first (numbered reader 0 (parts + m) [])
      → NextLeft first parts clients client mark note marks notes
  next_of zero mark note marks notes many a b = absurd (omega arith)
  next_of (suc m) mark note marks notes many a b =
      let ends = ends_alike notes (at_opening first (numbered reader 0 (parts + m) [])) note (known Reader [] first 0) (b ∙ last_note first parts m) in
      let rest : marks ≡ at_opening first (numbered Client (suc client) m []) = cc in
      let step : suc client ≡ client + 1 = omega arith in
      record {
        mark_is = cc;
        note_is = ends.1;
        left = record { more = m; many = omega arith; marks_are = rest ∙ ap (λ k. at_opening first (numbered Client k m [])) step; notes_are = ends.0 };
      }

  pub next_left : (olds : List Known) (old_notes : List Known) (mark note : Known) (marks notes : List Known) → AreLeft first parts clients client olds old_notes → olds ≡ mark ∷ marks → old_notes ≡ notes ++ note ∷ []
      → NextLeft first parts clients client mark note marks notes
  next_left olds old_notes mark note marks notes left a b = next_of left.more mark note marks notes left.many (sym a ∙ left.marks_are) (sym b ∙ left.notes_are)

-- one lane more
pub fresh_more : (first client : ℕ) (starts : List ℕ) (lanes : List LaneView) (lane : LaneView) → AreFresh first client starts lanes → IsFresh first client (start_of starts client) lane
    → AreFresh first (client + 1) starts (lanes ++ lane ∷ [])
fresh_more first client starts lanes lane are is = record {
  many = length_push lanes lane ∙ ap (λ k. k + 1) are.many;
  each = λ k one at. subst (IsFresh first k (start_of starts k)) (get_or_from_slice_get (lanes ++ lane ∷ []) k one one at)
      (each_more (λ n. IsFresh first n (start_of starts n)) lanes lane (λ n d low. are.each n (get_or lanes n d) (slice_get-get_or lanes n d low))
      (subst (λ n. IsFresh first n (start_of starts n) lane) (sym are.many) is) k one (slice_get_within (lanes ++ lane ∷ []) k one at));
}

pub none_fresh : (first : ℕ) (starts : List ℕ) → AreFresh first 0 starts []
none_fresh first starts = record { many = refl; each = λ k lane is. absurd (cc) }

-- no client is left
pub notes_stay : (first parts clients : ℕ) (marks notes : List Known) → AreLeft first parts clients clients marks notes → notes ≡ at_opening first (numbered reader 0 parts [])
notes_stay first parts clients marks notes left =
    let many = left.many in
    let same : parts + left.more ≡ parts = omega arith in
    left.notes_are ∙ ap (λ k. at_opening first (numbered reader 0 k [])) same
