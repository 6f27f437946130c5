-- How far the tokens of a text are read.
use Rattle.std.proofs.Common.{◌≡◌, ℕ, ◌+◌, ◌-◌, ◌≤◌, ◌<◌, List, [], ◌∷◌, ◌++◌, length, drop, Bool, true, false, refl, sym, ap, subst, ◌∙◌, arith, length-append, append_assoc}
use Rattle.std.specs.Prelude.{◌&&◌}
use Rattle.std.specs.List.{list_all}
use Rattle.std.proofs.lemmas.List.{append-nil, drop_at}
use Rattle.ss_sql_lex.specs.declared.token.Token.{Token}
use Rattle.ss_sql_lex.specs.declared.token.LexError.{LexError}
use Rattle.ss_sql_lex.specs.Bytes.{is_blank}
use Rattle.ss_sql_lex.specs.Spelling.{IsSpelling}
use Rattle.ss_sql_lex.specs.Lexing.{Next, Begins, SpellsFrom}
use Rattle.ss_sql_lex.specs.Faults.{FailsFrom}
use Rattle.ss_sql_lex.specs.Reading.{StandsAt, IsFaultAt}
use Rattle.ss_sql_lex.proofs.Stands.{scans}

-- where the last of some tokens ends
abbrev pub end_of : ℕ → List Token → ℕ
end_of at [] = at
end_of at (t ∷ ts) = end_of t.to ts

-- tokens and blanks are read up to the offset `at`, and the rest stands there
pub record Reached (text : List ℕ) (ts : List Token) (at : ℕ) (rest : List ℕ) : Type 0 where
  pub left : List ℕ
  pub gap : List ℕ
  pub are : Begins 0 text ts left
  pub parts : left ≡ gap ++ rest
  pub blank : list_all is_blank gap ≡ true
  pub offset : at ≡ end_of 0 ts + length gap
  pub counts : at + length rest ≡ length text

all_more : (p : ℕ → Bool) (xs : List ℕ) (b : ℕ) → list_all p xs ≡ true → p b ≡ true → list_all p (xs ++ b ∷ []) ≡ true
all_more p [] b h e = rw e refl
all_more p (x ∷ xs) b h e = all_more_at p x xs b (p x) refl h e (λ g. all_more p xs b g e)
  where
    all_more_at : (p : ℕ → Bool) (x : ℕ) (xs : List ℕ) (b : ℕ) (c : Bool) → p x ≡ c → (p x && list_all p xs) ≡ true → p b ≡ true → (list_all p xs ≡ true → list_all p (xs ++ b ∷ []) ≡ true) → (p x && list_all p (xs ++ b ∷ [])) ≡ true
    all_more_at p x xs b true e h g more = rw e (more (rw e at h))
    all_more_at p x xs b false e h g more = absurd (let f = rw e at h in cc)

pub reached_start : (text : List ℕ) → Reached text [] 0 text
reached_start text = record { left = text; gap = []; are = refl; parts = refl; blank = refl; offset = refl; counts = omega arith }

blank_at : (text : List ℕ) (ts : List Token) (at b : ℕ) (rest : List ℕ) → Reached text ts at (b ∷ rest) → is_blank b ≡ true → Reached text ts (at + 1) rest
blank_at text ts at b rest r h = record {
  left = r.left;
  gap = r.gap ++ b ∷ [];
  are = r.are;
  parts = r.parts ∙ sym (append_assoc r.gap (b ∷ []) rest);
  blank = all_more is_blank r.gap b r.blank h;
  offset = let e = r.offset in omega (arith, length-append r.gap (b ∷ []));
  counts = let e = r.counts in omega arith;
}

-- one more blank is read
pub reached_blank : (text : List ℕ) (ts : List Token) (at b : ℕ) (bs rest : List ℕ) → Reached text ts at bs → bs ≡ b ∷ rest → is_blank b ≡ true → Reached text ts (at + 1) rest
reached_blank text ts at b bs rest r e h = blank_at text ts at b rest (rw e at r) h

-- one more token
begins_more : (at : ℕ) (text : List ℕ) (ts : List Token) (left : List ℕ) (t : Token) (rest : List ℕ) → Begins at text ts left → Next (end_of at ts) left t (λ r. r ≡ rest) → Begins at text (ts ++ t ∷ []) rest
begins_more at text [] left t rest h n = record { gap = n.gap; own = n.own; rest = n.rest; parts = h ∙ n.parts; blank = n.blank; starts = n.starts; ends = n.ends; is = n.is; longest = n.longest; follows = n.follows }
begins_more at text (u ∷ ts) left t rest h n = record { gap = h.gap; own = h.own; rest = h.rest; parts = h.parts; blank = h.blank; starts = h.starts; ends = h.ends; is = h.is; longest = h.longest; follows = begins_more u.to h.rest ts left t rest h.follows n }

end_of_more : (at : ℕ) (ts : List Token) (t : Token) → end_of at (ts ++ t ∷ []) ≡ t.to
end_of_more at [] t = refl
end_of_more at (u ∷ ts) t = end_of_more u.to ts t

pub reached_token : (text : List ℕ) (ts : List Token) (at : ℕ) (bs : List ℕ) (t : Token) → Reached text ts at bs → (s : StandsAt at bs t) → Reached text (ts ++ t ∷ []) t.to s.rest
reached_token text ts at bs t r s = record {
  left = s.rest;
  gap = [];
  are = begins_more 0 text ts r.left t s.rest r.are (record { gap = r.gap; own = s.own; rest = s.rest; parts = r.parts ∙ ap (λ (x : List ℕ). r.gap ++ x) s.parts; blank = r.blank; starts = s.starts ∙ r.offset; ends = let e = s.starts in let f = s.ends in omega arith; is = s.is; longest = s.longest; follows = refl });
  parts = refl;
  blank = refl;
  offset = let e = end_of_more 0 ts t in omega arith;
  counts = let e = r.counts in let f = s.ends in omega (arith, simp length-append at (ap length s.parts));
}

-- at the end the tokens are those of the text
pub reached_end : (text : List ℕ) (ts : List Token) (at : ℕ) (bs : List ℕ) → Reached text ts at bs → length bs ≡ 0 → SpellsFrom 0 text ts
reached_end text ts at [] r e = record { left = r.left; tokens = r.are; blank = rw (r.parts, append-nil r.gap) r.blank }
reached_end text ts at (b ∷ bs) r e = absurd (omega arith)

-- where no token stands, the text fails
pub reached_fault : (text : List ℕ) (ts : List Token) (at b : ℕ) (rest : List ℕ) (fault : LexError) → Reached text ts at (b ∷ rest) → is_blank b ≡ false → IsFaultAt at (b ∷ rest) fault → FailsFrom 0 text fault
reached_fault text ts at b rest fault r solid h = record { tokens = ts; left = r.left; are = r.are; gap = r.gap; rest = b ∷ rest; parts = r.parts; blank = r.blank; some = omega arith; solid = solid; none = h.0; offset = at; counts = let e = r.counts in omega arith; which = h.1 }

-- a token is not empty, and lies within what there is
pub stands_within : (at : ℕ) (bs : List ℕ) (t : Token) → StandsAt at bs t → (at < t.to) × (t.to ≤ at + length bs)
stands_within at bs t s = stands_long at bs t s.own s.rest s.is s.parts s.ends
  where
    stands_long : (at : ℕ) (bs : List ℕ) (t : Token) (own rest : List ℕ) → IsSpelling t.kind own → bs ≡ own ++ rest → t.to ≡ at + length own → (at < t.to) × (t.to ≤ at + length bs)
    stands_long at bs t [] rest is parts ends = absurd (scans.solid t.kind is)
    stands_long at bs t (b ∷ own) rest is parts ends = (omega arith, omega (arith, simp length-append at (ap length parts)))

-- what stands behind it
pub stands_rest : (at : ℕ) (bs : List ℕ) (t : Token) → (s : StandsAt at bs t) → drop (t.to - at) bs ≡ s.rest
stands_rest at bs t s = let e = s.ends in ap (drop (t.to - at)) s.parts ∙ drop_at s.own s.rest (t.to - at) (omega arith)

-- one more token is read, and what is dropped is its spelling
pub reached_next : (text : List ℕ) (ts : List Token) (at : ℕ) (bs : List ℕ) (t : Token) (rest : List ℕ) → Reached text ts at bs → StandsAt at bs t → rest ≡ drop (t.to - at) bs → Reached text (ts ++ t ∷ []) t.to rest
reached_next text ts at bs t rest r s e = subst (λ (x : List ℕ). Reached text (ts ++ t ∷ []) t.to x) (sym (e ∙ stands_rest at bs t s)) (reached_token text ts at bs t r s)
