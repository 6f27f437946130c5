-- A value and its spelling in quotes.
use Rattle.std.proofs.Common.{◌≡◌, ℕ, zero, suc, ◌+◌, ◌≤◌, ◌<◌, Bool, true, false, List, [], ◌∷◌, ◌++◌, length, take, drop, get_or, refl, sym, ap, subst, ◌∙◌, arith, eqb, length-append, append_assoc}
use Rattle.std.specs.Str.{IsUtf8}
use Rattle.std.proofs.lemmas.List.{take_at, drop_at, append-nil, take-append-drop}
use Rattle.std.proofs.lemmas.Bool.{eqb-true}
use Rattle.std.proofs.lemmas.Str.{IsUtf8-take, IsUtf8-drop, IsUtf8-append, IsUtf8-from_ascii, IsCharBoundary-before_ascii, IsCharBoundary-after_ascii}
use Rattle.ss_sql_lex.specs.Spelling.{in_quotes, IsQuoted}
use Rattle.ss_sql_lex.specs.Content.{up_to_quote, text_of}
use Rattle.ss_sql_lex.specs.Laws.{QuotesAreTaken}

-- ---- a value is read back

first_of_quotes : (b : ℕ) (v : List ℕ) (t : Bool) → eqb b 39 ≡ t → (c : ℕ) × (us : List ℕ) × (in_quotes (b ∷ v) ≡ c ∷ us)
first_of_quotes b v true e = (39, 39 ∷ in_quotes v, rw e refl)
first_of_quotes b v false e = (b, in_quotes v, rw e refl)

quotes_begin : (v : List ℕ) → (c : ℕ) × (us : List ℕ) × (in_quotes v ≡ c ∷ us)
quotes_begin [] = (39, [], refl)
quotes_begin (b ∷ v) = first_of_quotes b v (eqb b 39) refl

taken_step : (b : ℕ) (us : List ℕ) (c : ℕ) (vs : List ℕ) → us ≡ c ∷ vs → eqb b 39 ≡ false → up_to_quote (b ∷ us) ≡ b ∷ up_to_quote us
taken_step b us c vs e h = rw (e, h) refl

taken_at : (b : ℕ) (v : List ℕ) (t : Bool) → eqb b 39 ≡ t → up_to_quote (in_quotes v) ≡ v → up_to_quote (in_quotes (b ∷ v)) ≡ b ∷ v
taken_at b v true e h = rw (e, h) (ap (λ (n : ℕ). n ∷ v) (sym (eqb-true b 39 e)))
taken_at b v false e h =
    let q = quotes_begin v in
    let s : up_to_quote (b ∷ in_quotes v) ≡ b ∷ v = taken_step b (in_quotes v) q.0 q.1 q.2 e ∙ rw h refl in
    let i : in_quotes (b ∷ v) ≡ b ∷ in_quotes v = rw e refl in
    ap up_to_quote i ∙ s

pub taken : (v : List ℕ) → up_to_quote (in_quotes v) ≡ v
taken [] = refl
taken (b ∷ v) = taken_at b v (eqb b 39) refl (taken v)

pub quotes_are_taken : QuotesAreTaken
quotes_are_taken value = taken value

-- ---- a value of a text in UTF-8 is UTF-8

quote_at : (xs rest : List ℕ) → get_or (xs ++ 39 ∷ rest) (length xs) 0 ≡ 39
quote_at [] rest = refl
quote_at (x ∷ xs) rest = quote_at xs rest

long_at : (xs rest : List ℕ) → length xs < length (xs ++ 39 ∷ rest)
long_at xs rest = omega (arith, length-append xs (39 ∷ rest))

-- what stands before a quote
before_quote : (xs rest : List ℕ) → IsUtf8 (xs ++ 39 ∷ rest) → IsUtf8 xs
before_quote xs rest u =
    let low : get_or (xs ++ 39 ∷ rest) (length xs) 0 < 128 = rw (quote_at xs rest) (omega arith) in
    subst IsUtf8 (take_at xs (39 ∷ rest) (length xs) refl) (IsUtf8-take (xs ++ 39 ∷ rest) (length xs) u (IsCharBoundary-before_ascii (xs ++ 39 ∷ rest) (length xs) (long_at xs rest) low))

-- what stands behind one
pub behind_quote : (xs rest : List ℕ) → IsUtf8 (xs ++ 39 ∷ rest) → IsUtf8 rest
behind_quote xs rest u =
    let low : get_or (xs ++ 39 ∷ rest) (length xs) 0 < 128 = rw (quote_at xs rest) (omega arith) in
    let cut = IsUtf8-drop (xs ++ 39 ∷ rest) (length xs + 1) u (IsCharBoundary-after_ascii (xs ++ 39 ∷ rest) (length xs) u (long_at xs rest) low) in
    let parts : xs ++ 39 ∷ rest ≡ (xs ++ 39 ∷ []) ++ rest = sym (append_assoc xs (39 ∷ []) rest) in
    subst IsUtf8 (ap (drop (length xs + 1)) parts ∙ drop_at (xs ++ 39 ∷ []) rest (length xs + 1) (length-append xs (39 ∷ []))) cut

one_more : (xs v : List ℕ) (b : ℕ) → (xs ++ b ∷ []) ++ v ≡ xs ++ b ∷ v
one_more xs v b = append_assoc xs (b ∷ []) v

value_at : (b : ℕ) (v : List ℕ) (t : Bool) → eqb b 39 ≡ t → ((xs : List ℕ) → IsUtf8 (xs ++ in_quotes v) → IsUtf8 (xs ++ v)) → (xs : List ℕ) → IsUtf8 (xs ++ in_quotes (b ∷ v)) → IsUtf8 (xs ++ b ∷ v)
value_at b v true e more xs u =
    let is : in_quotes (b ∷ v) ≡ 39 ∷ 39 ∷ in_quotes v = rw e refl in
    let u2 = subst (λ (q : List ℕ). IsUtf8 (xs ++ q)) is u in
    let front = before_quote xs (39 ∷ in_quotes v) u2 in
    let back = more (39 ∷ []) (behind_quote xs (39 ∷ in_quotes v) u2) in
    subst (λ (n : ℕ). IsUtf8 (xs ++ n ∷ v)) (sym (eqb-true b 39 e)) (IsUtf8-append xs (39 ∷ v) front back)
value_at b v false e more xs u =
    let is : in_quotes (b ∷ v) ≡ b ∷ in_quotes v = rw e refl in
    let u2 = subst (λ (q : List ℕ). IsUtf8 (xs ++ q)) is u in
    subst IsUtf8 (one_more xs v b) (more (xs ++ b ∷ []) (subst IsUtf8 (sym (one_more xs (in_quotes v) b)) u2))

value_behind : (v xs : List ℕ) → IsUtf8 (xs ++ in_quotes v) → IsUtf8 (xs ++ v)
value_behind [] xs u = subst IsUtf8 (sym (append-nil xs)) (before_quote xs [] u)
value_behind (b ∷ v) xs u = value_at b v (eqb b 39) refl (value_behind v) xs u

pub value_utf8 : (v : List ℕ) → IsUtf8 (39 ∷ in_quotes v) → IsUtf8 v
value_utf8 v u = behind_quote [] v (value_behind v (39 ∷ []) u)

-- the value of a text is short, and UTF-8 where its spelling is
pub value_of : (own : List ℕ) → IsQuoted own → IsUtf8 own → (length (text_of own) ≤ 255) × IsUtf8 (text_of own)
value_of own q u =
    let is : text_of own ≡ q.value = ap text_of q.spelled ∙ taken q.value in
    let utf8 = value_utf8 q.value (subst IsUtf8 q.spelled u) in
    let short = q.short in
    (rw is short, subst IsUtf8 (sym is) utf8)

-- ---- a text in UTF-8 has its quoted parts in UTF-8

quotes_end : (v : List ℕ) → (f : List ℕ) × (in_quotes v ≡ f ++ 39 ∷ [])
quotes_end [] = ([], refl)
quotes_end (b ∷ v) = end_at b v (eqb b 39) refl (quotes_end v)
  where
    end_at : (b : ℕ) (v : List ℕ) (t : Bool) → eqb b 39 ≡ t → ((f : List ℕ) × (in_quotes v ≡ f ++ 39 ∷ [])) → (f : List ℕ) × (in_quotes (b ∷ v) ≡ f ++ 39 ∷ [])
    end_at b v true e r = (39 ∷ 39 ∷ r.0, rw (e, r.1) refl)
    end_at b v false e r = (b ∷ r.0, rw (e, r.1) refl)

quote_ascii : (i : ℕ) → get_or (39 ∷ []) i 0 < 128
quote_ascii zero = omega arith
quote_ascii (suc i) = omega arith

quote_utf8 : IsUtf8 (39 ∷ [])
quote_utf8 = IsUtf8-from_ascii (39 ∷ []) quote_ascii

within_utf8 : (before v rest : List ℕ) → IsUtf8 (before ++ ((39 ∷ in_quotes v) ++ rest)) → IsUtf8 (39 ∷ in_quotes v)
within_utf8 before v rest u =
    let e = quotes_end v in
    let inner = behind_quote before (in_quotes v ++ rest) u in
    let parts : in_quotes v ++ rest ≡ e.0 ++ 39 ∷ rest = ap (λ (q : List ℕ). q ++ rest) e.1 ∙ append_assoc e.0 (39 ∷ []) rest in
    let middle = before_quote e.0 rest (subst IsUtf8 parts inner) in
    let closed = IsUtf8-append e.0 (39 ∷ []) middle quote_utf8 in
    IsUtf8-append (39 ∷ []) (in_quotes v) quote_utf8 (subst IsUtf8 (sym e.1) closed)

-- the spelling of a text is UTF-8 where the whole is
pub spelling_utf8 : (text : List ℕ) (from long : ℕ) → IsUtf8 text → IsQuoted (take long (drop from text)) → IsUtf8 (take long (drop from text))
spelling_utf8 text from long u q =
    let before = take from text in
    let rest = drop long (drop from text) in
    let own : drop from text ≡ (39 ∷ in_quotes q.value) ++ rest = sym (take-append-drop long (drop from text)) ∙ ap (λ (x : List ℕ). x ++ rest) q.spelled in
    let whole : text ≡ before ++ ((39 ∷ in_quotes q.value) ++ rest) = sym (take-append-drop from text) ∙ ap (λ (x : List ℕ). before ++ x) own in
    subst IsUtf8 (sym q.spelled) (within_utf8 before q.value rest (subst IsUtf8 whole u))
