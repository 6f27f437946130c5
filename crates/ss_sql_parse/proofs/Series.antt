-- Lists with commas between their items, as a loop reads them.
use Rattle.std.proofs.Common.{◌≡◌, ℕ, zero, suc, ◌-◌, ◌+◌, ◌≤◌, ◌<◌, true, false, List, [], ◌∷◌, ◌++◌, length, Result, Ok, Err, refl, sym, ap, ◌∙◌, arith, append_assoc}
use Rattle.std.specs.Prelude.{map}
use Rattle.std.proofs.lemmas.List.{append-nil}
use Rattle.ss_sql_parse.specs.declared.lexeme.Lexeme.{Lexeme}
use Rattle.ss_sql_parse.specs.declared.lexeme.Terminal.TheVariants as t
use Rattle.ss_sql_grammar.specs.Grammar.{◌>>=◌, Reader, begins, token, many, pair}
use Rattle.ss_sql_parse.specs.Terminals.{code, kind}
use Rattle.ss_sql_parse.specs.declared.stop.Stop.{Stop}
use Rattle.ss_sql_parse.specs.declared.stop.Stop.TheVariants as stop
use Rattle.ss_sql_parse.specs.Gives.{Fails}
use Rattle.ss_sql_parse.specs.Statements.{items_of}
use Rattle.ss_sql_parse.specs.Lists.{list_read}

abbrev pub commas : List ℕ
commas = code t.Comma ∷ []

abbrev pub others : {A : Type 0} → Reader Lexeme A → ℕ → List Lexeme → Result (List (Lexeme × A) × List Lexeme) ℕ
others p n ts = many n (begins kind commas) (λ us. pair (token kind (code t.Comma)) p us) ts

abbrev pub with_items : {A : Type 0} → List A → Result (List (Lexeme × A) × List Lexeme) ℕ → Result (List A × List Lexeme) ℕ
with_items xs r = r >>= λ z. Ok (xs ++ map (λ y. y.1) z.0, z.1)

abbrev beside : {A : Type 0} → A → List (Lexeme × A) × List Lexeme → Result ((A × List (Lexeme × A)) × List Lexeme) ℕ
beside x y = Ok ((x, y.0), y.1)

abbrev in_list : {A : Type 0} → (A × List (Lexeme × A)) × List Lexeme → Result (List A × List Lexeme) ℕ
in_list x = Ok (items_of x.0, x.1)

regroup : {A : Type 0} (x : A) (r : Result (List (Lexeme × A) × List Lexeme) ℕ) → with_items (x ∷ []) r ≡ (r >>= beside x) >>= in_list
regroup x (Ok y) = refl
regroup x (Err e) = refl

pub begun : {A : Type 0} (p : Reader Lexeme A) (ts : List Lexeme) (x : A) (rest : List Lexeme) → p ts ≡ Ok (x, rest) → with_items (x ∷ []) (others p (length rest) rest) ≡ list_read p ts
begun p ts x rest h = rw h (regroup x (others p (length rest) rest))

pub no_first : {A : Type 0} (e : Stop) (p : Reader Lexeme A) (ts : List Lexeme) → Fails e (p ts) → Fails e (list_read p ts)
no_first stop.Memory p ts h = tt
no_first (stop.Left n) p ts h = rw h refl

one_more : {A : Type 0} (xs : List A) (o : Lexeme) (x : A) (r : Result (List (Lexeme × A) × List Lexeme) ℕ) → with_items xs (r >>= (λ z. Ok ((o, x) ∷ z.0, z.1))) ≡ with_items (xs ++ x ∷ []) r
one_more xs o x (Ok y) = ap (λ (zs : List _). Ok (zs, y.1)) (sym (append_assoc xs (x ∷ []) (map (λ y. y.1) y.0)))
one_more xs o x (Err e) = refl

pub goes_on : {A : Type 0} (p : Reader Lexeme A) (xs : List A) (count i : ℕ) (rest : List Lexeme) (o : Lexeme) (middle : List Lexeme) (x : A) (after : List Lexeme) (total : Result (List A × List Lexeme) ℕ)
    → i < count → begins kind commas rest ≡ true → token kind (code t.Comma) rest ≡ Ok (o, middle) → p middle ≡ Ok (x, after)
    → with_items xs (others p (count - i) rest) ≡ total → with_items (xs ++ x ∷ []) (others p (count - (i + 1)) after) ≡ total
goes_on p xs count i rest o middle x after total lt b h1 h2 so_far =
    let k : count - i ≡ suc (count - (i + 1)) = omega arith in
    let one : with_items xs (others p (count - i) rest) ≡ with_items (xs ++ x ∷ []) (others p (count - (i + 1)) after) = rw (k, b, h1, h2) (one_more xs o x (others p (count - (i + 1)) after)) in
    sym one ∙ so_far

pub stops_at_comma : {A : Type 0} (e : Stop) (p : Reader Lexeme A) (xs : List A) (count i : ℕ) (rest : List Lexeme) (total : Result (List A × List Lexeme) ℕ)
    → i < count → begins kind commas rest ≡ true → Fails e (token kind (code t.Comma) rest) → with_items xs (others p (count - i) rest) ≡ total → Fails e total
stops_at_comma stop.Memory p xs count i rest total lt b h so_far = tt
stops_at_comma (stop.Left n) p xs count i rest total lt b h so_far =
    let k : count - i ≡ suc (count - (i + 1)) = omega arith in
    let one : with_items xs (others p (count - i) rest) ≡ Err n = rw (k, b, h) refl in
    sym so_far ∙ one

pub stops_at_item : {A : Type 0} (e : Stop) (p : Reader Lexeme A) (xs : List A) (count i : ℕ) (rest : List Lexeme) (o : Lexeme) (middle : List Lexeme) (total : Result (List A × List Lexeme) ℕ)
    → i < count → begins kind commas rest ≡ true → token kind (code t.Comma) rest ≡ Ok (o, middle) → Fails e (p middle) → with_items xs (others p (count - i) rest) ≡ total → Fails e total
stops_at_item stop.Memory p xs count i rest o middle total lt b h1 h2 so_far = tt
stops_at_item (stop.Left n) p xs count i rest o middle total lt b h1 h2 so_far =
    let k : count - i ≡ suc (count - (i + 1)) = omega arith in
    let one : with_items xs (others p (count - i) rest) ≡ Err n = rw (k, b, h1, h2) refl in
    sym so_far ∙ one

stays : {A : Type 0} (p : Reader Lexeme A) (xs : List A) (n : ℕ) (rest : List Lexeme) → begins kind commas rest ≡ false → with_items xs (others p n rest) ≡ Ok (xs, rest)
stays p xs zero rest b = ap (λ (zs : List _). Ok (zs, rest)) (append-nil xs)
stays p xs (suc n) rest b = rw b (ap (λ (zs : List _). Ok (zs, rest)) (append-nil xs))

pub no_more : {A : Type 0} (p : Reader Lexeme A) (xs : List A) (n : ℕ) (rest : List Lexeme) (total : Result (List A × List Lexeme) ℕ) → begins kind commas rest ≡ false → with_items xs (others p n rest) ≡ total → total ≡ Ok (xs, rest)
no_more p xs n rest total b so_far = sym so_far ∙ stays p xs n rest b

pub all_read : {A : Type 0} (p : Reader Lexeme A) (xs : List A) (count i : ℕ) (rest : List Lexeme) (total : Result (List A × List Lexeme) ℕ) → count ≤ i → with_items xs (others p (count - i) rest) ≡ total → total ≡ Ok (xs, rest)
all_read p xs count i rest total le so_far =
    let k : count - i ≡ 0 = omega arith in
    let one : with_items xs (others p (count - i) rest) ≡ Ok (xs, rest) = rw k (ap (λ (zs : List _). Ok (zs, rest)) (append-nil xs)) in
    sym so_far ∙ one
