-- What reading all tokens says of them.
use Rattle.std.proofs.Common.{◌≡◌, ℕ, zero, suc, ◌≤◌, ◌<◌, true, List, [], ◌∷◌, ◌++◌, length, Option, Some, None, Result, Ok, Err, refl, sym, ap, subst, ◌∙◌, arith, inl, inr}
use Rattle.std.proofs.lemmas.List.{append-nil}
use Rattle.ss_sql_parse.specs.declared.lexeme.Lexeme.{Lexeme}
use Rattle.ss_sql_lex.specs.declared.tree.ExprTree.{ExprTree}
use Rattle.ss_sql_grammar.specs.Grammar.{Rule, one, nested, act, both, or, maybe, some, Spells, Each, Perhaps, ◌>>=◌, read, starts, goes_on, decides}
use Rattle.ss_sql_grammar.specs.Exact.{Passed, Exact}
use Rattle.ss_sql_parse.specs.Terminals.{kind, a_number}
use Rattle.ss_sql_parse.specs.Nodes.{number_leaf, number_tree}
use Rattle.ss_sql_parse.specs.Sql.{Nest, InExpr, InNot, InUnary, Sql, sql, inner, deep, Deep, rule}
use Rattle.ss_sql_parse.specs.Whole.{Spelled, IsTree, BeginsNone, IsUnexpected, nothing_left, whole, Judges}
use Rattle.ss_sql_grammar.proofs.CallerLemmas.{ok_is, rules_exact, agree}
use Rattle.std.proofs.lemmas.Bool.{eqb-true}
use Rattle.ss_sql_parse.proofs.Nesting.{deep_exact, inner_is}

-- ---- deeper nesting keeps what is spelled

each_map : {T B : Type 0} (P Q : List T → B → Type 0) → ((ts : List T) (b : B) → P ts b → Q ts b) → (bs : List B) (ts : List T) → Each P ts bs → Each Q ts bs
each_map P Q f [] ts h = h
each_map P Q f (b ∷ bs) ts h = record { front = h.front; back = h.back; parts = h.parts; first = f h.front b h.first; second = each_map P Q f bs h.back h.second }

perhaps_map : {T B : Type 0} (P Q : List T → B → Type 0) → ((ts : List T) (b : B) → P ts b → Q ts b) → (o : Option B) (ts : List T) → Perhaps P ts o → Perhaps Q ts o
perhaps_map P Q f None ts h = h
perhaps_map P Q f (Some b) ts h = f ts b h

pub spells_map : {N T X A : Type 0} (kind : T → ℕ) (P Q : N → List T → X → Type 0) → ((n : N) (ts : List T) (x : X) → P n ts x → Q n ts x) → (g : Rule N T X A) (ts : List T) (a : A) → Spells kind P g ts a → Spells kind Q g ts a
spells_map kind P Q f (one c) ts a h = h
spells_map kind P Q f (nested n) ts a h = f n ts a h
spells_map kind P Q f (act m g) ts a h = record { from = h.from; is = spells_map kind P Q f g ts h.from h.is; made = h.made }
spells_map kind P Q f (both g1 g2) ts a h = record { front = h.front; back = h.back; parts = h.parts; first = spells_map kind P Q f g1 h.front a.0 h.first; second = spells_map kind P Q f g2 h.back a.1 h.second }
spells_map kind P Q f (or g1 g2) ts a (inl h) = inl (spells_map kind P Q f g1 ts a h)
spells_map kind P Q f (or g1 g2) ts a (inr h) = inr (spells_map kind P Q f g2 ts a h)
spells_map kind P Q f (maybe g1 g2) ts a h = record { front = h.front; back = h.back; parts = h.parts; first = spells_map kind P Q f g1 h.front a.0 h.first; second = perhaps_map (Spells kind P g2) (Spells kind Q g2) (spells_map kind P Q f g2) a.1 h.back h.second }
spells_map kind P Q f (some g1 g2) ts a h = record { front = h.front; back = h.back; parts = h.parts; first = spells_map kind P Q f g1 h.front a.0 h.first; second = each_map (Spells kind P g2) (Spells kind Q g2) (spells_map kind P Q f g2) a.1 h.back h.second }

-- a number alone is read at depth 1
number_read : (n : Nest) (l : Lexeme) → kind l ≡ a_number → deep 1 n (l ∷ []) ≡ Ok (number_leaf (number_tree l), [])
unfolding deep
number_read InExpr l e = rw e refl
number_read InNot l e = rw e refl
number_read InUnary l e = rw e refl

number_deeper : (n : Nest) (ts : List Lexeme) (x : ExprTree) → Deep zero n ts x → Deep 1 n ts x
number_deeper n ts x h =
    let l = h.is.from in
    let e : kind l ≡ a_number = eqb-true (kind l) a_number h.is.is.fits in
    let f = (deep_exact 1 n).part.sound (l ∷ []) (number_leaf (number_tree l), []) (number_read n l e) in
    rw (h.is.is.alone, h.made, h.is.made) (subst (λ us. Deep 1 n us (number_leaf (number_tree l))) (sym (f.parts ∙ append-nil f.front)) f.is)

once_deeper : (d : ℕ) (n : Nest) (ts : List Lexeme) (x : ExprTree) → Deep d n ts x → Deep (suc d) n ts x
once_deeper zero n ts x h = number_deeper n ts x h
once_deeper (suc d) n ts x h = spells_map kind (Deep d) (Deep (suc d)) (once_deeper d) (rule n) ts x h

abbrev raise : ℕ → ℕ → ℕ
raise zero d = d
raise (suc k) d = suc (raise k d)

raise_le : (k d : ℕ) → k ≤ raise k d
raise_le zero d = omega arith
raise_le (suc k) d = let h = raise_le k d in omega arith

raise_le2 : (k d : ℕ) → d ≤ raise k d
raise_le2 zero d = omega arith
raise_le2 (suc k) d = let h = raise_le2 k d in omega arith

deeper : (k d : ℕ) (n : Nest) (ts : List Lexeme) (x : ExprTree) → Deep d n ts x → Deep (raise k d) n ts x
deeper zero d n ts x h = h
deeper (suc k) d n ts x h = once_deeper (raise k d) n ts x (deeper k d n ts x h)

-- ---- at a depth

exact_at : {A : Type 0} (g : Sql A) → decides sql g ≡ true → (d : ℕ) → Exact kind (Spells kind (Deep d) g) (read sql (deep d) g) (starts sql g) (goes_on sql g)
exact_at g ll d = rules_exact sql (Deep d) (deep d) (deep_exact d) g ll

at_depth : {A : Type 0} (g : Sql A) → decides sql g ≡ true → (d : ℕ) (ts : List Lexeme) → length ts < d → read sql (deep d) g ts ≡ read sql inner g ts
at_depth g ll d ts lt = agree sql (Deep d) (deep d) inner d (deep_exact d) (λ n us short. sym (inner_is d n us short)) g ll ts lt

raised : {A : Type 0} (g : Sql A) (k : ℕ) (ts : List Lexeme) (tree : A) (h : Spelled g ts tree) → Spells kind (Deep (raise k h.depth)) g ts tree
raised g k ts tree h = spells_map kind (Deep h.depth) (Deep (raise k h.depth)) (deeper k h.depth) g ts tree h.is

-- what is spelled is read
spelled_read : {A : Type 0} (g : Sql A) → decides sql g ≡ true → (ts : List Lexeme) (tree : A) → Spelled g ts tree → read sql inner g ts ≡ Ok (tree, [])
spelled_read g ll ts tree h =
    let d = raise (suc (length ts)) h.depth in
    let le = raise_le (suc (length ts)) h.depth in
    let c = (exact_at g ll d).part.complete ts [] tree (raised g (suc (length ts)) ts tree h) refl in
    sym (at_depth g ll d ts (omega arith)) ∙ subst (λ us. read sql (deep d) g us ≡ Ok (tree, [])) (append-nil ts) c

tree_is : {A : Type 0} (a b : A) (r : Result (A × List Lexeme) ℕ) → r ≡ Ok (a, []) → r ≡ Ok (b, []) → a ≡ b
tree_is a b r e f = ap (λ (p : _ × List Lexeme). p.0) (ok_is (a, []) (b, []) (sym e ∙ f))

is_tree : {A : Type 0} (g : Sql A) → decides sql g ≡ true → (ts : List Lexeme) (tree : A) → read sql inner g ts ≡ Ok (tree, []) → IsTree g ts tree
is_tree g ll ts tree e =
    let f = (exact_at g ll (suc (length ts))).part.sound ts (tree, []) (at_depth g ll (suc (length ts)) ts (omega arith) ∙ e) in
    record {
      is = record { depth = suc (length ts); is = subst (λ us. Spells kind (Deep (suc (length ts))) g us tree) (sym (f.parts ∙ append-nil f.front)) f.is };
      only = λ other h. tree_is other tree (read sql inner g ts) (spelled_read g ll ts other h) e;
    }

-- the token behind front is not read
dead_at : {A : Type 0} (g : Sql A) → decides sql g ≡ true → (ts front rest : List Lexeme) (l : Lexeme) → ts ≡ front ++ l ∷ rest → (Passed (length rest) (read sql inner g ts) → ⊥)
    → (more : List Lexeme) (tree : A) → Spelled g (front ++ l ∷ more) tree → ⊥
dead_at g ll ts front rest l parts passed more tree h =
    let d = raise (suc (length ts)) h.depth in
    let le = raise_le (suc (length ts)) h.depth in
    let c = (exact_at g ll d).part.passes front more rest l tree (raised g (suc (length ts)) (front ++ l ∷ more) tree h) in
    passed (subst (λ r. Passed (length rest) r) (ap (read sql (deep d) g) (sym parts) ∙ at_depth g ll d ts (omega arith)) c)

stuck_dead : {A : Type 0} (g : Sql A) → decides sql g ≡ true → (n : ℕ) (ts front rest : List Lexeme) → ts ≡ front ++ rest → n ≡ length rest → read sql inner g ts ≡ Err n → BeginsNone g front rest
stuck_dead g ll n ts front [] parts left e = λ tree h. let c = spelled_read g ll ts tree (subst (λ us. Spelled g us tree) (sym (parts ∙ append-nil front)) h) in cc
stuck_dead g ll n ts front (l ∷ rest) parts left e = λ more tree h. dead_at g ll ts front rest l parts (λ p. let q : n ≤ length rest = rw e at p in omega (arith, left)) more tree h

is_stuck : {A : Type 0} (g : Sql A) → decides sql g ≡ true → (n : ℕ) (ts : List Lexeme) → read sql inner g ts ≡ Err n → IsUnexpected g ts n
is_stuck g ll n ts e =
    let s = (exact_at g ll (suc (length ts))).part.stuck ts n (at_depth g ll (suc (length ts)) ts (omega arith) ∙ e) in
    record { front = s.front; rest = s.rest; parts = s.parts; left = s.left; begun = record { more = s.more; tree = s.tree; is = record { depth = suc (length ts); is = s.is } }; dead = stuck_dead g ll n ts s.front s.rest s.parts s.left e }

is_early : {A : Type 0} (g : Sql A) → decides sql g ≡ true → (ts : List Lexeme) (tree : A) (l : Lexeme) (rest : List Lexeme) → read sql inner g ts ≡ Ok (tree, l ∷ rest) → IsUnexpected g ts (length (l ∷ rest))
is_early g ll ts tree l rest e =
    let f = (exact_at g ll (suc (length ts))).part.sound ts (tree, l ∷ rest) (at_depth g ll (suc (length ts)) ts (omega arith) ∙ e) in
    record {
      front = f.front;
      rest = l ∷ rest;
      parts = f.parts;
      left = refl;
      begun = record { more = []; tree = tree; is = record { depth = suc (length ts); is = subst (λ us. Spells kind (Deep (suc (length ts))) g us tree) (sym (append-nil f.front)) f.is } };
      dead = λ more other h. dead_at g ll ts f.front rest l f.parts (λ p. let q : length (l ∷ rest) ≤ length rest = rw e at p in omega arith) more other h;
    }

judged_at : {A : Type 0} (g : Sql A) → decides sql g ≡ true → (ts : List Lexeme) (r : Result (A × List Lexeme) ℕ) → read sql inner g ts ≡ r → Judges g ts (r >>= nothing_left)
judged_at g ll ts (Ok (tree, [])) e = is_tree g ll ts tree e
judged_at g ll ts (Ok (tree, l ∷ rest)) e = is_early g ll ts tree l rest e
judged_at g ll ts (Err n) e = is_stuck g ll n ts e

pub judged : {A : Type 0} (g : Sql A) → decides sql g ≡ true → (ts : List Lexeme) → Judges g ts (whole g ts)
judged g ll ts = judged_at g ll ts (read sql inner g ts) refl

-- a list of tokens has one tree at most
pub one_tree : {A : Type 0} (g : Sql A) → decides sql g ≡ true → (ts : List Lexeme) (a b : A) → Spelled g ts a → Spelled g ts b → a ≡ b
one_tree g ll ts a b h k = tree_is a b (read sql inner g ts) (spelled_read g ll ts a h) (spelled_read g ll ts b k)
