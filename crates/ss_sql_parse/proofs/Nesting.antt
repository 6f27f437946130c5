-- What is nested is read by its rule, and exactly, at each depth.
use Rattle.std.proofs.Common.{◌≡◌, ℕ, zero, suc, ◌≤◌, ◌<◌, true, List, [], ◌∷◌, length, Err, refl, sym, arith}
use Rattle.ss_sql_parse.specs.declared.lexeme.Lexeme.{Lexeme}
use Rattle.ss_sql_grammar.specs.Grammar.{IsOne, Spells, token, read, starts, goes_on, decides, guarded}
use Rattle.ss_sql_grammar.specs.Exact.{Exact}
use Rattle.ss_sql_parse.specs.Terminals.{kind, spare, a_number}
use Rattle.ss_sql_parse.specs.Nodes.{number_tree, number_leaf}
use Rattle.ss_sql_parse.specs.Sql.{Nest, InExpr, InNot, InUnary, sql, inner, deep, Deep, rule, number, lone_number, first_of, last_of}
use Rattle.ss_sql_grammar.proofs.CallerLemmas.{rules_exact, one_exact, act_exact, widened, agree_guarded}

pub rule_decides : (n : Nest) → decides sql (rule n) ≡ true
rule_decides InExpr = refl
rule_decides InNot = refl
rule_decides InUnary = refl

rule_guarded : (n : Nest) → guarded (rule n) ≡ true
rule_guarded InExpr = refl
rule_guarded InNot = refl
rule_guarded InUnary = refl

lone_exact : Exact kind (Spells kind (λ n ts x. ts ≡ []) lone_number) (read sql (λ n ts. Err 0) lone_number) (a_number ∷ []) []
lone_exact = act_exact kind (Spells kind (λ n ts x. ts ≡ []) number) (read sql (λ n ts. Err 0) number) (a_number ∷ []) [] number_leaf (act_exact kind (IsOne kind a_number) (token kind a_number) (a_number ∷ []) [] number_tree (one_exact kind a_number (spare a_number) refl))

number_exact : (n : Nest) → Exact kind (Deep zero n) (deep zero n) (first_of n) (last_of n)
unfolding deep
number_exact InExpr = widened kind (Deep zero InExpr) (deep zero InExpr) (a_number ∷ []) (first_of InExpr) [] (last_of InExpr) refl refl lone_exact
number_exact InNot = widened kind (Deep zero InNot) (deep zero InNot) (a_number ∷ []) (first_of InNot) [] (last_of InNot) refl refl lone_exact
number_exact InUnary = widened kind (Deep zero InUnary) (deep zero InUnary) (a_number ∷ []) (first_of InUnary) [] (last_of InUnary) refl refl lone_exact

next_exact : (d : ℕ) → ((n : Nest) → Exact kind (Deep d n) (deep d n) (first_of n) (last_of n)) → (n : Nest) → Exact kind (Deep (suc d) n) (deep (suc d) n) (first_of n) (last_of n)
unfolding deep
next_exact d inside InExpr = widened kind (Deep (suc d) InExpr) (deep (suc d) InExpr) (starts sql (rule InExpr)) (first_of InExpr) (goes_on sql (rule InExpr)) (last_of InExpr) refl refl (rules_exact sql (Deep d) (deep d) inside (rule InExpr) refl)
next_exact d inside InNot = widened kind (Deep (suc d) InNot) (deep (suc d) InNot) (starts sql (rule InNot)) (first_of InNot) (goes_on sql (rule InNot)) (last_of InNot) refl refl (rules_exact sql (Deep d) (deep d) inside (rule InNot) refl)
next_exact d inside InUnary = widened kind (Deep (suc d) InUnary) (deep (suc d) InUnary) (starts sql (rule InUnary)) (first_of InUnary) (goes_on sql (rule InUnary)) (last_of InUnary) refl refl (rules_exact sql (Deep d) (deep d) inside (rule InUnary) refl)

pub deep_exact : (d : ℕ) (n : Nest) → Exact kind (Deep d n) (deep d n) (first_of n) (last_of n)
deep_exact zero n = number_exact n
deep_exact (suc d) n = next_exact d (deep_exact d) n

-- to any depth that is no less than the length
pub stable : (m d e : ℕ) → m ≤ d → m ≤ e → (n : Nest) (ts : List Lexeme) → length ts < m → deep d n ts ≡ deep e n ts
unfolding deep
stable zero d e l1 l2 n ts lt = absurd (omega arith)
stable (suc m) zero e l1 l2 n ts lt = absurd (omega arith)
stable (suc m) (suc d) zero l1 l2 n ts lt = absurd (omega arith)
stable (suc m) (suc d) (suc e) l1 l2 n ts lt = agree_guarded sql (Deep d) (deep d) (deep e) m (deep_exact d) (stable m d e (omega arith) (omega arith)) (rule n) (rule_decides n) (rule_guarded n) ts lt

pub inner_is : (d : ℕ) (n : Nest) (ts : List Lexeme) → length ts < d → inner n ts ≡ deep d n ts
unfolding inner
inner_is d n ts lt = stable (suc (length ts)) (suc (length ts)) d (omega arith) (omega arith) n ts (omega arith)

pub unrolls : (n : Nest) (ts : List Lexeme) → inner n ts ≡ read sql inner (rule n) ts
unfolding inner deep
unrolls n ts = agree_guarded sql (Deep (length ts)) (deep (length ts)) inner (length ts) (deep_exact (length ts)) (λ n us lt. sym (inner_is (length ts) n us lt)) (rule n) (rule_decides n) (rule_guarded n) ts (omega arith)
