-- Operators that repeat, as a loop reads them.
use Rattle.std.proofs.Common.{◌≡◌, ℕ, zero, suc, ◌-◌, ◌+◌, ◌≤◌, ◌<◌, true, false, List, ◌∷◌, length, Result, Ok, Err, refl, sym, ◌∙◌, arith}
use Rattle.ss_sql_parse.specs.declared.lexeme.Lexeme.{Lexeme}
use Rattle.ss_sql_lex.specs.declared.tree.ExprTree.{ExprTree}
use Rattle.ss_sql_grammar.specs.Grammar.{◌>>=◌, begins, starts, read}
use Rattle.ss_sql_parse.specs.Terminals.{kind}
use Rattle.ss_sql_parse.specs.declared.stop.Stop.{Stop}
use Rattle.ss_sql_parse.specs.declared.stop.Stop.TheVariants as stop
use Rattle.ss_sql_parse.specs.Gives.{Fails}
use Rattle.ss_sql_parse.specs.Sql.{Sql, sql, inner, chain}
use Rattle.ss_sql_parse.specs.Nodes.{left_grouping, binary_tree}
use Rattle.ss_sql_parse.specs.declared.operators.Level.{Level}
use Rattle.ss_sql_parse.specs.Levels.{turns, chain_tree, tail, operator_rule, side_rule}
use Rattle.ss_sql_trees.specs.declared.typed.BinaryOp.{BinaryOp}

abbrev beside : ExprTree → List (BinaryOp × ExprTree) × List Lexeme → Result ((ExprTree × List (BinaryOp × ExprTree)) × List Lexeme) ℕ
beside left y = Ok ((left, y.0), y.1)

abbrev in_groups : (ExprTree × List (BinaryOp × ExprTree)) × List Lexeme → Result (ExprTree × List Lexeme) ℕ
in_groups x = Ok (left_grouping x.0.0 x.0.1, x.1)

regroup : (left : ExprTree) (r : Result (List (BinaryOp × ExprTree) × List Lexeme) ℕ) → chain_tree left r ≡ (r >>= beside left) >>= in_groups
regroup left (Ok x) = refl
regroup left (Err e) = refl

pub begun : (op : Sql BinaryOp) (side : Sql ExprTree) (ts : List Lexeme) (left : ExprTree) (rest : List Lexeme) → read sql inner side ts ≡ Ok (left, rest) → chain_tree left (turns op side (length rest) rest) ≡ read sql inner (chain op side) ts
begun op side ts left rest h = rw h (regroup left (turns op side (length rest) rest))

one_more : (left : ExprTree) (o : BinaryOp) (right : ExprTree) (r : Result (List (BinaryOp × ExprTree) × List Lexeme) ℕ) → chain_tree left (r >>= (λ z. Ok ((o, right) ∷ z.0, z.1))) ≡ chain_tree (binary_tree left (o, right)) r
one_more left o right (Ok x) = refl
one_more left o right (Err e) = refl

pub goes_on : (op : Sql BinaryOp) (side : Sql ExprTree) (left : ExprTree) (count i : ℕ) (rest : List Lexeme) (o : BinaryOp) (middle : List Lexeme) (right : ExprTree) (after : List Lexeme) (total : Result (ExprTree × List Lexeme) ℕ)
    → i < count → begins kind (starts sql op) rest ≡ true → read sql inner op rest ≡ Ok (o, middle) → read sql inner side middle ≡ Ok (right, after)
    → chain_tree left (turns op side (count - i) rest) ≡ total → chain_tree (binary_tree left (o, right)) (turns op side (count - (i + 1)) after) ≡ total
goes_on op side left count i rest o middle right after total lt b h1 h2 so_far =
    let k : count - i ≡ suc (count - (i + 1)) = omega arith in
    let one : chain_tree left (turns op side (count - i) rest) ≡ chain_tree (binary_tree left (o, right)) (turns op side (count - (i + 1)) after) = rw (k, b, h1, h2) (one_more left o right (turns op side (count - (i + 1)) after)) in
    sym one ∙ so_far

pub no_operator : (op : Sql BinaryOp) (side : Sql ExprTree) (left : ExprTree) (count i : ℕ) (rest : List Lexeme) (e : ℕ) (total : Result (ExprTree × List Lexeme) ℕ)
    → i < count → begins kind (starts sql op) rest ≡ true → read sql inner op rest ≡ Err e → chain_tree left (turns op side (count - i) rest) ≡ total → total ≡ Err e
no_operator op side left count i rest e total lt b h so_far =
    let k : count - i ≡ suc (count - (i + 1)) = omega arith in
    let one : chain_tree left (turns op side (count - i) rest) ≡ Err e = rw (k, b, h) refl in
    sym so_far ∙ one

pub no_side : (op : Sql BinaryOp) (side : Sql ExprTree) (left : ExprTree) (count i : ℕ) (rest : List Lexeme) (o : BinaryOp) (middle : List Lexeme) (e : ℕ) (total : Result (ExprTree × List Lexeme) ℕ)
    → i < count → begins kind (starts sql op) rest ≡ true → read sql inner op rest ≡ Ok (o, middle) → read sql inner side middle ≡ Err e → chain_tree left (turns op side (count - i) rest) ≡ total → total ≡ Err e
no_side op side left count i rest o middle e total lt b h1 h2 so_far =
    let k : count - i ≡ suc (count - (i + 1)) = omega arith in
    let one : chain_tree left (turns op side (count - i) rest) ≡ Err e = rw (k, b, h1, h2) refl in
    sym so_far ∙ one

pub all_read : (op : Sql BinaryOp) (side : Sql ExprTree) (left : ExprTree) (count i : ℕ) (rest : List Lexeme) (total : Result (ExprTree × List Lexeme) ℕ) → count ≤ i → chain_tree left (turns op side (count - i) rest) ≡ total → total ≡ Ok (left, rest)
all_read op side left count i rest total le so_far =
    let k : count - i ≡ 0 = omega arith in
    let one : chain_tree left (turns op side (count - i) rest) ≡ Ok (left, rest) = rw k refl in
    sym so_far ∙ one

stays : (op : Sql BinaryOp) (side : Sql ExprTree) (left : ExprTree) (n : ℕ) (rest : List Lexeme) → begins kind (starts sql op) rest ≡ false → chain_tree left (turns op side n rest) ≡ Ok (left, rest)
stays op side left zero rest b = refl
stays op side left (suc n) rest b = rw b refl

pub no_more : (op : Sql BinaryOp) (side : Sql ExprTree) (left : ExprTree) (n : ℕ) (rest : List Lexeme) (total : Result (ExprTree × List Lexeme) ℕ) → begins kind (starts sql op) rest ≡ false → chain_tree left (turns op side n rest) ≡ total → total ≡ Ok (left, rest)
no_more op side left n rest total b so_far = sym so_far ∙ stays op side left n rest b

pub stops_at_operator : (e : Stop) (op : Sql BinaryOp) (side : Sql ExprTree) (left : ExprTree) (count i : ℕ) (rest : List Lexeme) (total : Result (ExprTree × List Lexeme) ℕ)
    → i < count → begins kind (starts sql op) rest ≡ true → Fails e (read sql inner op rest) → chain_tree left (turns op side (count - i) rest) ≡ total → Fails e total
stops_at_operator stop.Memory op side left count i rest total lt b h so_far = tt
stops_at_operator (stop.Left n) op side left count i rest total lt b h so_far = no_operator op side left count i rest n total lt b h so_far

pub stops_at_side : (e : Stop) (op : Sql BinaryOp) (side : Sql ExprTree) (left : ExprTree) (count i : ℕ) (rest : List Lexeme) (o : BinaryOp) (middle : List Lexeme) (total : Result (ExprTree × List Lexeme) ℕ)
    → i < count → begins kind (starts sql op) rest ≡ true → read sql inner op rest ≡ Ok (o, middle) → Fails e (read sql inner side middle) → chain_tree left (turns op side (count - i) rest) ≡ total → Fails e total
stops_at_side stop.Memory op side left count i rest o middle total lt b h1 h2 so_far = tt
stops_at_side (stop.Left n) op side left count i rest o middle total lt b h1 h2 so_far = no_side op side left count i rest o middle n total lt b h1 h2 so_far

-- ---- operators behind what was read

-- a side, and then the operators behind it
pub follows : (l : Level) (ts : List Lexeme) (left : ExprTree) (rest : List Lexeme) (x : Result (ExprTree × List Lexeme) ℕ)
    → read sql inner (side_rule l) ts ≡ Ok (left, rest) → tail l left rest ≡ x → read sql inner (chain (operator_rule l) (side_rule l)) ts ≡ x
follows l ts left rest x h t = sym (begun (operator_rule l) (side_rule l) ts left rest h) ∙ t
