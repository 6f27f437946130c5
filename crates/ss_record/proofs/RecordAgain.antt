-- A record that is written is read again, whatever follows it.
use Rattle.std.proofs.Common.{◌≡◌, ◌∙◌, ℕ, suc, ◌^◌, ◌<◌, ◌≤◌, List, [], ◌∷◌, ◌++◌, length, take, drop, nat_lt, nat_le, true, false, cond, ◌&&◌, Ok, Err, refl, ap, arith, All, append_assoc, length-append, take_at, drop_at}
use Rattle.std.specs.List.{flat_map, list_all}
use Rattle.std.proofs.lemmas.List.Elements.{All-head, All-tail}
use Rattle.std.proofs.lemmas.Bool.Decides.{nat_tests}
use Rattle.ss_lemmas.proofs.Bools.{first_of_two, second_of_two}
use Rattle.ss_value.specs.Rows.{Row, Rows}
use Rattle.ss_value.specs.Words.{is_name, is_letter, is_word_byte}
use Rattle.ss_model.specs.declared.entry.Entry.{Entry}
use Rattle.ss_model.specs.declared.entry.Entry.TheVariants.{Call, Push, Step, Install}
use Rattle.ss_record.specs.declared.record.RecordError.TheVariants.{Truncated, BadField}
use Rattle.ss_record.specs.Numbers.{number_bytes}
use Rattle.ss_record.specs.Spelling.{row_bytes, name_bytes, record_bytes}
use Rattle.ss_record.specs.Bounds.{IsShort, IsTypedRow, IsRecordable, IsTyped}
use Rattle.ss_record.specs.Records.{◌>>>◌, in_record, client_at, index_at, order_at, seq_at, count_at, fields_at, name_bytes_at, name_at, rows_at, batch_at, body_bytes_at, body_at, step_at, call_at, push_at, install_at, record_at}
use Rattle.ss_record.proofs.Again.{number_again, row_again}

client_again : (c : ℕ) (rest : List ℕ) → c < 8 → client_at (c ∷ rest) ≡ Ok (c, rest)
unfolding client_at
client_again c rest h = let is : nat_lt c 8 ≡ true = grind (arith, nat_tests) in ap (λ b. cond b (Ok (c, rest)) (Err BadField)) is

index_again : (x : ℕ) (rest : List ℕ) → x < 2 ^ 64 → index_at (number_bytes 8 x ++ rest) ≡ Ok (x, rest)
unfolding index_at
index_again x rest h = ap in_record (number_again 8 x rest h)

order_again : (x : ℕ) (rest : List ℕ) → x < 2 ^ 16 → order_at (number_bytes 2 x ++ rest) ≡ Ok (x, rest)
unfolding order_at
order_again x rest h = ap in_record (number_again 2 x rest h)

seq_again : (x : ℕ) (rest : List ℕ) → x < 2 ^ 63 → seq_at (number_bytes 8 x ++ rest) ≡ Ok (x, rest)
unfolding seq_at
seq_again x rest h =
    let is : nat_lt x (2 ^ 63) ≡ true = grind (arith, nat_tests) in
    ap (λ r. in_record r >>> λ n. cond (nat_lt n.0 (2 ^ 63)) (Ok n) (Err BadField)) (number_again 8 x rest (omega arith)) ∙ ap (λ b. cond b (Ok (x, rest)) (Err BadField)) is

count_again : (x : ℕ) (rest : List ℕ) → x ≤ 1024 → count_at (number_bytes 2 x ++ rest) ≡ Ok (x, rest)
unfolding count_at
count_again x rest h =
    let is : nat_le x 1024 ≡ true = grind (arith, nat_tests) in
    ap (λ r. in_record r >>> λ n. cond (nat_le n.0 1024) (Ok n) (Err BadField)) (number_again 2 x rest (omega arith)) ∙ ap (λ b. cond b (Ok (x, rest)) (Err BadField)) is

fields_again : (row : Row) (rest : List ℕ) → IsShort row → IsTypedRow row → fields_at (row_bytes row ++ rest) ≡ Ok (row, rest)
unfolding fields_at
fields_again row rest short typed = ap in_record (row_again row rest short typed)

name_long : (t : List ℕ) → is_name t ≡ true → (0 < length t) × (length t ≤ 32)
name_long [] is = cc
name_long (c ∷ cs) is =
    let short = second_of_two (is_letter c) (nat_lt (length cs) 32) (first_of_two (is_letter c && nat_lt (length cs) 32) (list_all is_word_byte cs) is) in
    let few : length cs < 32 = grind (arith, nat_tests) in
    (omega arith, omega (arith, few))

pub name_again : (t rest : List ℕ) → is_name t ≡ true → name_at (name_bytes t ++ rest) ≡ Ok (t, rest)
unfolding name_at name_bytes_at
name_again t rest is =
    let long = name_long t is in
    let some = long.0 in
    let few = long.1 in
    let fits : (nat_lt 0 (length t) && nat_le (length t) 32) ≡ true = grind (arith, nat_tests) in
    let enough : nat_lt (length (t ++ rest)) (length t) ≡ false = (let le : length t ≤ length (t ++ rest) = omega (arith, length-append t rest) in grind (arith, nat_tests)) in
    let front = take_at t rest (length t) refl in
    ap (λ b. cond b (cond (nat_lt (length (t ++ rest)) (length t)) (Err Truncated) (cond (is_name (take (length t) (t ++ rest))) (Ok (take (length t) (t ++ rest), drop (length t) (t ++ rest))) (Err BadField))) (Err BadField)) fits
    ∙ ap (λ b. cond b (Err Truncated) (cond (is_name (take (length t) (t ++ rest))) (Ok (take (length t) (t ++ rest), drop (length t) (t ++ rest))) (Err BadField))) enough
    ∙ ap (λ b. cond b (Ok (take (length t) (t ++ rest), drop (length t) (t ++ rest))) (Err BadField)) (ap is_name front ∙ is)
    ∙ (λ k. Ok (front k, drop_at t rest (length t) refl k))

rows_again : (rs : Rows) (rest : List ℕ) → All IsShort rs → All IsTypedRow rs → rows_at (length rs) (flat_map row_bytes rs ++ rest) ≡ Ok (rs, rest)
rows_again [] rest short typed = refl
rows_again (r ∷ rs) rest short typed =
    ap (rows_at (suc (length rs))) (append_assoc (row_bytes r) (flat_map row_bytes rs) rest)
    ∙ ap (λ q. q >>> λ x. rows_at (length rs) x.1 >>> λ ys. Ok (x.0 ∷ ys.0, ys.1)) (fields_again r (flat_map row_bytes rs ++ rest) (All-head IsShort r rs short) (All-head IsTypedRow r rs typed))
    ∙ ap (λ q. q >>> λ ys. Ok (r ∷ ys.0, ys.1)) (rows_again rs rest (All-tail IsShort r rs short) (All-tail IsTypedRow r rs typed))

batch_again : (rs : Rows) (rest : List ℕ) → length rs ≤ 1024 → All IsShort rs → All IsTypedRow rs → batch_at (number_bytes 2 (length rs) ++ (flat_map row_bytes rs ++ rest)) ≡ Ok (rs, rest)
unfolding batch_at
batch_again rs rest few short typed = ap (λ q. q >>> λ n. rows_at n.0 n.1) (count_again (length rs) (flat_map row_bytes rs ++ rest) few) ∙ rows_again rs rest short typed

body_again : (t rest : List ℕ) → length t ≤ 1048576 → body_at (number_bytes 4 (length t) ++ (t ++ rest)) ≡ Ok (t, rest)
unfolding body_at body_bytes_at
body_again t rest few =
    let fits : nat_le (length t) 1048576 ≡ true = grind (arith, nat_tests) in
    let enough : nat_lt (length (t ++ rest)) (length t) ≡ false = (let le : length t ≤ length (t ++ rest) = omega (arith, length-append t rest) in grind (arith, nat_tests)) in
    ap (λ r. in_record r >>> λ n. cond (nat_le n.0 1048576) (cond (nat_lt (length n.1) n.0) (Err Truncated) (Ok (take n.0 n.1, drop n.0 n.1))) (Err BadField)) (number_again 4 (length t) (t ++ rest) (omega arith))
    ∙ ap (λ b. cond b (cond (nat_lt (length (t ++ rest)) (length t)) (Err Truncated) (Ok (take (length t) (t ++ rest), drop (length t) (t ++ rest)))) (Err BadField)) fits
    ∙ ap (λ b. cond b (Err Truncated) (Ok (take (length t) (t ++ rest), drop (length t) (t ++ rest)))) enough
    ∙ (λ k. Ok (take_at t rest (length t) refl k, drop_at t rest (length t) refl k))

pub record_again : (e : Entry) (rest : List ℕ) → IsRecordable e → IsTyped e → record_at (record_bytes e ++ rest) ≡ Ok (e, rest)
unfolding record_at call_at push_at step_at install_at
record_again (Call c i p args) rest ok typed =
    let regroup : record_bytes (Call c i p args) ++ rest ≡ 1 ∷ c ∷ (number_bytes 8 i ++ (number_bytes 2 p ++ (row_bytes args ++ rest))) = simp append_assoc in
    ap record_at regroup
    ∙ ap (λ r. r >>> λ x. index_at x.1 >>> λ j. order_at j.1 >>> λ q. fields_at q.1 >>> λ a. Ok (Call x.0 j.0 q.0 a.0, a.1)) (client_again c (number_bytes 8 i ++ (number_bytes 2 p ++ (row_bytes args ++ rest))) ok.0)
    ∙ ap (λ r. r >>> λ j. order_at j.1 >>> λ q. fields_at q.1 >>> λ a. Ok (Call c j.0 q.0 a.0, a.1)) (index_again i (number_bytes 2 p ++ (row_bytes args ++ rest)) typed.0)
    ∙ ap (λ r. r >>> λ q. fields_at q.1 >>> λ a. Ok (Call c i q.0 a.0, a.1)) (order_again p (row_bytes args ++ rest) typed.1)
    ∙ ap (λ r. r >>> λ a. Ok (Call c i p a.0, a.1)) (fields_again args rest ok.1 typed.2)
record_again (Push c i s w q rs) rest ok typed =
    let tail = number_bytes 2 (length rs) ++ (flat_map row_bytes rs ++ rest) in
    let regroup : record_bytes (Push c i s w q rs) ++ rest ≡ 2 ∷ c ∷ (number_bytes 8 i ++ (number_bytes 2 s ++ (name_bytes w ++ (number_bytes 8 q ++ tail)))) = simp append_assoc in
    ap record_at regroup
    ∙ ap (λ r. r >>> λ x. index_at x.1 >>> λ j. order_at j.1 >>> λ t. name_at t.1 >>> λ n. seq_at n.1 >>> λ m. batch_at m.1 >>> λ a. Ok (Push x.0 j.0 t.0 n.0 m.0 a.0, a.1))
    (client_again c (number_bytes 8 i ++ (number_bytes 2 s ++ (name_bytes w ++ (number_bytes 8 q ++ tail)))) ok.0)
    ∙ ap (λ r. r >>> λ j. order_at j.1 >>> λ t. name_at t.1 >>> λ n. seq_at n.1 >>> λ m. batch_at m.1 >>> λ a. Ok (Push c j.0 t.0 n.0 m.0 a.0, a.1)) (index_again i (number_bytes 2 s ++ (name_bytes w ++ (number_bytes 8 q ++ tail))) typed.0)
    ∙ ap (λ r. r >>> λ t. name_at t.1 >>> λ n. seq_at n.1 >>> λ m. batch_at m.1 >>> λ a. Ok (Push c i t.0 n.0 m.0 a.0, a.1)) (order_again s (name_bytes w ++ (number_bytes 8 q ++ tail)) typed.1)
    ∙ ap (λ r. r >>> λ n. seq_at n.1 >>> λ m. batch_at m.1 >>> λ a. Ok (Push c i s n.0 m.0 a.0, a.1)) (name_again w (number_bytes 8 q ++ tail) typed.2)
    ∙ ap (λ r. r >>> λ m. batch_at m.1 >>> λ a. Ok (Push c i s w m.0 a.0, a.1)) (seq_again q tail ok.1)
    ∙ ap (λ r. r >>> λ a. Ok (Push c i s w q a.0, a.1)) (batch_again rs rest ok.2 ok.3 typed.3)
record_again (Step p b) rest ok typed =
    let regroup : record_bytes (Step p b) ++ rest ≡ 3 ∷ (number_bytes 2 p ++ (number_bytes 8 b ++ rest)) = simp append_assoc in
    ap record_at regroup
    ∙ ap (λ r. r >>> λ q. index_at q.1 >>> λ j. Ok (Step q.0 j.0, j.1)) (order_again p (number_bytes 8 b ++ rest) typed.0)
    ∙ ap (λ r. r >>> λ j. Ok (Step p j.0, j.1)) (index_again b rest typed.1)
record_again (Install c i p t) rest ok typed =
    let regroup : record_bytes (Install c i p t) ++ rest ≡ 4 ∷ c ∷ (number_bytes 8 i ++ (number_bytes 2 p ++ (number_bytes 4 (length t) ++ (t ++ rest)))) = simp append_assoc in
    ap record_at regroup
    ∙ ap (λ r. r >>> λ x. index_at x.1 >>> λ j. order_at j.1 >>> λ q. body_at q.1 >>> λ a. Ok (Install x.0 j.0 q.0 a.0, a.1)) (client_again c (number_bytes 8 i ++ (number_bytes 2 p ++ (number_bytes 4 (length t) ++ (t ++ rest)))) ok.0)
    ∙ ap (λ r. r >>> λ j. order_at j.1 >>> λ q. body_at q.1 >>> λ a. Ok (Install c j.0 q.0 a.0, a.1)) (index_again i (number_bytes 2 p ++ (number_bytes 4 (length t) ++ (t ++ rest))) typed.0)
    ∙ ap (λ r. r >>> λ q. body_at q.1 >>> λ a. Ok (Install c i q.0 a.0, a.1)) (order_again p (number_bytes 4 (length t) ++ (t ++ rest)) typed.1)
    ∙ ap (λ r. r >>> λ a. Ok (Install c i p a.0, a.1)) (body_again t rest ok.1)
