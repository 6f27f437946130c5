-- A record that is read is spelled so, each byte of it.
use Rattle.std.proofs.Common.{◌≡◌, ◌∙◌, inl, inr, if◌then◌else◌, ℕ, zero, suc, ◌^◌, ◌<◌, ◌≤◌, ◌==◌, List, [], ◌∷◌, ◌++◌, length, take, drop, Bool, IsTrue, nat_lt, nat_le, ◌&&◌, true, false, cond, Ok, Err, Result, All, refl, sym, ap, subst, arith, append_assoc, take-append-drop}
use Rattle.std.specs.List.{flat_map}
use Rattle.std.proofs.lemmas.List.{length-take-le}
use Rattle.std.proofs.lemmas.List.Elements.{All-nil, All-cons}
use Rattle.std.proofs.lemmas.Bool.Decides.{nat_tests}
use Rattle.ss_lemmas.proofs.Bools.{chosen}
use Rattle.ss_value.specs.declared.text.ValueError.{ValueError}
use Rattle.ss_value.specs.Rows.{Row, Rows}
use Rattle.ss_value.specs.Words.{is_name}
use Rattle.ss_model.specs.declared.entry.Entry.{Entry}
use Rattle.ss_model.specs.declared.entry.Entry.TheVariants.{Call, Push, Step, Install}
use Rattle.ss_record.specs.declared.record.RecordError.{RecordError}
use Rattle.ss_record.specs.declared.record.RecordError.TheVariants.{Truncated, BadKind, BadField}
use Rattle.ss_record.specs.Numbers.{IsBytes, number_bytes}
use Rattle.ss_record.specs.Spelling.{row_bytes, name_bytes, record_bytes}
use Rattle.ss_record.specs.Bounds.{IsShort, IsRecordable, IsTypedRow, IsTyped}
use Rattle.ss_record.specs.Reading.{number_at, byte_at, row_at}
use Rattle.ss_record.specs.Records.{◌>>>◌, in_record, client_at, index_at, order_at, seq_at, count_at, fields_at, name_bytes_at, name_at, rows_at, batch_at, body_bytes_at, body_at, step_at, call_at, push_at, install_at, record_at}
use Rattle.ss_record.proofs.Takes.{takes_number, number_takes, respelled_2, respelled_4, row_takes, rest_bytes_of}

bind_ok : {A B : Type 0} (r : Result A RecordError) (f : A → Result B RecordError) (y : B) → (r >>> f) ≡ Ok y → (x : A) × (r ≡ Ok x) × (f x ≡ Ok y)
bind_ok (Ok x) f y h = (x, refl, h)
bind_ok (Err e) f y h = cc

abbrev given : {A B : Type 0} → A → B → Result (A × B) ValueError
given a b = Ok (a, b)

abbrev told : {A B : Type 0} → A → B → Result (A × B) RecordError
told a b = Ok (a, b)

pub ok_pair : {A B : Type 0} (a x : A) (b y : B) → told a b ≡ told x y → (a ≡ x) × (b ≡ y)
ok_pair {A = A} {B = B} a x b y h = let p : ◌≡◌ {A = A × B} (a, b) (x, y) = cc in (ap (λ (q : A × B). q.0) p, ap (λ (q : A × B). q.1) p)

-- what a record reads, a row reads
in_record_ok : {A B : Type 0} (r : Result (A × B) ValueError) (x : A) (y : B) → in_record r ≡ told x y → r ≡ given x y
in_record_ok {A = A} {B = B} (Ok z) x y h = let p : ◌≡◌ {A = A × B} z (x, y) = cc in ap Ok p
in_record_ok (Err e) x y h = cc

-- a test that a field stands
kept_ok : {X : Type 0} (b : Bool) (x : Result X RecordError) (e : RecordError) (y : X) → cond b x (Err e) ≡ Ok y → (b ≡ true) × (x ≡ Ok y)
kept_ok true x e y h = (refl, h)
kept_ok false x e y h = cc

barred_ok : {X : Type 0} (b : Bool) (x : Result X RecordError) (e : RecordError) (y : X) → cond b (Err e) x ≡ Ok y → (b ≡ false) × (x ≡ Ok y)
barred_ok true x e y h = cc
barred_ok false x e y h = (refl, h)

byte_takes : (bytes : List ℕ) (b : ℕ) (rest : List ℕ) → IsBytes bytes → in_record (byte_at bytes) ≡ told b rest → (bytes ≡ b ∷ rest) × IsBytes rest
byte_takes [] b rest are read = cc
byte_takes (x ∷ bytes) b rest are read = let both = ok_pair x b bytes rest read in ((λ k. both.0 k ∷ both.1 k), subst IsBytes both.1 (λ i. are (suc i)))

client_takes : (bytes : List ℕ) (c : ℕ) (rest : List ℕ) → IsBytes bytes → client_at bytes ≡ told c rest → (bytes ≡ c ∷ rest) × IsBytes rest × (c < 8)
unfolding client_at
client_takes bytes c rest are read =
    let byte = bind_ok (in_record (byte_at bytes)) (λ x. if nat_lt x.0 8 then Ok x else Err BadField) (c, rest) read in
    let parts = kept_ok (nat_lt byte.0.0 8) (told byte.0.0 byte.0.1) BadField (c, rest) byte.2 in
    let both = ok_pair byte.0.0 c byte.0.1 rest parts.1 in
    let takes = byte_takes bytes byte.0.0 byte.0.1 are byte.1 in
    let small = parts.0 in
    let below : byte.0.0 < 8 = grind (arith, nat_tests) in
    (takes.0 ∙ (λ k. both.0 k ∷ both.1 k), subst IsBytes both.1 takes.1, subst (λ (x : ℕ). x < 8) both.0 below)

index_takes : (bytes : List ℕ) (x : ℕ) (rest : List ℕ) → IsBytes bytes → index_at bytes ≡ told x rest → (bytes ≡ number_bytes 8 x ++ rest) × IsBytes rest × (x < 256 ^ 8)
unfolding index_at
index_takes bytes x rest are read = number_takes bytes x rest are (in_record_ok (number_at 8 bytes) x rest read)

order_takes : (bytes : List ℕ) (x : ℕ) (rest : List ℕ) → IsBytes bytes → order_at bytes ≡ told x rest → (bytes ≡ number_bytes 2 x ++ rest) × IsBytes rest × (x < 256 ^ 2)
unfolding order_at
order_takes bytes x rest are read = takes_number 2 respelled_2 bytes x rest are (in_record_ok (number_at 2 bytes) x rest read)

seq_takes : (bytes : List ℕ) (x : ℕ) (rest : List ℕ) → IsBytes bytes → seq_at bytes ≡ told x rest → (bytes ≡ number_bytes 8 x ++ rest) × IsBytes rest × (x < 2 ^ 63)
unfolding seq_at
seq_takes bytes x rest are read =
    let number = bind_ok (in_record (number_at 8 bytes)) (λ n. if nat_lt n.0 (2 ^ 63) then Ok n else Err BadField) (x, rest) read in
    let parts = kept_ok (nat_lt number.0.0 (2 ^ 63)) (told number.0.0 number.0.1) BadField (x, rest) number.2 in
    let both = ok_pair number.0.0 x number.0.1 rest parts.1 in
    let takes = number_takes bytes number.0.0 number.0.1 are (in_record_ok (number_at 8 bytes) number.0.0 number.0.1 number.1) in
    let small = parts.0 in
    let below : number.0.0 < 2 ^ 63 = grind (arith, nat_tests) in
    (takes.0 ∙ (λ k. number_bytes 8 (both.0 k) ++ both.1 k), subst IsBytes both.1 takes.1, subst (λ (n : ℕ). n < 2 ^ 63) both.0 below)

count_takes : (bytes : List ℕ) (x : ℕ) (rest : List ℕ) → IsBytes bytes → count_at bytes ≡ told x rest → (bytes ≡ number_bytes 2 x ++ rest) × IsBytes rest × (x ≤ 1024)
unfolding count_at
count_takes bytes x rest are read =
    let number = bind_ok (in_record (number_at 2 bytes)) (λ n. if nat_le n.0 1024 then Ok n else Err BadField) (x, rest) read in
    let parts = kept_ok (nat_le number.0.0 1024) (told number.0.0 number.0.1) BadField (x, rest) number.2 in
    let both = ok_pair number.0.0 x number.0.1 rest parts.1 in
    let takes = takes_number 2 respelled_2 bytes number.0.0 number.0.1 are (in_record_ok (number_at 2 bytes) number.0.0 number.0.1 number.1) in
    let small = parts.0 in
    let below : number.0.0 ≤ 1024 = grind (arith, nat_tests) in
    (takes.0 ∙ (λ k. number_bytes 2 (both.0 k) ++ both.1 k), subst IsBytes both.1 takes.1, subst (λ (n : ℕ). n ≤ 1024) both.0 below)

fields_takes : (bytes : List ℕ) (row : Row) (rest : List ℕ) → IsBytes bytes → fields_at bytes ≡ told row rest → (bytes ≡ row_bytes row ++ rest) × IsShort row × IsBytes rest × IsTypedRow row
unfolding fields_at
fields_takes bytes row rest are read = row_takes bytes row rest are (in_record_ok (row_at bytes) row rest read)

name_bytes_takes : (n : ℕ) (bytes t rest : List ℕ) → IsBytes bytes → name_bytes_at n bytes ≡ told t rest → (n ∷ bytes ≡ name_bytes t ++ rest) × IsBytes rest × IsTrue (is_name t)
unfolding name_bytes_at
name_bytes_takes n bytes t rest are read =
    let long = barred_ok (nat_lt (length bytes) n) (cond (is_name (take n bytes)) (told (take n bytes) (drop n bytes)) (Err BadField)) Truncated (t, rest) read in
    let short = long.0 in
    let enough : n ≤ length bytes = grind (arith, nat_tests) in
    let good = kept_ok (is_name (take n bytes)) (told (take n bytes) (drop n bytes)) BadField (t, rest) long.1 in
    let both = ok_pair (take n bytes) t (drop n bytes) rest good.1 in
    let size : n ≡ length t = sym (length-take-le n bytes enough) ∙ ap length both.0 in
    ((λ k. size k ∷ (sym (take-append-drop n bytes)) k) ∙ (λ k. length t ∷ (both.0 k ++ both.1 k)), subst IsBytes both.1 (rest_bytes_of n bytes are), ap is_name (sym both.0) ∙ good.0)

pub name_takes : (bytes t rest : List ℕ) → IsBytes bytes → name_at bytes ≡ told t rest → (bytes ≡ name_bytes t ++ rest) × IsBytes rest × IsTrue (is_name t)
unfolding name_at
name_takes bytes t rest are read =
    let byte = bind_ok (in_record (byte_at bytes)) (λ n. if nat_lt 0 n.0 && nat_le n.0 32 then name_bytes_at n.0 n.1 else Err BadField) (t, rest) read in
    let takes = byte_takes bytes byte.0.0 byte.0.1 are byte.1 in
    let parts = kept_ok (nat_lt 0 byte.0.0 && nat_le byte.0.0 32) (name_bytes_at byte.0.0 byte.0.1) BadField (t, rest) byte.2 in
    let name = name_bytes_takes byte.0.0 byte.0.1 t rest takes.1 parts.1 in
    (takes.0 ∙ name.0, name.1, name.2)

rows_takes : (n : ℕ) (bytes : List ℕ) (rs : Rows) (rest : List ℕ) → IsBytes bytes → rows_at n bytes ≡ told rs rest → (bytes ≡ flat_map row_bytes rs ++ rest) × IsBytes rest × (length rs ≡ n) × All IsShort rs × All IsTypedRow rs
rows_takes zero bytes rs rest are read =
    let both = ok_pair [] rs bytes rest read in (both.1 ∙ ap (λ (l : Rows). flat_map row_bytes l ++ rest) both.0, subst IsBytes both.1 are, ap length (sym both.0), subst (All IsShort) both.0 (All-nil IsShort), subst (All IsTypedRow) both.0 (All-nil IsTypedRow))
rows_takes (suc n) bytes rs rest are read =
    let first = bind_ok (fields_at bytes) (λ r. rows_at n r.1 >>> λ x. Ok (r.0 ∷ x.0, x.1)) (rs, rest) read in
    let others = bind_ok (rows_at n first.0.1) (λ x. Ok (first.0.0 ∷ x.0, x.1)) (rs, rest) first.2 in
    let both = ok_pair (first.0.0 ∷ others.0.0) rs others.0.1 rest others.2 in
    let one = fields_takes bytes first.0.0 first.0.1 are first.1 in
    let more = rows_takes n first.0.1 others.0.0 others.0.1 one.2 others.1 in (
      one.0 ∙ ap (λ (l : List ℕ). row_bytes first.0.0 ++ l) more.0 ∙ sym (append_assoc (row_bytes first.0.0) (flat_map row_bytes others.0.0) others.0.1) ∙ (λ k. flat_map row_bytes (both.0 k) ++ both.1 k),
      subst IsBytes both.1 more.1,
      ap length (sym both.0) ∙ ap suc more.2,
      subst (All IsShort) both.0 (All-cons IsShort first.0.0 others.0.0 one.1 more.3),
      subst (All IsTypedRow) both.0 (All-cons IsTypedRow first.0.0 others.0.0 one.3 more.4),
    )

batch_takes : (bytes : List ℕ) (rs : Rows) (rest : List ℕ) → IsBytes bytes → batch_at bytes ≡ told rs rest
    → (bytes ≡ number_bytes 2 (length rs) ++ (flat_map row_bytes rs ++ rest)) × IsBytes rest × (length rs ≤ 1024) × All IsShort rs × All IsTypedRow rs
unfolding batch_at
batch_takes bytes rs rest are read =
    let count = bind_ok (count_at bytes) (λ n. rows_at n.0 n.1) (rs, rest) read in
    let number = count_takes bytes count.0.0 count.0.1 are count.1 in
    let rows = rows_takes count.0.0 count.0.1 rs rest number.1 count.2 in
    (number.0 ∙ (λ k. number_bytes 2 ((sym rows.2) k) ++ rows.0 k), rows.1, subst (λ (n : ℕ). n ≤ 1024) (sym rows.2) number.2, rows.3, rows.4)

body_bytes_takes : (n : ℕ) (bytes t rest : List ℕ) → IsBytes bytes → body_bytes_at n bytes ≡ told t rest → (bytes ≡ t ++ rest) × IsBytes rest × (length t ≡ n)
unfolding body_bytes_at
body_bytes_takes n bytes t rest are read =
    let long = barred_ok (nat_lt (length bytes) n) (told (take n bytes) (drop n bytes)) Truncated (t, rest) read in
    let short = long.0 in
    let enough : n ≤ length bytes = grind (arith, nat_tests) in
    let both = ok_pair (take n bytes) t (drop n bytes) rest long.1 in
    (sym (take-append-drop n bytes) ∙ (λ k. both.0 k ++ both.1 k), subst IsBytes both.1 (rest_bytes_of n bytes are), ap length (sym both.0) ∙ length-take-le n bytes enough)

body_takes : (bytes t rest : List ℕ) → IsBytes bytes → body_at bytes ≡ told t rest → (bytes ≡ number_bytes 4 (length t) ++ (t ++ rest)) × IsBytes rest × (length t ≤ 1048576)
unfolding body_at
body_takes bytes t rest are read =
    let number = bind_ok (in_record (number_at 4 bytes)) (λ n. if nat_le n.0 1048576 then body_bytes_at n.0 n.1 else Err BadField) (t, rest) read in
    let parts = kept_ok (nat_le number.0.0 1048576) (body_bytes_at number.0.0 number.0.1) BadField (t, rest) number.2 in
    let takes = takes_number 4 respelled_4 bytes number.0.0 number.0.1 are (in_record_ok (number_at 4 bytes) number.0.0 number.0.1 number.1) in
    let text = body_bytes_takes number.0.0 number.0.1 t rest takes.1 parts.1 in
    let small = parts.0 in
    let below : number.0.0 ≤ 1048576 = grind (arith, nat_tests) in
    (takes.0 ∙ (λ k. number_bytes 4 ((sym text.2) k) ++ text.0 k), text.1, subst (λ (n : ℕ). n ≤ 1048576) (sym text.2) below)

abbrev pub IsTaken : List ℕ → Entry → List ℕ → Type 0
IsTaken bytes e rest = (bytes ≡ record_bytes e ++ rest) × IsBytes rest × IsRecordable e × IsTyped e

step_spelled : (p b : ℕ) (rest : List ℕ) → record_bytes (Step p b) ++ rest ≡ 3 ∷ (number_bytes 2 p ++ (number_bytes 8 b ++ rest))
step_spelled p b rest = simp append_assoc

call_spelled : (c i p : ℕ) (r : Row) (rest : List ℕ) → record_bytes (Call c i p r) ++ rest ≡ 1 ∷ c ∷ (number_bytes 8 i ++ (number_bytes 2 p ++ (row_bytes r ++ rest)))
call_spelled c i p r rest = simp append_assoc

push_spelled : (c i s : ℕ) (w : List ℕ) (q : ℕ) (rs : Rows) (rest : List ℕ) → record_bytes (Push c i s w q rs) ++ rest
    ≡ 2 ∷ c ∷ (number_bytes 8 i ++ (number_bytes 2 s ++ (name_bytes w ++ (number_bytes 8 q ++ (number_bytes 2 (length rs) ++ (flat_map row_bytes rs ++ rest))))))
push_spelled c i s w q rs rest = simp append_assoc

step_takes : (kind : ℕ) (bytes : List ℕ) (e : Entry) (rest : List ℕ) → IsBytes bytes → kind ≡ 3 → step_at bytes ≡ told e rest → IsTaken (kind ∷ bytes) e rest
unfolding step_at
step_takes kind bytes e rest are is read =
    let p = bind_ok (order_at bytes) (λ p. index_at p.1 >>> λ b. Ok (Step p.0 b.0, b.1)) (e, rest) read in
    let b = bind_ok (index_at p.0.1) (λ b. Ok (Step p.0.0 b.0, b.1)) (e, rest) p.2 in
    let both = ok_pair (Step p.0.0 b.0.0) e b.0.1 rest b.2 in
    let order = order_takes bytes p.0.0 p.0.1 are p.1 in
    let index = index_takes p.0.1 b.0.0 b.0.1 order.1 b.1 in
    let regroup = step_spelled p.0.0 b.0.0 b.0.1 in (
      (λ k. is k ∷ order.0 k) ∙ ap (λ (l : List ℕ). 3 ∷ (number_bytes 2 p.0.0 ++ l)) index.0 ∙ sym regroup ∙ (λ k. record_bytes (both.0 k) ++ both.1 k),
      subst IsBytes both.1 index.1,
      subst IsRecordable both.0 tt,
      subst IsTyped both.0 (order.2, index.2),
    )

call_takes : (kind : ℕ) (bytes : List ℕ) (e : Entry) (rest : List ℕ) → IsBytes bytes → kind ≡ 1 → call_at bytes ≡ told e rest → IsTaken (kind ∷ bytes) e rest
unfolding call_at
call_takes kind bytes e rest are is read =
    let c = bind_ok (client_at bytes) (λ c. index_at c.1 >>> λ i. order_at i.1 >>> λ p. fields_at p.1 >>> λ r. Ok (Call c.0 i.0 p.0 r.0, r.1)) (e, rest) read in
    let i = bind_ok (index_at c.0.1) (λ i. order_at i.1 >>> λ p. fields_at p.1 >>> λ r. Ok (Call c.0.0 i.0 p.0 r.0, r.1)) (e, rest) c.2 in
    let p = bind_ok (order_at i.0.1) (λ p. fields_at p.1 >>> λ r. Ok (Call c.0.0 i.0.0 p.0 r.0, r.1)) (e, rest) i.2 in
    let r = bind_ok (fields_at p.0.1) (λ r. Ok (Call c.0.0 i.0.0 p.0.0 r.0, r.1)) (e, rest) p.2 in
    let both = ok_pair (Call c.0.0 i.0.0 p.0.0 r.0.0) e r.0.1 rest r.2 in
    let client = client_takes bytes c.0.0 c.0.1 are c.1 in
    let index = index_takes c.0.1 i.0.0 i.0.1 client.1 i.1 in
    let order = order_takes i.0.1 p.0.0 p.0.1 index.1 p.1 in
    let row = fields_takes p.0.1 r.0.0 r.0.1 order.1 r.1 in
    let regroup = call_spelled c.0.0 i.0.0 p.0.0 r.0.0 r.0.1 in (
      (λ k. is k ∷ client.0 k) ∙ ap (λ (l : List ℕ). 1 ∷ c.0.0 ∷ l) (index.0 ∙ ap (λ (l : List ℕ). number_bytes 8 i.0.0 ++ l) (order.0 ∙ ap (λ (l : List ℕ). number_bytes 2 p.0.0 ++ l) row.0)) ∙ sym regroup
          ∙ (λ k. record_bytes (both.0 k) ++ both.1 k),
      subst IsBytes both.1 row.2,
      subst IsRecordable both.0 (client.2, row.1),
      subst IsTyped both.0 (index.2, order.2, row.3),
    )

push_takes : (kind : ℕ) (bytes : List ℕ) (e : Entry) (rest : List ℕ) → IsBytes bytes → kind ≡ 2 → push_at bytes ≡ told e rest → IsTaken (kind ∷ bytes) e rest
unfolding push_at
push_takes kind bytes e rest are is read =
    let c = bind_ok (client_at bytes) (λ c. index_at c.1 >>> λ i. order_at i.1 >>> λ s. name_at s.1 >>> λ w. seq_at w.1 >>> λ q. batch_at q.1 >>> λ r. Ok (Push c.0 i.0 s.0 w.0 q.0 r.0, r.1)) (e, rest) read in
    let i = bind_ok (index_at c.0.1) (λ i. order_at i.1 >>> λ s. name_at s.1 >>> λ w. seq_at w.1 >>> λ q. batch_at q.1 >>> λ r. Ok (Push c.0.0 i.0 s.0 w.0 q.0 r.0, r.1)) (e, rest) c.2 in
    let s = bind_ok (order_at i.0.1) (λ s. name_at s.1 >>> λ w. seq_at w.1 >>> λ q. batch_at q.1 >>> λ r. Ok (Push c.0.0 i.0.0 s.0 w.0 q.0 r.0, r.1)) (e, rest) i.2 in
    let w = bind_ok (name_at s.0.1) (λ w. seq_at w.1 >>> λ q. batch_at q.1 >>> λ r. Ok (Push c.0.0 i.0.0 s.0.0 w.0 q.0 r.0, r.1)) (e, rest) s.2 in
    let q = bind_ok (seq_at w.0.1) (λ q. batch_at q.1 >>> λ r. Ok (Push c.0.0 i.0.0 s.0.0 w.0.0 q.0 r.0, r.1)) (e, rest) w.2 in
    let r = bind_ok (batch_at q.0.1) (λ r. Ok (Push c.0.0 i.0.0 s.0.0 w.0.0 q.0.0 r.0, r.1)) (e, rest) q.2 in
    let both = ok_pair (Push c.0.0 i.0.0 s.0.0 w.0.0 q.0.0 r.0.0) e r.0.1 rest r.2 in
    let client = client_takes bytes c.0.0 c.0.1 are c.1 in
    let index = index_takes c.0.1 i.0.0 i.0.1 client.1 i.1 in
    let order = order_takes i.0.1 s.0.0 s.0.1 index.1 s.1 in
    let name = name_takes s.0.1 w.0.0 w.0.1 order.1 w.1 in
    let seq = seq_takes w.0.1 q.0.0 q.0.1 name.1 q.1 in
    let batch = batch_takes q.0.1 r.0.0 r.0.1 seq.1 r.1 in
    let regroup = push_spelled c.0.0 i.0.0 s.0.0 w.0.0 q.0.0 r.0.0 r.0.1 in (
      (λ k. is k ∷ client.0 k)
          ∙ ap (λ (l : List ℕ). 2 ∷ c.0.0 ∷ l)
          (index.0 ∙ ap (λ (l : List ℕ). number_bytes 8 i.0.0 ++ l)
          (order.0 ∙ ap (λ (l : List ℕ). number_bytes 2 s.0.0 ++ l) (name.0 ∙ ap (λ (l : List ℕ). name_bytes w.0.0 ++ l) (seq.0 ∙ ap (λ (l : List ℕ). number_bytes 8 q.0.0 ++ l) batch.0))))
          ∙ sym regroup ∙ (λ k. record_bytes (both.0 k) ++ both.1 k),
      subst IsBytes both.1 batch.1,
      subst IsRecordable both.0 (client.2, seq.2, batch.2, batch.3),
      subst IsTyped both.0 (index.2, order.2, name.2, batch.4),
    )

install_spelled : (c i p : ℕ) (t rest : List ℕ) → record_bytes (Install c i p t) ++ rest ≡ 4 ∷ c ∷ (number_bytes 8 i ++ (number_bytes 2 p ++ (number_bytes 4 (length t) ++ (t ++ rest))))
install_spelled c i p t rest = simp append_assoc

install_takes : (kind : ℕ) (bytes : List ℕ) (e : Entry) (rest : List ℕ) → IsBytes bytes → kind ≡ 4 → install_at bytes ≡ told e rest → IsTaken (kind ∷ bytes) e rest
unfolding install_at
install_takes kind bytes e rest are is read =
    let c = bind_ok (client_at bytes) (λ c. index_at c.1 >>> λ i. order_at i.1 >>> λ p. body_at p.1 >>> λ t. Ok (Install c.0 i.0 p.0 t.0, t.1)) (e, rest) read in
    let i = bind_ok (index_at c.0.1) (λ i. order_at i.1 >>> λ p. body_at p.1 >>> λ t. Ok (Install c.0.0 i.0 p.0 t.0, t.1)) (e, rest) c.2 in
    let p = bind_ok (order_at i.0.1) (λ p. body_at p.1 >>> λ t. Ok (Install c.0.0 i.0.0 p.0 t.0, t.1)) (e, rest) i.2 in
    let t = bind_ok (body_at p.0.1) (λ t. Ok (Install c.0.0 i.0.0 p.0.0 t.0, t.1)) (e, rest) p.2 in
    let both = ok_pair (Install c.0.0 i.0.0 p.0.0 t.0.0) e t.0.1 rest t.2 in
    let client = client_takes bytes c.0.0 c.0.1 are c.1 in
    let index = index_takes c.0.1 i.0.0 i.0.1 client.1 i.1 in
    let order = order_takes i.0.1 p.0.0 p.0.1 index.1 p.1 in
    let text = body_takes p.0.1 t.0.0 t.0.1 order.1 t.1 in
    let regroup = install_spelled c.0.0 i.0.0 p.0.0 t.0.0 t.0.1 in (
      (λ k. is k ∷ client.0 k) ∙ ap (λ (l : List ℕ). 4 ∷ c.0.0 ∷ l) (index.0 ∙ ap (λ (l : List ℕ). number_bytes 8 i.0.0 ++ l) (order.0 ∙ ap (λ (l : List ℕ). number_bytes 2 p.0.0 ++ l) text.0)) ∙ sym regroup
          ∙ (λ k. record_bytes (both.0 k) ++ both.1 k),
      subst IsBytes both.1 text.1,
      subst IsRecordable both.0 (client.2, text.2),
      subst IsTyped both.0 (index.2, order.2),
    )

-- a record and what is behind it
pub record_takes : (bytes : List ℕ) (e : Entry) (rest : List ℕ) → IsBytes bytes → record_at bytes ≡ Ok (e, rest) → IsTaken bytes e rest
unfolding record_at
record_takes [] e rest are read = cc
record_takes (kind ∷ bytes) e rest are read =
    elim (chosen (kind == 1) (call_at bytes) (if kind == 2 then push_at bytes else if kind == 3 then step_at bytes else if kind == 4 then install_at bytes else Err BadKind) (Ok (e, rest)) read) [
      | inl call ↦ let one = call.0 in call_takes kind bytes e rest (λ i. are (suc i)) (grind (arith, nat_tests)) call.1
      | inr other ↦ elim (chosen (kind == 2) (push_at bytes) (if kind == 3 then step_at bytes else if kind == 4 then install_at bytes else Err BadKind) (Ok (e, rest)) other.1) [
        | inl push ↦ let two = push.0 in push_takes kind bytes e rest (λ i. are (suc i)) (grind (arith, nat_tests)) push.1
        | inr more ↦ elim (chosen (kind == 3) (step_at bytes) (if kind == 4 then install_at bytes else Err BadKind) (Ok (e, rest)) more.1) [
          | inl step ↦ let three = step.0 in step_takes kind bytes e rest (λ i. are (suc i)) (grind (arith, nat_tests)) step.1
          | inr last ↦ elim (chosen (kind == 4) (install_at bytes) (Err BadKind) (Ok (e, rest)) last.1) [
            | inl install ↦ let four = install.0 in install_takes kind bytes e rest (λ i. are (suc i)) (grind (arith, nat_tests)) install.1
            | inr none ↦ let h = none.1 in cc
          ]
        ]
      ]
    ]
