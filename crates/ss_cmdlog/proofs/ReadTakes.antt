-- What is read is spelled so, each byte of it.
use Rattle.std.proofs.Common.{◌≡◌, ◌≢◌, ◌∙◌, inl, inr, if◌then◌else◌, ℕ, zero, suc, ◌^◌, ◌+◌, ◌<◌, ◌≤◌, ◌==◌, List, [], ◌∷◌, ◌++◌, length, take, drop, Bool, nat_lt, nat_le, true, false, cond, Ok, Err, Result, All, refl, sym, ap, subst, arith, append_assoc, length-append, take-append-drop}
use Rattle.std.proofs.lemmas.List.{length-take-le}
use Rattle.std.proofs.lemmas.List.Elements.{All-nil, All-cons}
use Rattle.std.proofs.lemmas.Bool.Decides.{nat_tests}
use Rattle.byteorder.specs.Endian.{big_number}
use Rattle.ss_lemmas.proofs.Bools.{chosen}
use Rattle.ss_value.specs.declared.text.ValueError.{ValueError}
use Rattle.ss_model.specs.declared.entry.Entry.{Entry}
use Rattle.ss_model.specs.declared.entry.Entry.TheVariants.{Call, Push, Step, Install}
use Rattle.ss_model.specs.declared.entry.Mode.{Mode}
use Rattle.ss_model.specs.declared.entry.Mode.TheVariants.{Strong, Weak}
use Rattle.ss_record.specs.declared.record.RecordError.{RecordError}
use Rattle.ss_record.specs.Numbers.{IsBytes, number_bytes}
use Rattle.ss_record.specs.Spelling.{record_bytes, records}
use Rattle.ss_record.specs.Bounds.{IsRecordable, IsTyped}
use Rattle.ss_record.specs.Reading.{number_at}
use Rattle.ss_record.specs.Records.{record_at}
use Rattle.ss_record.proofs.CallerLemmas.{IsTaken, record_takes, takes_number, respelled_4, respelled_8, rest_bytes_of}
use Rattle.ss_cmdlog.specs.Logged.{is_logged, is_install, is_barred}
use Rattle.ss_cmdlog.specs.Generation.{new_magic, mode_byte, magic, Stood, IsStood, IsGroup, head_bytes, group_bytes, open_groups, front_bytes, max_body, Spells}
use Rattle.ss_cmdlog.specs.Reading.{◌>>>◌, whole, mode_at, magic_at, first_at, bytes_at, image_at, head_at, body_length_at, count_at, as_field, entry_at, group_entry_at, entries_at, group_at, gate_at, groups_at, stood_at, placed, generation_at}

abbrev pub read_so : {A B : Type 0} → A → B → Result (A × B) ℕ
read_so a b = Ok (a, b)

pub bind_ok : {A B : Type 0} (r : Result A ℕ) (f : A → Result B ℕ) (y : B) → (r >>> f) ≡ Ok y → (x : A) × (r ≡ Ok x) × (f x ≡ Ok y)
bind_ok (Ok x) f y h = (x, refl, h)
bind_ok (Err e) f y h = cc

pub ok_pair : {A B : Type 0} (a x : A) (b y : B) → read_so a b ≡ read_so x y → (a ≡ x) × (b ≡ y)
ok_pair {A = A} {B = B} a x b y h = let p : ◌≡◌ {A = A × B} (a, b) (x, y) = cc in (ap (λ (q : A × B). q.0) p, ap (λ (q : A × B). q.1) p)

abbrev pub valued : {A B : Type 0} → A → B → Result (A × B) ValueError
valued a b = Ok (a, b)

abbrev pub recorded : {A B : Type 0} → A → B → Result (A × B) RecordError
recorded a b = Ok (a, b)

pub whole_ok : {A B : Type 0} (r : Result (A × B) ValueError) (x : A) (y : B) → whole r ≡ read_so x y → r ≡ valued x y
whole_ok {A = A} {B = B} (Ok z) x y h = let p : ◌≡◌ {A = A × B} z (x, y) = cc in ap Ok p
whole_ok (Err e) x y h = cc

pub as_field_ok : {A B : Type 0} (bytes : List ℕ) (r : Result (A × B) RecordError) (x : A) (y : B) → as_field bytes r ≡ read_so x y → r ≡ recorded x y
as_field_ok {A = A} {B = B} bytes (Ok z) x y h = let p : ◌≡◌ {A = A × B} z (x, y) = cc in ap Ok p
as_field_ok bytes (Err e) x y h = cc

-- a test that a field stands, or doesn't
pub kept_ok : {X : Type 0} (b : Bool) (x : Result X ℕ) (e : ℕ) (y : X) → cond b x (Err e) ≡ Ok y → (b ≡ true) × (x ≡ Ok y)
kept_ok true x e y h = (refl, h)
kept_ok false x e y h = cc

barred_ok : {X : Type 0} (b : Bool) (x : Result X ℕ) (e : ℕ) (y : X) → cond b (Err e) x ≡ Ok y → (b ≡ false) × (x ≡ Ok y)
barred_ok true x e y h = cc
barred_ok false x e y h = (refl, h)

-- the eight bytes that a generation begins with
abbrev pub word : Bool → Mode → List ℕ
word true mode = new_magic
word false mode = magic false mode

pub word_spelled : (bodies : Bool) (mode : Mode) → number_bytes 8 (big_number 8 (word bodies mode)) ≡ word bodies mode
unfolding number_bytes
word_spelled true mode = refl
word_spelled false Strong = refl
word_spelled false Weak = refl

abbrev pub told : Bool → Mode → List ℕ → Result (Bool × Mode × List ℕ) ℕ
told bodies mode rest = Ok (bodies, mode, rest)

ok_three : (b c : Bool) (m n : Mode) (xs ys : List ℕ) → told b m xs ≡ told c n ys → (b ≡ c) × (m ≡ n) × (xs ≡ ys)
ok_three b c m n xs ys h =
    let p : ◌≡◌ {A = Bool × Mode × List ℕ} (b, m, xs) (c, n, ys) = cc in (ap (λ (q : Bool × Mode × List ℕ). q.0) p, ap (λ (q : Bool × Mode × List ℕ). q.1) p, ap (λ (q : Bool × Mode × List ℕ). q.2) p)

mode_takes : (bytes : List ℕ) (mode : Mode) (rest : List ℕ) → IsBytes bytes → mode_at bytes ≡ read_so mode rest → (bytes ≡ mode_byte mode ∷ rest) × IsBytes rest
unfolding mode_at
mode_takes [] mode rest are read = cc
mode_takes (b ∷ bytes) mode rest are read =
    elim (chosen (b == 0) (read_so Strong bytes) (if b == 1 then Ok (Weak, bytes) else Err (length (b ∷ bytes))) (read_so mode rest) read) [
      | inl strong ↦
          let both = ok_pair Strong mode bytes rest strong.1 in
          let same = strong.0 in
          let is : b ≡ 0 = grind (arith, nat_tests) in
          ((λ k. is k ∷ bytes) ∙ (λ k. mode_byte (both.0 k) ∷ both.1 k), subst IsBytes both.1 (λ i. are (suc i)))
      | inr other ↦
          let parts = kept_ok (b == 1) (read_so Weak bytes) (length (b ∷ bytes)) (mode, rest) other.1 in
          let both = ok_pair Weak mode bytes rest parts.1 in
          let same = parts.0 in
          let is : b ≡ 1 = grind (arith, nat_tests) in
          ((λ k. is k ∷ bytes) ∙ (λ k. mode_byte (both.0 k) ∷ both.1 k), subst IsBytes both.1 (λ i. are (suc i)))
    ]

-- these eight bytes stand in front
word_there : (bytes : List ℕ) (bodies : Bool) (mode : Mode) (n : ℕ) (left : List ℕ) → IsBytes bytes → number_at 8 bytes ≡ valued n left → n ≡ big_number 8 (word bodies mode) → (bytes ≡ word bodies mode ++ left) × IsBytes left
word_there bytes bodies mode n left are read is =
    let takes = takes_number 8 respelled_8 bytes n left are read in
    (takes.0 ∙ (λ k. number_bytes 8 (is k) ++ left) ∙ ap (λ (l : List ℕ). l ++ left) (word_spelled bodies mode), takes.1)

-- and behind them of a new generation the mode's byte
new_takes : (bytes left : List ℕ) (bodies : Bool) (mode : Mode) (rest : List ℕ) → (bytes ≡ new_magic ++ left) × IsBytes left → (mode_at left >>> λ m. told true m.0 m.1) ≡ told bodies mode rest
    → (bytes ≡ magic bodies mode ++ rest) × IsBytes rest
new_takes bytes left bodies mode rest there read =
    let m = bind_ok (mode_at left) (λ m. told true m.0 m.1) (bodies, mode, rest) read in
    let three = ok_three true bodies m.0.0 mode m.0.1 rest m.2 in
    let byte = mode_takes left m.0.0 m.0.1 there.1 m.1 in
    (there.0 ∙ ap (λ (l : List ℕ). new_magic ++ l) byte.0 ∙ (λ k. magic (three.0 k) (three.1 k) ++ three.2 k), subst IsBytes three.2 byte.1)

older_takes : (bytes left : List ℕ) (own mode : Mode) (bodies : Bool) (rest : List ℕ) → (bytes ≡ magic false own ++ left) × IsBytes left → told false own left ≡ told bodies mode rest → (bytes ≡ magic bodies mode ++ rest) × IsBytes rest
older_takes bytes left own mode bodies rest there read =
    let three = ok_three false bodies own mode left rest read in (there.0 ∙ (λ k. magic (three.0 k) (three.1 k) ++ three.2 k), subst IsBytes three.2 there.1)

magic_takes : (bytes : List ℕ) (bodies : Bool) (mode : Mode) (rest : List ℕ) → IsBytes bytes → magic_at bytes ≡ told bodies mode rest → (bytes ≡ magic bodies mode ++ rest) × IsBytes rest
unfolding magic_at
magic_takes bytes bodies mode rest are read =
    let number = bind_ok (whole (number_at 8 bytes))
    (λ n.
    if n.0 == big_number 8 new_magic then (mode_at n.1 >>> λ m. Ok (true, m.0, m.1))
    else if n.0 == big_number 8 (magic false Strong) then Ok (false, Strong, n.1)
    else if n.0 == big_number 8 (magic false Weak) then Ok (false, Weak, n.1)
    else Err (length bytes)) (bodies, mode, rest) read in
    let n = number.0.0 in
    let left = number.0.1 in
    let here = whole_ok (number_at 8 bytes) n left number.1 in
    let weak : Result (Bool × Mode × List ℕ) ℕ = if n == big_number 8 (magic false Weak) then told false Weak left else Err (length bytes) in
    let older : Result (Bool × Mode × List ℕ) ℕ = if n == big_number 8 (magic false Strong) then told false Strong left else weak in
    elim (chosen (n == big_number 8 new_magic) (mode_at left >>> λ m. told true m.0 m.1) older (told bodies mode rest) number.2) [
      | inl new ↦
          let same = new.0 in
          let is : n ≡ big_number 8 new_magic = grind (arith, nat_tests) in
          new_takes bytes left bodies mode rest (word_there bytes true Strong n left are here is) new.1
      | inr other ↦ elim (chosen (n == big_number 8 (magic false Strong)) (told false Strong left) weak (told bodies mode rest) other.1) [
        | inl strong ↦
            let same = strong.0 in
            let is : n ≡ big_number 8 (magic false Strong) = grind (arith, nat_tests) in
            older_takes bytes left Strong mode bodies rest (word_there bytes false Strong n left are here is) strong.1
        | inr last ↦
            let parts = kept_ok (n == big_number 8 (magic false Weak)) (told false Weak left) (length bytes) (bodies, mode, rest) last.1 in
            let same = parts.0 in
            let is : n ≡ big_number 8 (magic false Weak) = grind (arith, nat_tests) in
            older_takes bytes left Weak mode bodies rest (word_there bytes false Weak n left are here is) parts.1
      ]
    ]

first_takes : (bytes : List ℕ) (x : ℕ) (rest : List ℕ) → IsBytes bytes → first_at bytes ≡ read_so x rest → (bytes ≡ number_bytes 8 x ++ rest) × IsBytes rest × (x ≤ 2 ^ 60)
unfolding first_at
first_takes bytes x rest are read =
    let number = bind_ok (whole (number_at 8 bytes)) (λ n. if nat_le n.0 (2 ^ 60) then Ok n else Err (length bytes)) (x, rest) read in
    let parts = kept_ok (nat_le number.0.0 (2 ^ 60)) (read_so number.0.0 number.0.1) (length bytes) (x, rest) number.2 in
    let both = ok_pair number.0.0 x number.0.1 rest parts.1 in
    let takes = takes_number 8 respelled_8 bytes number.0.0 number.0.1 are (whole_ok (number_at 8 bytes) number.0.0 number.0.1 number.1) in
    let small = parts.0 in
    let below : number.0.0 ≤ 2 ^ 60 = grind (arith, nat_tests) in
    (takes.0 ∙ (λ k. number_bytes 8 (both.0 k) ++ both.1 k), subst IsBytes both.1 takes.1, subst (λ (n : ℕ). n ≤ 2 ^ 60) both.0 below)

pub bytes_takes : (n : ℕ) (bytes t rest : List ℕ) → IsBytes bytes → bytes_at n bytes ≡ read_so t rest → (bytes ≡ t ++ rest) × IsBytes rest × (length t ≡ n)
unfolding bytes_at
bytes_takes n bytes t rest are read =
    let long = barred_ok (nat_lt (length bytes) n) (read_so (take n bytes) (drop n bytes)) 0 (t, rest) read in
    let short = long.0 in
    let enough : n ≤ length bytes = grind (arith, nat_tests) in
    let both = ok_pair (take n bytes) t (drop n bytes) rest long.1 in
    (sym (take-append-drop n bytes) ∙ (λ k. both.0 k ++ both.1 k), subst IsBytes both.1 (rest_bytes_of n bytes are), ap length (sym both.0) ∙ length-take-le n bytes enough)

image_takes : (bytes t rest : List ℕ) → IsBytes bytes → image_at bytes ≡ read_so t rest → (bytes ≡ number_bytes 8 (length t) ++ (t ++ rest)) × IsBytes rest × (length t < 256 ^ 8)
unfolding image_at
image_takes bytes t rest are read =
    let number = bind_ok (whole (number_at 8 bytes)) (λ n. bytes_at n.0 n.1) (t, rest) read in
    let takes = takes_number 8 respelled_8 bytes number.0.0 number.0.1 are (whole_ok (number_at 8 bytes) number.0.0 number.0.1 number.1) in
    let image = bytes_takes number.0.0 number.0.1 t rest takes.1 number.2 in
    (takes.0 ∙ (λ k. number_bytes 8 ((sym image.2) k) ++ image.0 k), image.1, subst (λ (n : ℕ). n < 256 ^ 8) (sym image.2) takes.2)

body_length_takes : (bytes : List ℕ) (x : ℕ) (rest : List ℕ) → IsBytes bytes → body_length_at bytes ≡ read_so x rest → (bytes ≡ number_bytes 4 x ++ rest) × IsBytes rest × (x ≤ max_body)
unfolding body_length_at
body_length_takes bytes x rest are read =
    let number = bind_ok (whole (number_at 4 bytes)) (λ n. if nat_le n.0 max_body then Ok n else Err (length bytes)) (x, rest) read in
    let parts = kept_ok (nat_le number.0.0 max_body) (read_so number.0.0 number.0.1) (length bytes) (x, rest) number.2 in
    let both = ok_pair number.0.0 x number.0.1 rest parts.1 in
    let takes = takes_number 4 respelled_4 bytes number.0.0 number.0.1 are (whole_ok (number_at 4 bytes) number.0.0 number.0.1 number.1) in
    let small = parts.0 in
    let below : number.0.0 ≤ max_body = grind (arith, nat_tests) in
    (takes.0 ∙ (λ k. number_bytes 4 (both.0 k) ++ both.1 k), subst IsBytes both.1 takes.1, subst (λ (n : ℕ). n ≤ max_body) both.0 below)

count_takes : (bytes : List ℕ) (x : ℕ) (rest : List ℕ) → IsBytes bytes → count_at bytes ≡ read_so x rest → (bytes ≡ number_bytes 4 x ++ rest) × IsBytes rest × (0 < x)
unfolding count_at
count_takes bytes x rest are read =
    let number = bind_ok (whole (number_at 4 bytes)) (λ n. if n.0 == 0 then Err (length bytes) else Ok n) (x, rest) read in
    let parts = barred_ok (number.0.0 == 0) (read_so number.0.0 number.0.1) (length bytes) (x, rest) number.2 in
    let both = ok_pair number.0.0 x number.0.1 rest parts.1 in
    let takes = takes_number 4 respelled_4 bytes number.0.0 number.0.1 are (whole_ok (number_at 4 bytes) number.0.0 number.0.1 number.1) in
    let not = parts.0 in
    let some : 0 < number.0.0 = grind (arith, nat_tests) in
    (takes.0 ∙ (λ k. number_bytes 4 (both.0 k) ++ both.1 k), subst IsBytes both.1 takes.1, subst (λ (n : ℕ). 0 < n) both.0 some)

-- a log of this mode and form may have the entry
abbrev pub IsHad : Bool → Mode → Entry → Type 0
IsHad bodies mode e = (is_logged mode e ≡ true) × (bodies ≡ false → is_install e ≡ false)

-- a record that isn't barred is that of an entry which the log may have
unbarred : (bodies : Bool) (mode : Mode) (e : Entry) (rest : List ℕ) → is_barred bodies mode (record_bytes e ++ rest) ≡ false → IsHad bodies mode e
unbarred bodies Strong (Call client index q args) rest free = (refl, λ older. refl)
unbarred bodies Weak (Call client index q args) rest free = (refl, λ older. refl)
unbarred bodies Strong (Push client index s source seq rows) rest free = (refl, λ older. refl)
unbarred bodies Weak (Push client index s source seq rows) rest free = (refl, λ older. refl)
unbarred bodies Strong (Step q n) rest free = (refl, λ older. refl)
unbarred bodies Weak (Step q n) rest free = cc
unbarred true Strong (Install client index q text) rest free = (refl, λ older. cc)
unbarred true Weak (Install client index q text) rest free = (refl, λ older. cc)
unbarred false mode (Install client index q text) rest free = cc

entry_takes : (bodies : Bool) (mode : Mode) (bytes : List ℕ) (e : Entry) (rest : List ℕ) → IsBytes bytes → entry_at bodies mode bytes ≡ read_so e rest → IsTaken bytes e rest × IsHad bodies mode e
unfolding entry_at
entry_takes bodies mode bytes e rest are read =
    let free = barred_ok (is_barred bodies mode bytes) (as_field bytes (record_at bytes)) (length bytes) (e, rest) read in
    let taken = record_takes bytes e rest are (as_field_ok bytes (record_at bytes) e rest free.1) in
    (taken, unbarred bodies mode e rest (ap (is_barred bodies mode) (sym taken.0) ∙ free.0))

group_entry_takes : (bodies : Bool) (mode : Mode) (more body total : ℕ) (bytes : List ℕ) (e : Entry) (rest : List ℕ) → IsBytes bytes → group_entry_at bodies mode more body total bytes ≡ read_so e rest
    → IsTaken bytes e rest × (more ≡ 0 → body + length rest ≡ total) × IsHad bodies mode e
unfolding group_entry_at
group_entry_takes bodies mode more body total bytes e rest are read =
    let entry = bind_ok (entry_at bodies mode bytes) (λ x. if more == 0 then (if body + length x.1 == total then Ok x else Err (length bytes)) else Ok x) (e, rest) read in
    elim (chosen (more == 0) (cond (body + length entry.0.1 == total) (read_so entry.0.0 entry.0.1) (Err (length bytes))) (read_so entry.0.0 entry.0.1) (Ok (e, rest)) entry.2) [
      | inl last ↦
          let parts = kept_ok (body + length entry.0.1 == total) (read_so entry.0.0 entry.0.1) (length bytes) (e, rest) last.1 in
          let both = ok_pair entry.0.0 e entry.0.1 rest parts.1 in
          let tied = parts.0 in
          let is : body + length entry.0.1 ≡ total = grind (arith, nat_tests) in
          let one = entry_takes bodies mode bytes e rest are (entry.1 ∙ (λ k. Ok (both.0 k, both.1 k))) in
          (one.0, λ none. ap (λ (l : List ℕ). body + length l) (sym both.1) ∙ is, one.1)
      | inr not ↦
          let both = ok_pair entry.0.0 e entry.0.1 rest not.1 in
          let others = not.0 in
          let one = entry_takes bodies mode bytes e rest are (entry.1 ∙ (λ k. Ok (both.0 k, both.1 k))) in
          (one.0, λ none. grind (arith, nat_tests), one.1)
    ]

pub record AreTaken (bodies : Bool) (mode : Mode) (more body total : ℕ) (bytes : List ℕ) (es : List Entry) (rest : List ℕ) : Type 0 where
  pub spelled : bytes ≡ records es ++ rest
  pub behind : IsBytes rest
  pub number : length es ≡ more
  pub recordable : All IsRecordable es
  pub typed : All IsTyped es
  pub had : All (IsHad bodies mode) es
  pub tied : 0 < more → body + length rest ≡ total

entries_takes : (bodies : Bool) (mode : Mode) (n body total : ℕ) (bytes : List ℕ) (es : List Entry) (rest : List ℕ) → IsBytes bytes → entries_at bodies mode n body total bytes ≡ read_so es rest → AreTaken bodies mode n body total bytes es rest
entries_takes bodies mode zero body total bytes es rest are read =
    let both = ok_pair [] es bytes rest read in
    record {
      spelled = both.1 ∙ ap (λ (l : List Entry). records l ++ rest) both.0;
      behind = subst IsBytes both.1 are;
      number = ap length (sym both.0);
      recordable = subst (All IsRecordable) both.0 (All-nil IsRecordable);
      typed = subst (All IsTyped) both.0 (All-nil IsTyped);
      had = subst (All (IsHad bodies mode)) both.0 (All-nil (IsHad bodies mode));
      tied = λ some. absurd (omega arith);
    }
entries_takes bodies mode (suc n) body total bytes es rest are read =
    let first = bind_ok (group_entry_at bodies mode n body total bytes) (λ e. entries_at bodies mode n body total e.1 >>> λ xs. Ok (e.0 ∷ xs.0, xs.1)) (es, rest) read in
    let others = bind_ok (entries_at bodies mode n body total first.0.1) (λ xs. Ok (first.0.0 ∷ xs.0, xs.1)) (es, rest) first.2 in
    let both = ok_pair (first.0.0 ∷ others.0.0) es others.0.1 rest others.2 in
    let one = group_entry_takes bodies mode n body total bytes first.0.0 first.0.1 are first.1 in
    let more = entries_takes bodies mode n body total first.0.1 others.0.0 others.0.1 one.0.1 others.1 in
    record {
      spelled = one.0.0 ∙ ap (λ (l : List ℕ). record_bytes first.0.0 ++ l) more.spelled ∙ sym (append_assoc (record_bytes first.0.0) (records others.0.0) others.0.1) ∙ (λ k. records (both.0 k) ++ both.1 k);
      behind = subst IsBytes both.1 more.behind;
      number = ap length (sym both.0) ∙ ap suc more.number;
      recordable = subst (All IsRecordable) both.0 (All-cons IsRecordable first.0.0 others.0.0 one.0.2 more.recordable);
      typed = subst (All IsTyped) both.0 (All-cons IsTyped first.0.0 others.0.0 one.0.3 more.typed);
      had = subst (All (IsHad bodies mode)) both.0 (All-cons (IsHad bodies mode) first.0.0 others.0.0 one.2 more.had);
      tied = λ some. tied_on n body total first.0.1 others.0.0 others.0.1 rest both.1 one.1 others.1 more.tied;
    }
  where
    tied_on : (n body total : ℕ) (after : List ℕ) (xs : List Entry) (behind rest : List ℕ) → behind ≡ rest → (n ≡ 0 → body + length after ≡ total) → entries_at bodies mode n body total after ≡ read_so xs behind
        → (0 < n → body + length behind ≡ total) → body + length rest ≡ total
    tied_on zero body total after xs behind rest is last read tied = let both = ok_pair [] xs after behind read in ap (λ (l : List ℕ). body + length l) (sym (both.1 ∙ is)) ∙ last refl
    tied_on (suc n) body total after xs behind rest is last read tied = ap (λ (l : List ℕ). body + length l) (sym is) ∙ tied (omega arith)

pub group_takes : (bodies : Bool) (mode : Mode) (bytes : List ℕ) (es : List Entry) (rest : List ℕ) → IsBytes bytes → group_at bodies mode bytes ≡ read_so es rest → (bytes ≡ group_bytes es ++ rest) × IsBytes rest × IsGroup bodies mode es
unfolding group_at group_bytes
group_takes bodies mode bytes es rest are read =
    let body = bind_ok (body_length_at bytes) (λ b. count_at b.1 >>> λ c. entries_at bodies mode c.0 b.0 (length c.1) c.1) (es, rest) read in
    let count = bind_ok (count_at body.0.1) (λ c. entries_at bodies mode c.0 body.0.0 (length c.1) c.1) (es, rest) body.2 in
    let size = body_length_takes bytes body.0.0 body.0.1 are body.1 in
    let number = count_takes body.0.1 count.0.0 count.0.1 size.1 count.1 in
    let all = entries_takes bodies mode count.0.0 body.0.0 (length count.0.1) count.0.1 es rest number.1 count.2 in
    let tied = all.tied number.2 in
    let long : body.0.0 ≡ length (records es) = omega (arith, tied, ap length all.spelled, length-append (records es) rest) in
    let regroup : (number_bytes 4 (length (records es)) ++ number_bytes 4 (length es) ++ records es) ++ rest ≡ number_bytes 4 (length (records es)) ++ (number_bytes 4 (length es) ++ (records es ++ rest)) =
    group_regroup (number_bytes 4 (length (records es))) (number_bytes 4 (length es)) (records es) rest in (
      size.0 ∙ (λ k. number_bytes 4 (long k) ++ number.0 k) ∙ (λ k. number_bytes 4 (length (records es)) ++ (number_bytes 4 ((sym all.number) k) ++ all.spelled k)) ∙ sym regroup,
      all.behind,
      record { some = omega (arith, all.number, number.2); short = omega (arith, long, size.2); recordable = all.recordable; typed = all.typed; of_mode = λ i d lt. (all.had i d lt).0; of_form = λ older i d lt. (all.had i d lt).1 older },
    )
  where
    group_regroup : (a b c d : List ℕ) → (a ++ b ++ c) ++ d ≡ a ++ (b ++ (c ++ d))
    group_regroup a b c d = simp append_assoc

gate_takes : (bytes : List ℕ) (b : ℕ) (rest : List ℕ) → IsBytes bytes → gate_at bytes ≡ read_so b rest → (bytes ≡ b ∷ rest) × IsBytes rest
unfolding gate_at
gate_takes [] b rest are read = cc
gate_takes (x ∷ bytes) b rest are read = let both = ok_pair x b bytes rest read in ((λ k. both.0 k ∷ both.1 k), subst IsBytes both.1 (λ i. are (suc i)))

-- from a closed gate on
pub record IsShut (bytes : List ℕ) : Type 0 where
  pub gate : ℕ
  pub rest : List ℕ
  pub closed : gate ≢ 1
  pub is : bytes ≡ gate ∷ rest

pub groups_takes : (bodies : Bool) (mode : Mode) (n : ℕ) (bytes : List ℕ) (gs : List (List Entry)) (rest : List ℕ) → IsBytes bytes → groups_at bodies mode n bytes ≡ read_so gs rest → (bytes ≡ open_groups gs ++ rest) × IsShut rest × All (IsGroup bodies mode) gs
groups_takes bodies mode zero bytes gs rest are read = cc
groups_takes bodies mode (suc n) bytes gs rest are read =
    let gate = bind_ok (gate_at bytes) (λ g. if g.0 == 1 then (group_at bodies mode g.1 >>> λ x. groups_at bodies mode n x.1 >>> λ xs. Ok (x.0 ∷ xs.0, xs.1)) else Ok ([], bytes)) (gs, rest) read in
    let byte = gate_takes bytes gate.0.0 gate.0.1 are gate.1 in
    elim (chosen (gate.0.0 == 1) (group_at bodies mode gate.0.1 >>> λ x. groups_at bodies mode n x.1 >>> λ xs. Ok (x.0 ∷ xs.0, xs.1)) (Ok ([], bytes)) (Ok (gs, rest)) gate.2) [
      | inl opened ↦
          let group = bind_ok (group_at bodies mode gate.0.1) (λ x. groups_at bodies mode n x.1 >>> λ xs. Ok (x.0 ∷ xs.0, xs.1)) (gs, rest) opened.1 in
          let others = bind_ok (groups_at bodies mode n group.0.1) (λ xs. Ok (group.0.0 ∷ xs.0, xs.1)) (gs, rest) group.2 in
          let both = ok_pair (group.0.0 ∷ others.0.0) gs others.0.1 rest others.2 in
          let one = group_takes bodies mode gate.0.1 group.0.0 group.0.1 byte.1 group.1 in
          let more = groups_takes bodies mode n group.0.1 others.0.0 others.0.1 one.1 others.1 in
          let test = opened.0 in
          let is : gate.0.0 ≡ 1 = grind (arith, nat_tests) in (
            byte.0 ∙ (λ k. is k ∷ one.0 k) ∙ ap (λ (l : List ℕ). 1 ∷ (group_bytes group.0.0 ++ l)) more.0 ∙ ap (λ (l : List ℕ). 1 ∷ l) (sym (append_assoc (group_bytes group.0.0) (open_groups others.0.0) others.0.1))
                ∙ (λ k. open_groups (both.0 k) ++ both.1 k),
            subst IsShut both.1 more.1,
            subst (All (IsGroup bodies mode)) both.0 (All-cons (IsGroup bodies mode) group.0.0 others.0.0 one.2 more.2),
          )
      | inr shut ↦
          let both = ok_pair [] gs bytes rest shut.1 in
          let test = shut.0 in (
            both.1 ∙ ap (λ (l : List (List Entry)). open_groups l ++ rest) both.0,
            record { gate = gate.0.0; rest = gate.0.1; closed = λ is. (let h : gate.0.0 ≡ 1 = is in grind (arith, nat_tests)); is = sym both.1 ∙ byte.0 },
            subst (All (IsGroup bodies mode)) both.0 (All-nil (IsGroup bodies mode)),
          )
    ]

pub record IsHead (bytes : List ℕ) (bodies : Bool) (mode : Mode) (first : ℕ) (image rest : List ℕ) : Type 0 where
  pub spelled : bytes ≡ head_bytes bodies mode first image ++ rest
  pub behind : IsBytes rest
  pub place : first ≤ 2 ^ 60
  pub long : length image < 2 ^ 64

pub head_takes : (bytes : List ℕ) (head : Bool × Mode × ℕ × List ℕ × List ℕ) → IsBytes bytes → head_at bytes ≡ Ok head → IsHead bytes head.0 head.1 head.2 head.3 head.4
unfolding head_at head_bytes
head_takes bytes head are read =
    let m = bind_ok (magic_at bytes) (λ form. first_at form.2 >>> λ first. image_at first.1 >>> λ image. Ok (form.0, form.1, first.0, image.0, image.1)) head read in
    let f = bind_ok (first_at m.0.2) (λ first. image_at first.1 >>> λ image. Ok (m.0.0, m.0.1, first.0, image.0, image.1)) head m.2 in
    let i = bind_ok (image_at f.0.1) (λ image. Ok (m.0.0, m.0.1, f.0.0, image.0, image.1)) head f.2 in
    let is : ◌≡◌ {A = Bool × Mode × ℕ × List ℕ × List ℕ} (m.0.0, m.0.1, f.0.0, i.0.0, i.0.1) head = (let h = i.2 in cc) in
    let front = magic_takes bytes m.0.0 m.0.1 m.0.2 are m.1 in
    let first = first_takes m.0.2 f.0.0 f.0.1 front.1 f.1 in
    let image = image_takes f.0.1 i.0.0 i.0.1 first.1 i.1 in
    subst (λ (h : Bool × Mode × ℕ × List ℕ × List ℕ). IsHead bytes h.0 h.1 h.2 h.3 h.4) is (record {
      spelled = front.0 ∙ ap (λ (l : List ℕ). magic m.0.0 m.0.1 ++ l) (first.0 ∙ ap (λ (l : List ℕ). number_bytes 8 f.0.0 ++ l) image.0) ∙ sym (head_regroup (magic m.0.0 m.0.1) (number_bytes 8 f.0.0) (number_bytes 8 (length i.0.0)) i.0.0 i.0.1);
      behind = image.1;
      place = first.2;
      long = omega (arith, image.2);
    })
  where
    head_regroup : (a b c d e : List ℕ) → (a ++ b ++ c ++ d) ++ e ≡ a ++ (b ++ (c ++ (d ++ e)))
    head_regroup a b c d e = simp append_assoc

pub record IsRead (bytes : List ℕ) (s : Stood) (rest : List ℕ) : Type 0 where
  pub stood : IsStood s
  pub shut : IsShut rest
  pub spelled : bytes ≡ front_bytes s ++ rest

pub stood_takes : (bytes : List ℕ) (s : Stood) (rest : List ℕ) → IsBytes bytes → stood_at bytes ≡ read_so s rest → IsRead bytes s rest
unfolding stood_at
stood_takes bytes s rest are read =
    let head = bind_ok (head_at bytes) (λ h. groups_at h.0 h.1 (length h.4) h.4 >>> λ gs. Ok (record { bodies = h.0; mode = h.1; first = h.2; image = h.3; groups = gs.0 }, gs.1)) (s, rest) read in
    let groups = bind_ok (groups_at head.0.0 head.0.1 (length head.0.4) head.0.4) (λ gs. Ok (record { bodies = head.0.0; mode = head.0.1; first = head.0.2; image = head.0.3; groups = gs.0 }, gs.1)) (s, rest) head.2 in
    let whole' : Stood = record { bodies = head.0.0; mode = head.0.1; first = head.0.2; image = head.0.3; groups = groups.0.0 } in
    let both = ok_pair whole' s groups.0.1 rest groups.2 in
    let front = head_takes bytes head.0 are head.1 in
    let behind = groups_takes head.0.0 head.0.1 (length head.0.4) head.0.4 groups.0.0 groups.0.1 front.behind groups.1 in
    let spelled = head_bytes head.0.0 head.0.1 head.0.2 head.0.3 in
    record {
      stood = subst IsStood both.0 (record { first = front.place; image = front.long; groups = behind.2 });
      shut = subst IsShut both.1 behind.1;
      spelled = front.spelled ∙ ap (λ (l : List ℕ). spelled ++ l) behind.0 ∙ sym (append_assoc spelled (open_groups groups.0.0) groups.0.1) ∙ (λ k. front_bytes (both.0 k) ++ both.1 k);
    }

placed_ok : (total : ℕ) (r : Result (Stood × List ℕ) ℕ) (s : Stood) → placed total r ≡ Ok s → (rest : List ℕ) × (r ≡ read_so s rest)
placed_ok total (Ok read) s h = let p : read.0 ≡ s = cc in (read.1, λ k. Ok (p k, read.1))
placed_ok total (Err left) s h = cc

-- what reads as a generation is one
pub generation_takes : (bytes : List ℕ) (s : Stood) → IsBytes bytes → generation_at bytes ≡ Ok s → Spells bytes s
unfolding generation_at
generation_takes bytes s are read =
    let whole' = placed_ok (length bytes) (stood_at bytes) s read in
    let is = stood_takes bytes s whole'.0 are whole'.1 in
    record { stood = is.stood; gate = is.shut.gate; rest = is.shut.rest; closed = is.shut.closed; spelled = is.spelled ∙ ap (λ (l : List ℕ). front_bytes s ++ l) is.shut.is }
