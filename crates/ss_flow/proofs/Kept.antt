-- What is kept of a stream's batches, after more of them and after a consumer has moved.
use Rattle.std.proofs.Common.{◌≡◌, ◌≤◌, ◌<◌, ◌+◌, ◌-◌, ◌==◌, ◌∙◌, ℕ, Bool, true, false, cond, List, [], ◌∷◌, ◌++◌, map, length, drop, append_assoc, append-nil, arith, ap, sym, refl}
use Rattle.std.proofs.lemmas.List.{length-drop, length_push, drop-drop, drop-append-le}
use Rattle.std.specs.List.{AllByRecursion, filter}
use Rattle.ss_value.specs.Rows.{Rows}
use Rattle.ss_stream.specs.declared.cursor.Cursor.{Cursor}
use Rattle.ss_stream.specs.Pending.{Pending, cursor_at, least_passed, moved_cursor, passed_by, pending_from, with_batch}
use Rattle.ss_stream.proofs.CallerLemmas.{least-at_most, least-moved}
use Rattle.ss_flow.specs.Follows.{with_batches}

-- more batches make the least cursor no less
least-longer : (m n : ℕ) (cs : List Cursor) → m ≤ n → least_passed m cs ≤ least_passed n cs
least-longer m n [] le = le
least-longer m n (c ∷ cs) le = let h = least-longer m n cs le in omega arith

-- what was dropped stays dropped
again : (m : ℕ) (bs : List Rows) (cs : List Cursor) → m ≤ length bs → m ≤ least_passed (0 + length bs) cs → pending_from m (drop m bs) cs ≡ pending_from 0 bs cs
again m bs cs within le =
    let long : m + length (drop m bs) ≡ 0 + length bs = simp length-drop (omega arith) in
    let least : ℕ = least_passed (0 + length bs) cs in
    let first : least_passed (m + length (drop m bs)) cs ≡ least = ap (λ n. least_passed n cs) long in
    let left : drop (least - m) (drop m bs) ≡ drop (least - 0) bs = drop-drop (least - m) m bs ∙ ap (λ n. drop n bs) (let e : m + (least - m) ≡ least - 0 = omega arith in e) in
    rw (first, left) refl

pub passed_again : (bs : List Rows) (cs : List Cursor) (q : ℕ) → passed_by (pending_from 0 bs cs) q ≡ pending_from 0 bs (map (moved_cursor q) cs)
passed_again bs cs q =
    let m : ℕ = least_passed (0 + length bs) cs in
    let most = least-at_most (0 + length bs) cs in
    let more = least-moved (0 + length bs) q cs in
    let same : m - 0 ≡ m = omega arith in
    ap (λ n. pending_from m (drop n bs) (map (moved_cursor q) cs)) same ∙ again m bs (map (moved_cursor q) cs) (omega arith) (omega arith)

emitted_again : (bs : List Rows) (cs : List Cursor) (rows : Rows) → with_batch (pending_from 0 bs cs) rows ≡ pending_from 0 (bs ++ rows ∷ []) cs
emitted_again bs cs rows =
    let m : ℕ = least_passed (0 + length bs) cs in
    let most = least-at_most (0 + length bs) cs in
    let longer = length_push bs rows in
    let more = least-longer (0 + length bs) (0 + length (bs ++ rows ∷ [])) cs (omega arith) in
    let same : m - 0 ≡ m = omega arith in
    let within : m ≤ length bs = omega arith in
    ap (λ n. pending_from m (drop n bs ++ rows ∷ []) cs) same
    ∙ ap (λ (xs : List Rows). pending_from m xs cs) (sym (drop-append-le m bs (rows ∷ []) within))
    ∙ again m (bs ++ rows ∷ []) cs (omega arith) (omega arith)

pub batches_again : (bs : List Rows) (cs : List Cursor) (more : List Rows) → with_batches (pending_from 0 bs cs) more ≡ pending_from 0 (bs ++ more) cs
batches_again bs cs [] = ap (λ (xs : List Rows). pending_from 0 xs cs) (sym (append-nil bs))
batches_again bs cs (rows ∷ more) =
    ap (λ (p : Pending). with_batches p more) (emitted_again bs cs rows)
    ∙ batches_again (bs ++ rows ∷ []) cs more
    ∙ ap (λ (xs : List Rows). pending_from 0 xs cs) (append_assoc bs (rows ∷ []) more)

-- ---- cursors

pub same_cursors : (f g : ℕ → ℕ) (test : ℕ → Bool) (xs : List ℕ) → ((p : ℕ) → test p ≡ true → f p ≡ g p) → map (λ p. cursor_at (f p) p) (filter test xs) ≡ map (λ p. cursor_at (g p) p) (filter test xs)
same_cursors f g test [] same = refl
same_cursors f g test (x ∷ xs) same = by (test x) refl (same_cursors f g test xs same)
  where
    by : (b : Bool) → test x ≡ b → map (λ p. cursor_at (f p) p) (filter test xs) ≡ map (λ p. cursor_at (g p) p) (filter test xs)
        → map (λ p. cursor_at (f p) p) (cond b (x ∷ filter test xs) (filter test xs)) ≡ map (λ p. cursor_at (g p) p) (cond b (x ∷ filter test xs) (filter test xs))
    by true is rest = rw (same x is, rest) refl
    by false is rest = rest

moved_one : (q p c : ℕ) → moved_cursor q (cursor_at c p) ≡ cursor_at (cond (p == q) (c + 1) c) p
moved_one q p c = by (p == q)
  where
    by : (b : Bool) → cond b (record (cursor_at c p) { passed = c + 1 }) (cursor_at c p) ≡ cursor_at (cond b (c + 1) c) p
    by true = refl
    by false = refl

pub moved_cursors : (f : ℕ → ℕ) (q : ℕ) (xs : List ℕ) → map (moved_cursor q) (map (λ p. cursor_at (f p) p) xs) ≡ map (λ p. cursor_at (cond (p == q) (f p + 1) (f p)) p) xs
moved_cursors f q [] = refl
moved_cursors f q (x ∷ xs) = rw (moved_one q x (f x), moved_cursors f q xs) refl

pub next_cursors : (count n : ℕ) (f : ℕ → ℕ) (q : ℕ) (xs : List ℕ) → f q ≡ count → count < n → AllByRecursion (λ (c : Cursor). c.consumer ≡ q → c.passed < n) (map (λ p. cursor_at (f p) p) xs)
next_cursors count n f q [] is lt = tt
next_cursors count n f q (x ∷ xs) is lt = ((λ e. let h : f x ≡ count = ap f e ∙ is in omega arith), next_cursors count n f q xs is lt)
