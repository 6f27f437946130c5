-- The streams of the empty database.
use Rattle.std.proofs.Common.{◌≡◌, ◌+◌, ◌∙◌, ℕ, zero, suc, List, [], ◌∷◌, ◌++◌, map, length, replicate, get_or, arith, ap, sym, refl}
use Rattle.std.specs.List.{range_with_len}
use Rattle.ss_value.specs.Rows.{Rows}
use Rattle.ss_model.specs.declared.catalog.Catalog.{Catalog}
use Rattle.ss_model.specs.Database.{empty_database}
use Rattle.ss_stream.specs.declared.cursor.Cursor.{Cursor}
use Rattle.ss_stream.specs.Pending.{cursor_at, pending_at_first, pending_from}
use Rattle.ss_stream.specs.OfDatabase.{consumer_cursors, consumers_of, kept_stream, kept_streams}
use Rattle.ss_stream.proofs.Least.{least-at_most, from-parts}

range_more : (a n : ℕ) → range_with_len a (suc n) ≡ range_with_len a n ++ (a + n) ∷ []
range_more a zero = ap (λ k. k ∷ []) (omega arith)
range_more a (suc n) = ap (λ xs. a ∷ xs) (range_more (a + 1) n ∙ ap (λ k. range_with_len (a + 1) n ++ k ∷ []) (let e : a + 1 + n ≡ a + suc n = omega arith in e))

pub same_maps : {A : Type 0} (f g : ℕ → A) (xs : List ℕ) → ((x : ℕ) → f x ≡ g x) → map f xs ≡ map g xs
same_maps f g [] same = refl
same_maps f g (x ∷ xs) same = rw (same x, same_maps f g xs same) refl

joined_maps : {A B : Type 0} (f : A → B) (g : ℕ → A) (xs : List ℕ) → map f (map g xs) ≡ map (λ x. f (g x)) xs
joined_maps f g [] = refl
joined_maps f g (x ∷ xs) = ap (λ ys. f (g x) ∷ ys) (joined_maps f g xs)

all_same : {A : Type 0} (d : A) (n i : ℕ) → get_or (replicate n d) i d ≡ d
all_same d zero i = refl
all_same d (suc n) zero = refl
all_same d (suc n) (suc i) = all_same d n i

at_zero : (counts : List ℕ) → ((q : ℕ) → get_or counts q 0 ≡ 0) → (xs : List ℕ) → map (λ q. cursor_at (get_or counts q 0) q) xs ≡ map (cursor_at 0) xs
at_zero counts zeros xs = same_maps (λ q. cursor_at (get_or counts q 0) q) (cursor_at 0) xs (λ q. ap (λ n. cursor_at n q) (zeros q))

nothing_kept : (cs : List Cursor) → pending_from 0 [] cs ≡ record { first = 0; batches = []; cursors = cs }
nothing_kept cs = from-parts 0 [] [] cs 0 (let h = least-at_most 0 cs in omega arith) refl

empty_stream : (catalog : Catalog) (s : ℕ) → pending_at_first (consumers_of catalog s) ≡ kept_stream catalog (empty_database catalog) s
empty_stream catalog s =
    let no_batches = all_same {A = List Rows} [] (length catalog.streams) s in
    let cursors = at_zero (replicate (length catalog.procedures) 0) (all_same 0 (length catalog.procedures)) (consumers_of catalog s) in
    sym (ap (λ (bs : List Rows). pending_from 0 bs (consumer_cursors catalog (empty_database catalog) s)) no_batches ∙ ap (pending_from 0 []) cursors ∙ nothing_kept (map (cursor_at 0) (consumers_of catalog s)))

-- before the first batch of these consumers
pub opens_empty : (catalog : Catalog) → map pending_at_first (map (consumers_of catalog) (range_with_len 0 (length catalog.streams))) ≡ kept_streams catalog (empty_database catalog)
opens_empty catalog =
    joined_maps pending_at_first (consumers_of catalog) (range_with_len 0 (length catalog.streams))
    ∙ same_maps (λ s. pending_at_first (consumers_of catalog s)) (kept_stream catalog (empty_database catalog)) (range_with_len 0 (length catalog.streams)) (empty_stream catalog)
