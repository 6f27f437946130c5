-- What is kept of a whole database tells the shard and the streams that stand for it.
use Rattle.std.proofs.Common.{◌≡◌, ◌∙◌, ℕ, zero, suc, ◌+◌, nat_le, List, [], ◌∷◌, get_or, length, map, true, cond, Option, Some, None, unwrap_or, refl, sym, ap, arith}
use Rattle.std.specs.List.{range_with_len}
use Rattle.std.proofs.lemmas.Bool.{le-leb}
use Rattle.std.proofs.lemmas.List.{length-map}
use Rattle.ss_value.specs.Rows.{Rows}
use Rattle.ss_model.specs.declared.catalog.Catalog.{Catalog}
use Rattle.ss_model.specs.Database.{Database, NextNumbers}
use Rattle.ss_model.specs.Settling.{Kept, kept}
use Rattle.ss_stream.specs.declared.cursor.Cursor.{Cursor}
use Rattle.ss_stream.specs.OfDatabase.{consumers_of, kept_stream, kept_streams}
use Rattle.ss_stream.specs.Pending.{Pending}
use Rattle.ss_stream.specs.Streams.{cursors_at}
use Rattle.ss_shard.specs.Sources.{number_in, number_of, numbers_at, positive, SameNumbers}
use Rattle.ss_snapshot.specs.Held.{KeptTellsHeld, held_stream}
use Rattle.ss_snapshot.proofs.Held.{streams_tell}
use Rattle.ss_snapshot.proofs.SourcesRead.{entry_of, got_positive, none_positive}

-- ---- sources

number_again : (n : ℕ) → unwrap_or (entry_of n) 0 ≡ n
number_again zero = refl
number_again (suc n) = (let test : nat_le 1 (suc n) ≡ true = le-leb 1 (suc n) (omega arith) in ap (λ b. unwrap_or (cond b (Some (suc n)) None) 0) test)

same_number : (m : NextNumbers) (source : List ℕ) → number_of (positive m) source ≡ number_of m source
same_number m source = ap (λ (o : Option ℕ). unwrap_or o 0) (got_positive m source) ∙ number_again (number_of m source)

positive_at : (sources : List NextNumbers) (s : ℕ) → numbers_at (map positive sources) s ≡ positive (numbers_at sources s)
positive_at [] s = sym none_positive
positive_at (m ∷ sources) zero = refl
positive_at (m ∷ sources) (suc s) = positive_at sources s

pub sources_held : (sources numbers : List NextNumbers) → numbers ≡ map positive sources → SameNumbers numbers sources
sources_held sources numbers is = record {
  streams = sym (ap (λ (l : List NextNumbers). length l) is ∙ length-map sources positive);
  numbers = λ s source.
      sym (ap (λ (l : List NextNumbers). number_in l s source) is ∙ ap (λ (m : NextNumbers). number_of m source) (positive_at sources s) ∙ same_number (numbers_at sources s) source);
}

-- ---- streams

same_pendings : (xs ys : List Pending) → map held_stream xs ≡ map held_stream ys → map (λ (p : Pending). p.cursors) xs ≡ map (λ (p : Pending). p.cursors) ys → xs ≡ ys
same_pendings [] [] held at = refl
same_pendings [] (y ∷ ys) held at = cc
same_pendings (x ∷ xs) [] held at = cc
same_pendings (x ∷ xs) (y ∷ ys) held at =
    let first : held_stream x ≡ held_stream y = ap (λ l. get_or l 0 (held_stream x)) held in
    let cursors : x.cursors ≡ y.cursors = ap (λ (l : List (List Cursor)). get_or l 0 x.cursors) at in
    let rest = same_pendings xs ys (ap (λ (l : List (ℕ × (ℕ × List Rows))). behind l) held) (ap (λ (l : List (List Cursor)). behind l) at) in
    λ k. record { first = (first k).1.0; batches = (first k).1.1; cursors = cursors k } ∷ rest k
  where
    behind : {A : Type 0} → List A → List A
    behind [] = []
    behind (x ∷ xs) = xs

cursors_of_kept : (catalog : Catalog) (d : Database) (from n : ℕ)
    → map (λ (p : Pending). p.cursors) (map (kept_stream catalog d) (range_with_len from n)) ≡ map (λ s. cursors_at d.counts (consumers_of catalog s)) (range_with_len from n)
cursors_of_kept catalog d from zero = refl
cursors_of_kept catalog d from (suc n) = ap (λ l. cursors_at d.counts (consumers_of catalog from) ∷ l) (cursors_of_kept catalog d (from + 1) n)

pub kept_tells_held : KeptTellsHeld
unfolding kept
kept_tells_held catalog d shard streams whole is at =
    let counts : shard.cursors ≡ d.counts = ap (λ (k : Kept). k.counts) (sym is) in (
      record {
        contents = record { tables = ap (λ (k : Kept). k.tables) (sym is); windows = ap (λ (k : Kept). k.windows) (sym is) };
        counts = counts;
        numbers = sources_held shard.sources d.next_numbers (ap (λ (k : Kept). k.next_numbers) is);
        bodies = ap (λ (k : Kept). k.bodies) (sym is);
      },
      same_pendings streams (kept_streams catalog d)
          (ap (λ (k : Kept). k.streams) (sym is) ∙ streams_tell catalog d whole.in_step.matched.shape.streams)
          (at ∙ ap (λ (counts : List ℕ). map (λ s. cursors_at counts (consumers_of catalog s)) (range_with_len 0 (length catalog.streams))) counts
          ∙ sym (cursors_of_kept catalog d 0 (length catalog.streams))),
    )
