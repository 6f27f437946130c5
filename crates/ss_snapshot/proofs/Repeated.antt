-- Items that are alike, one more.
use Rattle.std.proofs.Common.{◌≡◌, ◌∙◌, ℕ, ◌+◌, List, ◌++◌, length, replicate, Bool, true, false, sym, ap}
use Rattle.std.specs.List.{flat_map, filter, range_with_len}
use Rattle.std.specs.FinMap as finmap
use Rattle.std.proofs.lemmas.List.{flat_map_more, replicate_more, length_push}
use Rattle.ss_lemmas.proofs.Filtered.{filter_takes, filter_passes_by}
use Rattle.ss_record.specs.Numbers.{number_bytes}
use Rattle.ss_standing.specs.Image.{sources_bytes, repeated}
use Rattle.ss_standing.proofs.CallerLemmas.{no_sources}

pub one_more : {A : Type 0} (spell : A → List ℕ) (n : ℕ) (x : A) (old now piece : List ℕ) → now ≡ old ++ repeated spell n x → spell x ≡ piece → now ++ piece ≡ old ++ repeated spell (n + 1) x
one_more spell n x old now piece is same =
    (λ k. is k ++ (sym same) k) ∙ flat_map_more spell old (replicate n x) x ∙ ap (λ xs. old ++ flat_map spell xs) (replicate_more n x)

-- ---- border streams, of so many streams and of one more

-- a border stream
pub sources_more : (p : ℕ → Bool) (n : ℕ) (old now : List ℕ) → now ≡ old ++ repeated sources_bytes (length (filter p (range_with_len 0 n))) finmap.empty → p n ≡ true
    → now ++ number_bytes 8 0 ≡ old ++ repeated sources_bytes (length (filter p (range_with_len 0 (n + 1)))) finmap.empty
sources_more p n old now is passes =
    let before = filter p (range_with_len 0 n) in
    one_more sources_bytes (length before) finmap.empty old now (number_bytes 8 0) is no_sources
    ∙ ap (λ m. old ++ repeated sources_bytes m finmap.empty) (sym (length_push before n) ∙ ap length (filter_takes p n passes))

-- another stream
pub sources_same : (p : ℕ → Bool) (n : ℕ) (old now : List ℕ) → now ≡ old ++ repeated sources_bytes (length (filter p (range_with_len 0 n))) finmap.empty → p n ≡ false
    → now ≡ old ++ repeated sources_bytes (length (filter p (range_with_len 0 (n + 1)))) finmap.empty
sources_same p n old now is fails = is ∙ ap (λ ns. old ++ repeated sources_bytes (length ns) finmap.empty) (filter_passes_by p n fails)
