-- The next numbers of one stream among those of all.
use Rattle.std.proofs.Common.{◌≡◌, ◌∙◌, ℕ, zero, suc, ◌<◌, true, false, List, [], ◌∷◌, length, refl, sym, ap, Some, None, slice_get, unwrap_or, is_some, arith}
use Rattle.std.specs.FinMap as finite
use Rattle.std.proofs.lemmas.Option.{get_or_from_slice_get, unwrap_or-slice_get}
use Rattle.ss_model.specs.Database.{NextNumbers}
use Rattle.ss_shard.specs.Sources.{number_of, numbers_at, number_in, HasSource, SameNumbers}
use Rattle.ss_shard.proofs.Numbers.{bytes_cmp}

-- a stream that isn't there has no source
pub no_stream : (sources : List NextNumbers) (s : ℕ) → slice_get sources s ≡ None → numbers_at sources s ≡ finite.empty
no_stream sources s none = sym (unwrap_or-slice_get sources s finite.empty) ∙ ap (λ o. unwrap_or o finite.empty) none

-- and no numbers
pub past_end : (sources : List NextNumbers) (s : ℕ) (source : List ℕ) → slice_get sources s ≡ None → number_in sources s source ≡ 0
past_end sources s source none =
    ap (λ (ns : NextNumbers). number_of ns source) (no_stream sources s none)
    ∙ ap (λ o. unwrap_or o 0) (finite.get-empty bytes_cmp source)

nothing_past : (sources : List NextNumbers) (s : ℕ) → (s < length sources → ⊥) → numbers_at sources s ≡ finite.empty
nothing_past [] s past = refl
nothing_past (x ∷ xs) zero past = absurd (past (omega arith))
nothing_past (x ∷ xs) (suc s) past = nothing_past xs s (λ h. past (omega (arith, h)))

-- and no source
pub none_past : (sources : List NextNumbers) (s : ℕ) (source : List ℕ) → HasSource sources s source → (s < length sources → ⊥) → ⊥
none_past sources s source has past =
    let none : is_some (finite.get (numbers_at sources s) source) ≡ false = ap (λ (ns : NextNumbers). is_some (finite.get ns source)) (nothing_past sources s past) ∙ ap is_some (finite.get-empty bytes_cmp source) in
    let never : false ≡ true = sym none ∙ has in
    cc

pub numbers_here : (sources : List NextNumbers) (s : ℕ) (ns : NextNumbers) → slice_get sources s ≡ Some ns → numbers_at sources s ≡ ns
numbers_here sources s ns there = get_or_from_slice_get sources s ns finite.empty there

pub numbers_alike : (old new : List NextNumbers) → new ≡ old → SameNumbers old new
numbers_alike old new same = record { streams = ap length same; numbers = λ s source. ap (λ (ns : List NextNumbers). number_in ns s source) same }

pub alike_again : (one two three : List NextNumbers) → SameNumbers one two → SameNumbers two three → SameNumbers one three
alike_again one two three f g = record { streams = g.streams ∙ f.streams; numbers = λ s source. g.numbers s source ∙ f.numbers s source }
