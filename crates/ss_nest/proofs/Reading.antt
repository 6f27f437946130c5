-- Where a stream stands among those that a nest reads, one stream further.
use Rattle.std.proofs.Common.{◌≡◌, ◌∙◌, ◌==◌, ◌<◌, ◌+◌, ℕ, suc, true, false, cond, List, length, get_or, drop, ap}
use Rattle.ss_lemmas.proofs.LoopItem.{next}
use Rattle.ss_model.specs.Nests.{position_of}

module _ (s : ℕ) (reads : List ℕ) (i x : ℕ) (h : i < length reads) (e : x ≡ get_or reads i x) where
  pub stands_here : (x == s) ≡ true → position_of s (drop i reads) ≡ 0
  stands_here same = ap (position_of s) (next reads i x h e) ∙ ap (λ b. cond b 0 (suc (position_of s (drop (i + 1) reads)))) same

  pub stands_further : (x == s) ≡ false → position_of s (drop i reads) ≡ suc (position_of s (drop (i + 1) reads))
  stands_further apart = ap (position_of s) (next reads i x h e) ∙ ap (λ b. cond b 0 (suc (position_of s (drop (i + 1) reads)))) apart
