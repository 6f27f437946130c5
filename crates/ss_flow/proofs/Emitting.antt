-- Batches are put behind their streams, one after the other.
use Rattle.std.proofs.Common.{◌≡◌, ◌≢◌, ◌<◌, ◌+◌, ◌^◌, ◌==◌, ◌∙◌, ◌⊎◌, inl, inr, ℕ, suc, true, false, cond, List, [], ◌∷◌, map, length, get_or, set, arith, ap, sym, subst, length-set}
use Rattle.std.proofs.lemmas.Bool.Decides.{eqb_tells}
use Rattle.std.proofs.lemmas.List.{get_or-set_same, get_or-set_other}
use Rattle.std.specs.List.{AllByRecursion, filter}
use Rattle.std.specs.List.Sorted.{IsStrictlyIncreasing}
use Rattle.ss_model.specs.declared.entry.Emitted.{Emitted}
use Rattle.ss_model.specs.Batches.{batches_of}
use Rattle.ss_stream.specs.Pending.{Pending, emitted_count, with_batch}
use Rattle.ss_stream.specs.Streams.{ReservedStreams, SparesElsewhere, no_stream, spare_at, stream_at}
use Rattle.ss_flow.specs.Advances.{HasRoom}
use Rattle.ss_flow.specs.Follows.{AreOfStreams, with_batches}

-- ---- rising numbers

tail_rises : (x : ℕ) (xs : List ℕ) → IsStrictlyIncreasing (x ∷ xs) → IsStrictlyIncreasing xs
tail_rises x xs h = λ k lt. let e : suc k + 1 ≡ suc (k + 1) = omega arith in subst (λ n. get_or xs k 0 < get_or (x ∷ xs) n 0) e (h (suc k) (omega arith))

below_all : (x y : ℕ) (xs : List ℕ) → x < y → AllByRecursion (λ z. y < z) xs → AllByRecursion (λ z. x < z) xs
below_all x y [] lt all = tt
below_all x y (z ∷ xs) lt all = let above : y < z = all.0 in (omega arith, below_all x y xs lt all.1)

first_least : (x : ℕ) (xs : List ℕ) → IsStrictlyIncreasing (x ∷ xs) → AllByRecursion (λ y. x < y) xs
first_least x [] h = tt
first_least x (y ∷ ys) h = let lt : x < y = h 0 (omega arith) in (lt, below_all x y ys lt (first_least y ys (tail_rises x (y ∷ ys) h)))

-- what holds of all batches, where they are for later streams
all_later : (P Q : Emitted → Type 0) (n : ℕ) (bs : List Emitted) → AllByRecursion (λ m. n < m) (map (λ b. b.stream) bs) → ((b : Emitted) → b.stream ≢ n → P b → Q b) → AllByRecursion P bs → AllByRecursion Q bs
all_later P Q n [] later f all = tt
all_later P Q n (b ∷ bs) later f all = let lt : n < b.stream = later.0 in (f b (λ e. let same : b.stream ≡ n = e in absurd (omega arith)) all.0, all_later P Q n bs later.1 f all.1)

-- some batches are still to be put: the others stand behind their streams
pub record IsEmitting (batches rest : List Emitted) (old now : ReservedStreams) : Type 0 where
  pub joined : (s : ℕ) → with_batches (stream_at now s) (batches_of s rest) ≡ with_batches (stream_at old s) (batches_of s batches)
  pub there : AreOfStreams (length old.streams) rest
  pub rising : IsStrictlyIncreasing (map (λ (b : Emitted). b.stream) rest)
  pub room : HasRoom now rest
  pub few : AllByRecursion (λ (b : Emitted). emitted_count (stream_at now b.stream) < 2 ^ 62) rest
  pub many : length now.streams ≡ length old.streams

module _ (batches rest : List Emitted) (b : Emitted) (old now : ReservedStreams) (p : IsEmitting batches (b ∷ rest) old now) where
  pub there_now : b.stream < length now.streams
  there_now = let lt : b.stream < length old.streams = p.there.0 in let many = p.many in omega arith

  module _ (new : ReservedStreams) (is : new.streams ≡ set now.streams b.stream (with_batch (stream_at now b.stream) b.rows)) (elsewhere : SparesElsewhere now new b.stream) where
    at_it : stream_at new b.stream ≡ with_batch (stream_at now b.stream) b.rows
    at_it = ap (λ (xs : List Pending). get_or xs b.stream no_stream) is ∙ get_or-set_same now.streams b.stream (with_batch (stream_at now b.stream) b.rows) no_stream there_now

    at_others : (s : ℕ) → s ≢ b.stream → stream_at new s ≡ stream_at now s
    at_others s other = ap (λ (xs : List Pending). get_or xs s no_stream) is ∙ get_or-set_other now.streams b.stream s (with_batch (stream_at now b.stream) b.rows) no_stream other

    joined_by : (s : ℕ) → ((b.stream == s ≡ true) × (b.stream ≡ s)) ⊎ ((b.stream == s ≡ false) × (b.stream ≢ s)) → with_batches (stream_at new s) (batches_of s rest) ≡ with_batches (stream_at now s) (batches_of s (b ∷ rest))
    joined_by s (inl e) =
        ap (λ (x : Pending). with_batches x (batches_of s rest)) (subst (λ k. stream_at new k ≡ with_batch (stream_at now k) b.rows) e.1 at_it)
        ∙ sym (ap (λ t. with_batches (stream_at now s) (map (λ (x : Emitted). x.rows) (cond t (b ∷ filter (λ x. x.stream == s) rest) (filter (λ x. x.stream == s) rest)))) e.0)
    joined_by s (inr ne) =
        ap (λ (x : Pending). with_batches x (batches_of s rest)) (at_others s (λ e. ne.1 (sym e)))
        ∙ sym (ap (λ t. with_batches (stream_at now s) (map (λ (x : Emitted). x.rows) (cond t (b ∷ filter (λ x. x.stream == s) rest) (filter (λ x. x.stream == s) rest)))) ne.0)

    later : AllByRecursion (λ m. b.stream < m) (map (λ (x : Emitted). x.stream) rest)
    later = first_least b.stream (map (λ (x : Emitted). x.stream) rest) p.rising

    pub one_emitted : IsEmitting batches rest old new
    one_emitted = record {
      joined = λ s. joined_by s (eqb_tells b.stream s) ∙ p.joined s;
      there = p.there.1;
      rising = tail_rises b.stream (map (λ (x : Emitted). x.stream) rest) p.rising;
      room = all_later (λ x. 0 < spare_at now x.stream) (λ x. 0 < spare_at new x.stream) b.stream rest later (λ x other h. let same = elsewhere x.stream other in omega arith) p.room.1;
      few = all_later (λ x. emitted_count (stream_at now x.stream) < 2 ^ 62) (λ x. emitted_count (stream_at new x.stream) < 2 ^ 62) b.stream rest later (λ x other h. rw (at_others x.stream other) h) p.few.1;
      many = ap (λ (xs : List Pending). length xs) is ∙ length-set now.streams b.stream (with_batch (stream_at now b.stream) b.rows) ∙ p.many;
    }
