-- The answers to one client among those to all.
use Rattle.std.proofs.Common.{◌≡◌, ◌<◌, ◌++◌, ◌∷◌, ◌∙◌, ℕ, zero, suc, Some, List, [], map, length, replicate, set, get_or, slice_get, arith, ap, subst, refl}
use Rattle.std.proofs.lemmas.List.{map-set, get_or-set_same, get_or-set_other, length-map}
use Rattle.std.proofs.lemmas.Option.{slice_get-map, get_or_from_slice_get, slice_get_within}
use Rattle.std.specs.Option.{option_map}
use Rattle.ss_run.specs.Replies.{HeldReplies, ReservedAnswers, SparesElsewhere, held_replies, spare_of}

-- one client's answers became others, and what all are then
pub record OneReplied (old : HeldReplies) (now : List ReservedAnswers) (i : ℕ) (x y : ReservedAnswers) : Type 0 where
  pub was : get_or old.answers i [] ≡ x.answers
  pub room : spare_of old i ≡ x.spare
  pub answers : map (λ s. s.answers) now ≡ set old.answers i y.answers
  pub room_now : spare_of (held_replies now) i ≡ y.spare
  pub elsewhere : SparesElsewhere old (held_replies now) i

replied_at : (xs : List ReservedAnswers) (i : ℕ) (x y : ReservedAnswers) → slice_get xs i ≡ Some x → OneReplied (held_replies xs) (set xs i y) i x y
replied_at xs i x y is =
    let within : i < length xs = slice_get_within xs i x is in
    let answers = get_or_from_slice_get (map (λ (s : ReservedAnswers). s.answers) xs) i x.answers [] (slice_get-map (λ (s : ReservedAnswers). s.answers) xs i ∙ ap (option_map (λ (s : ReservedAnswers). s.answers)) is) in
    let spare = get_or_from_slice_get (map (λ (s : ReservedAnswers). s.spare) xs) i x.spare 0 (slice_get-map (λ (s : ReservedAnswers). s.spare) xs i ∙ ap (option_map (λ (s : ReservedAnswers). s.spare)) is) in
    let long : length (map (λ (s : ReservedAnswers). s.spare) xs) ≡ length xs = simp length-map in
    record {
      was = answers;
      room = spare;
      answers = map-set (λ (s : ReservedAnswers). s.answers) xs i y;
      room_now = rw (map-set (λ (s : ReservedAnswers). s.spare) xs i y) (get_or-set_same (map (λ (s : ReservedAnswers). s.spare) xs) i y.spare 0 (omega arith));
      elsewhere = λ m other. rw (map-set (λ (s : ReservedAnswers). s.spare) xs i y) (get_or-set_other (map (λ (s : ReservedAnswers). s.spare) xs) i m y.spare 0 other);
    }

pub one_replied : (old : HeldReplies) (xs : List ReservedAnswers) (i n : ℕ) (x y : ReservedAnswers) → held_replies xs ≡ old → n ≡ i → slice_get xs n ≡ Some x → OneReplied old (set xs n y) i x y
one_replied old xs i n x y view e is =
    subst (λ (o : HeldReplies). OneReplied o (set xs n y) i x y) view
    (subst (λ (k : ℕ). OneReplied (held_replies xs) (set xs n y) k x y) e (replied_at xs n x y is))

-- one client more
pub none_more : {A : Type 0} (n : ℕ) → ◌≡◌ {A = List (List A)} (replicate n [] ++ [] ∷ []) (replicate (suc n) [])
none_more zero = refl
none_more (suc n) = ap (λ xs. [] ∷ xs) (none_more n)
