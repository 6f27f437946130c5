-- Options that are taken one after the other: what is still to come of those that the words spell.
use Rattle.std.specs.declared.alloc.Global.{Global}
use Rattle.std.proofs.Common.{◌≡◌, ◌≢◌, ◌<◌, String, string_bytes, length, if◌then◌else◌, arith, ◌||◌, Bool, true, false, true≢false, not, List, [], ◌∷◌, ℕ, Option, Some, None, is_some, inl, inr, refl, sym, ap, subst, ◌∙◌}
use Rattle.std.specs.Option.{option_or}
use Rattle.std.specs.List.{AllByRecursion, IsDistinct}
use Rattle.std.specs.Str.Parse.{digits_value}
use Rattle.std.proofs.lemmas.List.{length-map}
use Rattle.std.proofs.lemmas.Bool.{and_parts, and_from, or_parts, or_from, not-true}
use Rattle.ss_lemmas.proofs.Bools.{some_same}
use Rattle.ss_lemmas.proofs.EachOf.{all_with, all_such, all_both}
use Rattle.ss_model.specs.declared.entry.Mode.{Mode}
use Rattle.ss_words.specs.declared.names.OptionName.{OptionName}
use Rattle.ss_words.specs.declared.names.OptionName.TheVariants.{Partitions, Recovery, Seed, Votes, Clients, Checkpoint, Restarts}
use Rattle.ss_words.specs.declared.found.Found.{Found}
use Rattle.ss_words.specs.Words.{Asked, asked, is_named, mode_said, StartsWith, Spells, AreOptions, AreNoOptions, number_asked, recovery_asked, words_of}
use Rattle.ss_words.specs.Found.{HaveFound, nothing_found, was_found, with_value, with_option, can_take}
use Rattle.ss_words.proofs.Cuts.{one_option, starts_with_some}

-- the words left are options that may come behind those found
pub record MayFollow (found : Found) (words : List (List ℕ)) (options : List Asked) : Type 0 where
  pub are : AreOptions words options
  pub new : AllByRecursion (λ option. was_found found option.name ≡ false) options

-- the numbers of what was found and of these options, of partitions, a seed, votes, clients, checkpoints and restarts, and the mode of recovery
abbrev pub Numbers : Type 0
Numbers = Option ℕ × Option ℕ × Option ℕ × Option ℕ × Option ℕ × Option ℕ × Option Mode

abbrev pub numbers_with : Found → List Asked → Numbers
numbers_with found options = (
  option_or found.partitions (number_asked Partitions options),
  option_or found.seed (number_asked Seed options),
  option_or found.votes (number_asked Votes options),
  option_or found.clients (number_asked Clients options),
  option_or found.every (number_asked Checkpoint options),
  option_or found.restarts (number_asked Restarts options),
  option_or found.recovery (recovery_asked options),
)

-- an option more is a line in the first and the third of these, and two in the second
new_is : (name : OptionName) → was_found nothing_found name ≡ false
new_is Partitions = refl
new_is Recovery = refl
new_is Seed = refl
new_is Votes = refl
new_is Clients = refl
new_is Checkpoint = refl
new_is Restarts = refl

found_with : (found : Found) (name other : OptionName) (value : List ℕ) → was_found (with_value found name value) other ≡ is_named name (asked other value) || was_found found other
found_with found Partitions Partitions value = refl
found_with found Partitions other value = refl
found_with found Recovery Recovery value = refl
found_with found Recovery other value = refl
found_with found Seed Seed value = refl
found_with found Seed other value = refl
found_with found Votes Votes value = refl
found_with found Votes other value = refl
found_with found Clients Clients value = refl
found_with found Clients other value = refl
found_with found Checkpoint Checkpoint value = refl
found_with found Checkpoint other value = refl
found_with found Restarts Restarts value = refl
found_with found Restarts other value = refl

number_first : {X : Type 0} (o p : Option X) → is_some o ≡ false → option_or o p ≡ p
number_first None p e = refl
number_first (Some n) p e = absurd cc

number_last : {X : Type 0} (o : Option X) → option_or o None ≡ o
number_last None = refl
number_last (Some n) = refl

module _ (found : Found) (value : List ℕ) (options : List Asked) where
  abbrev number : Option ℕ
  number = Some (digits_value 10 value)

  abbrev old : Numbers
  old = numbers_with found options

  numbers_first : (name : OptionName) → was_found found name ≡ false → numbers_with found (asked name value ∷ options) ≡ numbers_with (with_value found name value) options
  numbers_first Partitions e = ap (λ (n : Option ℕ). (n, old.1, old.2, old.3, old.4, old.5, old.6)) (number_first found.partitions number e)
  numbers_first Recovery e = ap (λ (mode : Option Mode). (old.0, old.1, old.2, old.3, old.4, old.5, mode)) (number_first found.recovery (Some (mode_said value)) e)
  numbers_first Seed e = ap (λ (n : Option ℕ). (old.0, n, old.2, old.3, old.4, old.5, old.6)) (number_first found.seed number e)
  numbers_first Votes e = ap (λ (n : Option ℕ). (old.0, old.1, n, old.3, old.4, old.5, old.6)) (number_first found.votes number e)
  numbers_first Clients e = ap (λ (n : Option ℕ). (old.0, old.1, old.2, n, old.4, old.5, old.6)) (number_first found.clients number e)
  numbers_first Checkpoint e = ap (λ (n : Option ℕ). (old.0, old.1, old.2, old.3, n, old.5, old.6)) (number_first found.every number e)
  numbers_first Restarts e = ap (λ (n : Option ℕ). (old.0, old.1, old.2, old.3, old.4, n, old.6)) (number_first found.restarts number e)

module _ (found : Found) (words : List (List ℕ)) (option : Asked) (rest : List (List ℕ)) (front : StartsWith words option rest) where
  -- what follows a found option is not named as it is, and not found before
  other_named : (other : Asked) → was_found (with_option found option) other.name ≡ false → (is_named option.name other ≡ false) × (was_found found other.name ≡ false)
  other_named other e = or_parts _ _ (sym (found_with found option.name other.name option.value) ∙ e)

  other_new : (other : Asked) → is_named option.name other ≡ false → was_found found other.name ≡ false → was_found (with_option found option) other.name ≡ false
  other_new other e f = found_with found option.name other.name option.value ∙ or_from _ _ e f

  -- the options behind it are there just where they are with it
  pub with_it : (options : List Asked) → can_take found option ≡ true → MayFollow (with_option found option) rest options → MayFollow found words (option ∷ options)
  unfolding IsDistinct
  with_it options take h =
      let fit = and_parts _ _ take in
      record {
        are = record {
          spelled = (rest, front, h.are.spelled);
          once = (all_with _ _ (λ other e. (other_named other e).0) options h.new, h.are.once);
          fit = (fit.1, h.are.fit);
        };
        new = (not-true _ fit.0, all_with _ _ (λ other e. (other_named other e).1) options h.new);
      }

  abbrev Behind : List Asked → Type 0
  Behind options = (others : List Asked) × (options ≡ option ∷ others) × (can_take found option ≡ true) × MayFollow (with_option found option) rest others

  behind_it : (others : List Asked) → Spells rest others → MayFollow found words (option ∷ others) → Behind (option ∷ others)
  unfolding IsDistinct
  behind_it others spelled h =
      let new = h.new.0 in
      let take : can_take found option ≡ true = and_from _ _ (ap not new) h.are.fit.0 in (
        others,
        refl,
        take,
        record {
          are = record { spelled = spelled; once = h.are.once.1; fit = h.are.fit.1 };
          new = all_with _ _ (λ other both. other_new other both.0 both.1) others (all_both _ _ others h.are.once.0 h.new.1);
        },
      )

  pub without_it : (options : List Asked) → MayFollow found words options → Behind options
  without_it [] h = absurd (starts_with_some option rest (subst (λ w. StartsWith w option rest) h.are.spelled front))
  without_it (first ∷ others) h =
      let same = one_option words option first rest h.are.spelled.0 front h.are.spelled.1 in
      let spelled = subst (λ r. Spells r others) (sym same.1) h.are.spelled.2 in
      subst (λ o. Behind (o ∷ others)) same.0 (behind_it others spelled (subst (λ o. MayFollow found words (o ∷ others)) (sym same.0) h))

-- words that are options, and what is still left of them behind those found
pub record IsReading (all : List (List ℕ)) (found : Found) (words : List (List ℕ)) : Type 0 where
  pub to : (options : List Asked) → AreOptions all options → (others : List Asked) × MayFollow found words others × (numbers_with nothing_found options ≡ numbers_with found others)
  pub from : (others : List Asked) → MayFollow found words others → (options : List Asked) × AreOptions all options × (numbers_with nothing_found options ≡ numbers_with found others)

pub reading_starts : (all : List (List ℕ)) → IsReading all nothing_found all
reading_starts all = record {
  to = λ options are. (options, record { are = are; new = all_such _ (λ option. new_is option.name) options }, refl);
  from = λ others h. (others, h.are, refl);
}

module _ (all : List (List ℕ)) (found : Found) (words : List (List ℕ)) (h : IsReading all found words) where
  pub reading_goes_on : (option : Asked) (rest : List (List ℕ)) → StartsWith words option rest → can_take found option ≡ true → IsReading all (with_option found option) rest
  reading_goes_on option rest front take =
      let first : (options : List Asked) → numbers_with found (option ∷ options) ≡ numbers_with (with_option found option) options =
      λ options. numbers_first found option.value options option.name (not-true _ (and_parts _ _ take).0) in
      record {
        to = λ options are.
            let k = h.to options are in
            let b = without_it found words option rest front k.0 k.1 in
            (b.0, b.3, k.2 ∙ ap (numbers_with found) b.1 ∙ first b.0);
        from = λ others m.
            let k = h.from (option ∷ others) (with_it found words option rest front others take m) in
            (k.0, k.1, k.2 ∙ first others);
      }

  pub reading_stops : ((option : Asked) (rest : List (List ℕ)) → ¬ (StartsWith words option rest)) → words ≢ [] → AreNoOptions all
  reading_stops none some options are = stops (h.to options are).0 (h.to options are).1
    where
      stops : (others : List Asked) → ¬ (MayFollow found words others)
      stops [] m = some m.are.spelled
      stops (option ∷ others) m = none option m.are.spelled.0 m.are.spelled.1

  pub reading_refuses : (option : Asked) (rest : List (List ℕ)) → StartsWith words option rest → can_take found option ≡ false → AreNoOptions all
  reading_refuses option rest front no_take options are =
      let k = h.to options are in
      let b = without_it found words option rest front k.0 k.1 in
      true≢false (sym b.2 ∙ no_take)

  pub reading_ends : words ≡ [] → HaveFound all found
  unfolding IsDistinct
  reading_ends e =
      let k = h.from [] (record { are = record { spelled = e; once = tt; fit = tt }; new = tt }) in
      record {
        options = k.0;
        are = k.1;
        partitions = sym (ap (λ (n : Numbers). n.0) k.2 ∙ number_last found.partitions);
        seed = sym (ap (λ (n : Numbers). n.1) k.2 ∙ number_last found.seed);
        votes = sym (ap (λ (n : Numbers). n.2) k.2 ∙ number_last found.votes);
        clients = sym (ap (λ (n : Numbers). n.3) k.2 ∙ number_last found.clients);
        every = sym (ap (λ (n : Numbers). n.4) k.2 ∙ number_last found.every);
        restarts = sym (ap (λ (n : Numbers). n.5) k.2 ∙ number_last found.restarts);
        recovery = sym (ap (λ (n : Numbers). n.6) k.2 ∙ number_last found.recovery);
      }

-- ---- what the loop over the words has at hand

pub is_taken : (b : Bool) (with_it found : Found) → Some found ≡ (if b then Some with_it else None) → (b ≡ true) × (with_it ≡ found)
is_taken true with_it found e = (refl, sym (some_same found with_it e))
is_taken false with_it found e = absurd cc

pub is_refused : (b : Bool) (with_it : Found) → None ≡ (if b then Some with_it else None) → b ≡ false
is_refused true with_it e = absurd cc
is_refused false with_it e = refl

pub words_none : (words : List (String Global)) → length words ≡ 0 → words_of words ≡ []
words_none [] e = refl
words_none (word ∷ words) e = absurd (omega (arith, e))

pub words_some : (words : List (String Global)) → 0 < length words → words_of words ≢ []
words_some [] l e = omega arith
words_some (word ∷ words) l e = absurd cc

pub shorter : (words rest : List (String Global)) (option : Asked) → StartsWith (words_of words) option (words_of rest) → length rest < length words
shorter words rest option h = omega (arith, length-map words string_bytes, length-map rest string_bytes, counted h)
  where
    counted : StartsWith (words_of words) option (words_of rest) → length (words_of rest) < length (words_of words)
    counted (inl h) = omega (arith, ap length h.0)
    counted (inr h) = omega (arith, ap length h)
