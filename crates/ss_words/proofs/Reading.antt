-- Words read from the left: the one list of options that they spell.
use Rattle.std.proofs.Common.{◌≡◌, ◌++◌, false, List, [], ◌∷◌, ℕ, codes, cond, Option, Some, None, option_map, inl, inr, refl, sym, ap, ◌∙◌}
use Rattle.std.specs.Str.Parse.{starts_with_minus}
use Rattle.ss_lemmas.proofs.Bools.{some_same}
use Rattle.ss_words.specs.declared.names.OptionName.{OptionName}
use Rattle.ss_words.specs.declared.names.OptionName.TheVariants.{Partitions, Recovery, Seed, Votes, Clients, Checkpoint, Restarts}
use Rattle.ss_words.specs.Words.{Asked, asked, dashed, StartsWith, Spells, HaveOneSpelling}
use Rattle.ss_words.proofs.Cuts.{cut, named}

abbrev with_first : Asked → Option (List Asked) → Option (List Asked)
with_first option others = option_map (λ options. option ∷ options) others

-- what a word of this name says, with this behind its =, where the others alone spell these options, and behind a name those
abbrev from_word : Option OptionName → Option (List ℕ) → Option (List Asked) → (OptionName → Option (List Asked)) → Option (List Asked)
from_word None value others after = None
from_word (Some name) None others after = after name
from_word (Some name) (Some value) others after = with_first (asked name value) others

-- the options that the words spell; where a name stands before them, its value is the first
abbrev pub read : Option OptionName → List (List ℕ) → Option (List Asked)
read None [] = Some []
read (Some name) [] = None
read None (word ∷ words) = from_word (named (cut word).0) (cut word).1 (read None words) (λ name. read (Some name) words)
read (Some name) (word ∷ words) = cond (starts_with_minus word) None (with_first (asked name word) (read None words))

-- an option more is a line in each of these two
read_bare : (name : OptionName) (words : List (List ℕ)) → read None (dashed name ∷ words) ≡ read (Some name) words
read_bare Partitions words = refl
read_bare Recovery words = refl
read_bare Seed words = refl
read_bare Votes words = refl
read_bare Clients words = refl
read_bare Checkpoint words = refl
read_bare Restarts words = refl

read_joined : (name : OptionName) (value : List ℕ) (words : List (List ℕ)) → read None ((dashed name ++ codes "=" ++ value) ∷ words) ≡ with_first (asked name value) (read None words)
read_joined Partitions value words = refl
read_joined Recovery value words = refl
read_joined Seed value words = refl
read_joined Votes value words = refl
read_joined Clients value words = refl
read_joined Checkpoint value words = refl
read_joined Restarts value words = refl

read_value : (name : OptionName) (value : List ℕ) (words : List (List ℕ)) → starts_with_minus value ≡ false → read (Some name) (value ∷ words) ≡ with_first (asked name value) (read None words)
read_value name value words e = rw e refl

read_first : (words : List (List ℕ)) (option : Asked) (rest : List (List ℕ)) → StartsWith words option rest → read None words ≡ with_first option (read None rest)
read_first words option rest (inl h) = ap (read None) h.0 ∙ read_bare option.name (option.value ∷ rest) ∙ read_value option.name option.value rest h.1
read_first words option rest (inr h) = ap (read None) h ∙ read_joined option.name option.value rest

pub read_is : (words : List (List ℕ)) (options : List Asked) → Spells words options → read None words ≡ Some options
read_is words [] h = ap (read None) h
read_is words (option ∷ options) h = read_first words option h.0 h.1 ∙ ap (with_first option) (read_is h.0 options h.2)

pub one_spelling : HaveOneSpelling
one_spelling words options others h k = some_same options others (sym (read_is words options h) ∙ read_is words others k)
