-- Which words of a command line are a command, and what its options ask for.
use Rattle.std.specs.Prelude.{◌≡◌, ◌⊎◌, ◌&&◌, ◌||◌, ◌++◌, ℕ, List, [], ◌∷◌, length, map, Bool, true, false, Option, None, Some, unwrap_or, codes, bytes_eq, nat_le, String, string_bytes, if◌then◌else◌}
use Rattle.std.specs.List.{AllByRecursion, IsDistinct, list_any}
use Rattle.std.specs.Str.{all_ascii_digits}
use Rattle.std.specs.Str.Parse.{digits_value, starts_with_minus}
use Rattle.std.specs.declared.alloc.Global.{Global}
use Rattle.ss_model.specs.declared.entry.Mode.{Mode}
use Rattle.ss_model.specs.declared.entry.Mode.TheVariants.{Strong, Weak}
use Rattle.ss_words.specs.declared.names.OptionName.{OptionName}
use Rattle.ss_words.specs.declared.names.OptionName.TheVariants.{Partitions, Recovery, Seed, Votes, Clients, Checkpoint, Restarts}
use Rattle.ss_words.specs.declared.names.Command.{Command}
use Rattle.ss_words.specs.declared.names.Command.TheVariants.{Run, Recover, Audit, Voter}
use Rattle.ss_words.specs.declared.names.Show.{Show}
use Rattle.ss_words.specs.declared.command.CommandLine.{CommandLine}

-- ---- The options. One more is a line in each of these two.

-- how an option is named
abbrev pub dashed : OptionName → List ℕ
dashed Partitions = codes "--partitions"
dashed Recovery = codes "--recovery"
dashed Seed = codes "--seed"
dashed Votes = codes "--votes"
dashed Clients = codes "--clients"
dashed Checkpoint = codes "--checkpoint"
dashed Restarts = codes "--restarts"

-- whether a value is one digit to seven, and the number that they write from least to most
abbrev pub is_number_within : ℕ → ℕ → List ℕ → Bool
is_number_within least most value =
    all_ascii_digits value && nat_le 1 (length value) && nat_le (length value) 7 && nat_le least (digits_value 10 value) && nat_le (digits_value 10 value) most

-- whether a value fits an option
abbrev pub fits : OptionName → List ℕ → Bool
fits Partitions value = is_number_within 1 8 value
fits Recovery value = bytes_eq value (codes "strong") || bytes_eq value (codes "weak")
fits Seed value = is_number_within 0 9999999 value
fits Votes value = is_number_within 1 200000 value
fits Clients value = is_number_within 1 8 value
fits Checkpoint value = is_number_within 1 1000000 value
fits Restarts value = is_number_within 0 16 value

-- ---- Their spelling

-- an option as it is asked for: its name and its value
pub record Asked : Type 0 where
  pub name : OptionName
  pub value : List ℕ

abbrev pub asked : OptionName → List ℕ → Asked
asked name value = record { name = name; value = value }

-- the option's two words, or its one word
abbrev pub in_two_words : Asked → List (List ℕ)
in_two_words option = dashed option.name ∷ option.value ∷ []

abbrev pub in_one_word : Asked → List (List ℕ)
in_one_word option = (dashed option.name ++ codes "=" ++ option.value) ∷ []

-- the words are the option's and then the rest. A value that begins with - is written in one word with its name
abbrev pub StartsWith : List (List ℕ) → Asked → List (List ℕ) → Type 0
StartsWith words option rest = ((words ≡ in_two_words option ++ rest) × (starts_with_minus option.value ≡ false)) ⊎ (words ≡ in_one_word option ++ rest)

-- the words are those of the options, one after the other
abbrev pub Spells : List (List ℕ) → List Asked → Type 0
Spells words [] = words ≡ []
Spells words (option ∷ others) = (rest : List (List ℕ)) × StartsWith words option rest × Spells rest others

-- words are the spelling of one list of options at most
abbrev pub HaveOneSpelling : Type 0
HaveOneSpelling = (words : List (List ℕ)) (options others : List Asked) → Spells words options → Spells words others → options ≡ others

-- ---- What they ask for

abbrev pub is_named : OptionName → Asked → Bool
is_named name option = bytes_eq (dashed name) (dashed option.name)

-- the words are options, none named twice, each with a value that fits it
pub record AreOptions (words : List (List ℕ)) (options : List Asked) : Type 0 where
  pub spelled : Spells words options
  pub once : IsDistinct (λ option. is_named option.name) options
  pub fit : AllByRecursion (λ option. fits option.name option.value ≡ true) options

-- the words are no options
abbrev pub AreNoOptions : List (List ℕ) → Type 0
AreNoOptions words = (options : List Asked) → ¬ (AreOptions words options)

-- the number of the option of a name, where it is among them
abbrev pub number_asked : OptionName → List Asked → Option ℕ
number_asked name [] = None
number_asked name (option ∷ others) = if is_named name option then Some (digits_value 10 option.value) else number_asked name others

-- how many partitions are asked for: one where no option says it
abbrev pub partitions_asked : List Asked → ℕ
partitions_asked options = unwrap_or (number_asked Partitions options) 1

-- how many restarts are asked for: none where no option says it
abbrev pub restarts_asked : List Asked → ℕ
restarts_asked options = unwrap_or (number_asked Restarts options) 0

-- the mode that a value of `--recovery` says, which is one of two words
abbrev pub mode_said : List ℕ → Mode
mode_said value = if bytes_eq value (codes "weak") then Weak else Strong

-- the mode of the option of recovery, where it is among them
abbrev pub recovery_asked : List Asked → Option Mode
recovery_asked [] = None
recovery_asked (option ∷ others) = if is_named Recovery option then Some (mode_said option.value) else recovery_asked others

-- the mode that is asked for: strong where no option says it
abbrev pub mode_asked : List Asked → Mode
mode_asked options = unwrap_or (recovery_asked options) Strong

-- a run over restarts is strong alone
abbrev pub GoTogether : ℕ → Mode → Type 0
GoTogether restarts mode = (restarts ≡ 0) ⊎ (mode ≡ Strong)

-- the show is the one that is asked for
pub record IsShowAsked (options : List Asked) (show : Show) : Type 0 where
  pub seed : number_asked Seed options ≡ Some show.seed
  pub votes : number_asked Votes options ≡ Some show.votes
  pub clients : number_asked Clients options ≡ Some show.clients

-- ---- The commands. One more is a line in each of these four.

-- the word of a command
abbrev pub command_word : Command → List ℕ
command_word Run = codes "run"
command_word Recover = codes "recover"
command_word Audit = codes "audit"
command_word (Voter show) = codes "voter"

-- the options that must stand behind a command
abbrev pub required : Command → List OptionName
required Run = []
required Recover = []
required Audit = []
required (Voter show) = Seed ∷ Votes ∷ Clients ∷ []

-- and those that may
abbrev pub optional : Command → List OptionName
optional Run = Partitions ∷ Recovery ∷ Checkpoint ∷ Restarts ∷ []
optional Recover = Partitions ∷ Recovery ∷ []
optional Audit = []
optional (Voter show) = Partitions ∷ Recovery ∷ Checkpoint ∷ Restarts ∷ []

-- a command is made from its options: a voter has the show that they ask for
abbrev pub IsMadeFrom : Command → List Asked → Type 0
IsMadeFrom Run options = Unit {0}
IsMadeFrom Recover options = Unit {0}
IsMadeFrom Audit options = Unit {0}
IsMadeFrom (Voter show) options = IsShowAsked options show

-- whether an option is one that must stand behind the command, or may
abbrev pub belongs : Command → Asked → Bool
belongs command option = list_any (λ name. is_named name option) (required command ++ optional command)

-- whether an option of this name is among them
abbrev pub is_among : List Asked → OptionName → Bool
is_among options name = list_any (is_named name) options

-- the words are options, each belongs to the command, none is missing that it must have, and what they ask for goes together
pub record AreOptionsOf (command : Command) (words : List (List ℕ)) (options : List Asked) : Type 0 where
  pub are : AreOptions words options
  pub belong : AllByRecursion (λ option. belongs command option ≡ true) options
  pub complete : AllByRecursion (λ name. is_among options name ≡ true) (required command)
  pub go_together : GoTogether (restarts_asked options) (mode_asked options)

-- the words are a command, of whatever show, and behind it its options
pub record IsCommand (words : List (List ℕ)) : Type 0 where
  pub command : Command
  pub rest : List (List ℕ)
  pub options : List Asked
  pub begins : words ≡ command_word command ∷ rest
  pub are : AreOptionsOf command rest options

-- the words are options of this command, and ask for this
pub record OptionsAskFor (words : List (List ℕ)) (line : CommandLine) : Type 0 where
  pub options : List Asked
  pub are : AreOptionsOf line.command words options
  pub partitions : line.options.partitions ≡ partitions_asked options
  pub mode : line.options.mode ≡ mode_asked options
  pub every : line.options.every ≡ number_asked Checkpoint options
  pub restarts : line.options.restarts ≡ restarts_asked options
  pub show : IsMadeFrom line.command options

-- the words are this command, and behind it options that ask for this
pub record AsksFor (words : List (List ℕ)) (line : CommandLine) : Type 0 where
  pub rest : List (List ℕ)
  pub begins : words ≡ command_word line.command ∷ rest
  pub asks : OptionsAskFor rest line

-- the bytes of the words
abbrev pub words_of : List (String Global) → List (List ℕ)
words_of words = map string_bytes words
