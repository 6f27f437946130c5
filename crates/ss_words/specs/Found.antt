-- What is kept of the options that were found so far.
use Rattle.std.specs.Prelude.{◌≡◌, ◌&&◌, ◌||◌, ℕ, List, Bool, false, not, is_some, Some, None, unwrap_or}
use Rattle.std.specs.Str.Parse.{digits_value}
use Rattle.ss_model.specs.declared.entry.Mode.TheVariants.{Strong}
use Rattle.ss_words.specs.declared.names.OptionName.{OptionName}
use Rattle.ss_words.specs.declared.names.OptionName.TheVariants.{Partitions, Recovery, Seed, Votes, Clients, Checkpoint, Restarts}
use Rattle.ss_words.specs.declared.names.Command.{Command}
use Rattle.ss_words.specs.declared.names.Command.TheVariants.{Run, Recover, Audit, Voter}
use Rattle.ss_words.specs.declared.names.Show.{Show}
use Rattle.ss_words.specs.declared.found.Found.{Found}
use Rattle.ss_words.specs.Words.{Asked, AreOptions, GoTogether, command_word, fits, mode_said, number_asked, recovery_asked}

abbrev pub nothing_found : Found
nothing_found = record { partitions = None; recovery = None; seed = None; votes = None; clients = None; every = None; restarts = None }

-- whether the option of a name was found
abbrev pub was_found : Found → OptionName → Bool
was_found found Partitions = is_some found.partitions
was_found found Recovery = is_some found.recovery
was_found found Seed = is_some found.seed
was_found found Votes = is_some found.votes
was_found found Clients = is_some found.clients
was_found found Checkpoint = is_some found.every
was_found found Restarts = is_some found.restarts

-- with an option of this name and value
abbrev pub with_value : Found → OptionName → List ℕ → Found
with_value found Partitions value = record found { partitions = Some (digits_value 10 value) }
with_value found Recovery value = record found { recovery = Some (mode_said value) }
with_value found Seed value = record found { seed = Some (digits_value 10 value) }
with_value found Votes value = record found { votes = Some (digits_value 10 value) }
with_value found Clients value = record found { clients = Some (digits_value 10 value) }
with_value found Checkpoint value = record found { every = Some (digits_value 10 value) }
with_value found Restarts value = record found { restarts = Some (digits_value 10 value) }

abbrev pub with_option : Found → Asked → Found
with_option found option = with_value found option.name option.value

-- whether an option may be one of them: it wasn't found yet, and its value fits
abbrev pub can_take : Found → Asked → Bool
can_take found option = not (was_found found option.name) && fits option.name option.value

-- the words are options, none twice, these are their numbers, and this is the mode of recovery
pub record HaveFound (words : List (List ℕ)) (found : Found) : Type 0 where
  pub options : List Asked
  pub are : AreOptions words options
  pub partitions : found.partitions ≡ number_asked Partitions options
  pub seed : found.seed ≡ number_asked Seed options
  pub votes : found.votes ≡ number_asked Votes options
  pub clients : found.clients ≡ number_asked Clients options
  pub every : found.every ≡ number_asked Checkpoint options
  pub restarts : found.restarts ≡ number_asked Restarts options
  pub recovery : found.recovery ≡ recovery_asked options

-- the options of a show were all found, and are this show's
pub record HasShow (found : Found) (show : Show) : Type 0 where
  pub seed : found.seed ≡ Some show.seed
  pub votes : found.votes ≡ Some show.votes
  pub clients : found.clients ≡ Some show.clients

-- whether one of these was found
abbrev pub is_for_show : Found → Bool
is_for_show found = is_some found.seed || is_some found.votes || is_some found.clients

-- whether one was found that only a run and a show have
abbrev pub is_for_run : Found → Bool
is_for_run found = is_some found.every || is_some found.restarts

-- whether any option was found
abbrev pub is_any : Found → Bool
is_any found = is_some found.partitions || is_some found.recovery || is_for_run found || is_for_show found

-- of the options of a show, the command has what was found; a recovery has none of those of a run, and an audit has no option at all
abbrev pub HasWhatItNeeds : Found → Command → Type 0
HasWhatItNeeds found Run = is_for_show found ≡ false
HasWhatItNeeds found Recover = (is_for_run found ≡ false) × (is_for_show found ≡ false)
HasWhatItNeeds found Audit = is_any found ≡ false
HasWhatItNeeds found (Voter show) = HasShow found show

-- the command has this word, and what was found are options of it and go together
pub record Suits (word : List ℕ) (found : Found) (command : Command) : Type 0 where
  pub named : word ≡ command_word command
  pub needs : HasWhatItNeeds found command
  pub go_together : GoTogether (unwrap_or found.restarts 0) (unwrap_or found.recovery Strong)
