-- The options of a command are those that were found for it.
use Rattle.std.specs.declared.alloc.Global.{Global}
use Rattle.std.proofs.Common.{◌≡◌, ◌∙◌, ◌||◌, String, string_bytes, List, [], ◌∷◌, ℕ, Bool, true, false, Option, Some, None, is_some, unwrap_or, if◌then◌else◌, inl, inr, refl, sym, ap, subst}
use Rattle.std.specs.List.{AllByRecursion, list_any}
use Rattle.std.specs.Str.Parse.{digits_value}
use Rattle.std.proofs.lemmas.Bool.{or_parts, or_from}
use Rattle.ss_lemmas.proofs.EachOf.{all_with, all_such, all_three, none_passes}
use Rattle.ss_model.specs.declared.entry.Mode.TheVariants.{Strong}
use Rattle.ss_words.specs.declared.names.OptionName.{OptionName}
use Rattle.ss_words.specs.declared.names.OptionName.TheVariants.{Partitions, Recovery, Seed, Votes, Clients, Checkpoint, Restarts}
use Rattle.ss_words.specs.declared.names.Command.{Command}
use Rattle.ss_words.specs.declared.names.Command.TheVariants.{Run, Recover, Audit, Voter}
use Rattle.ss_words.specs.declared.names.Show.{Show}
use Rattle.ss_words.specs.declared.command.CommandLine.{CommandLine}
use Rattle.ss_words.specs.declared.found.Found.{Found}
use Rattle.ss_words.specs.Words.{Asked, asked, is_named, is_among, belongs, number_asked, recovery_asked, restarts_asked, mode_said, mode_asked, GoTogether, command_word, IsMadeFrom, AreOptionsOf, IsCommand, AsksFor, words_of}
use Rattle.ss_words.specs.Found.{HaveFound, HasWhatItNeeds, Suits, is_any, is_for_run, is_for_show}
use Rattle.ss_words.proofs.Reading.{one_spelling}

-- ---- a number is had just where an option of its name is

asked_is : (name : OptionName) (options : List Asked) → is_some (number_asked name options) ≡ is_among options name
asked_is name [] = refl
asked_is name (option ∷ others) = by (is_named name option) (asked_is name others)
  where
    by : (b : Bool) → is_some (number_asked name others) ≡ is_among others name
        → is_some (if b then Some (digits_value 10 option.value) else number_asked name others) ≡ b || is_among others name
    by true e = refl
    by false e = e

recovery_there : (options : List Asked) → is_some (recovery_asked options) ≡ is_among options Recovery
recovery_there [] = refl
recovery_there (option ∷ others) = by (is_named Recovery option) (recovery_there others)
  where
    by : (b : Bool) → is_some (recovery_asked others) ≡ is_among others Recovery
        → is_some (if b then Some (mode_said option.value) else recovery_asked others) ≡ b || is_among others Recovery
    by true e = refl
    by false e = e

the_number : (o : Option ℕ) → is_some o ≡ true → (n : ℕ) × (o ≡ Some n)
the_number None e = absurd cc
the_number (Some n) e = (n, refl)

none_any : (test : Asked → Bool) (options : List Asked) → AllByRecursion (λ option. test option ≡ false) options → list_any test options ≡ false
none_any test [] h = refl
none_any test (option ∷ others) h = or_from _ _ h.0 (none_any test others h.1)

-- ---- which options belong to a command. An option more is a line in each of these five

abbrev NotOf : OptionName → Asked → Type 0
NotOf name option = is_named name option ≡ false

not_of_show : (name : OptionName) (value : List ℕ) → belongs Run (asked name value) ≡ true → NotOf Seed (asked name value) × NotOf Votes (asked name value) × NotOf Clients (asked name value)
not_of_show Partitions value e = (refl, refl, refl)
not_of_show Recovery value e = (refl, refl, refl)
not_of_show Seed value e = absurd cc
not_of_show Votes value e = absurd cc
not_of_show Clients value e = absurd cc
not_of_show Checkpoint value e = (refl, refl, refl)
not_of_show Restarts value e = (refl, refl, refl)

of_each : (name : OptionName) (value : List ℕ) → NotOf Seed (asked name value) → NotOf Votes (asked name value) → NotOf Clients (asked name value) → belongs Run (asked name value) ≡ true
of_each Partitions value s v c = refl
of_each Recovery value s v c = refl
of_each Seed value s v c = absurd cc
of_each Votes value s v c = absurd cc
of_each Clients value s v c = absurd cc
of_each Checkpoint value s v c = refl
of_each Restarts value s v c = refl

of_recover : (name : OptionName) (value : List ℕ) → NotOf Checkpoint (asked name value) → NotOf Restarts (asked name value) → belongs Run (asked name value) ≡ true → belongs Recover (asked name value) ≡ true
of_recover Partitions value n m e = refl
of_recover Recovery value n m e = refl
of_recover Seed value n m e = absurd cc
of_recover Votes value n m e = absurd cc
of_recover Clients value n m e = absurd cc
of_recover Checkpoint value n m e = absurd cc
of_recover Restarts value n m e = absurd cc

of_run : (name : OptionName) (value : List ℕ) → belongs Recover (asked name value) ≡ true → (belongs Run (asked name value) ≡ true) × NotOf Checkpoint (asked name value) × NotOf Restarts (asked name value)
of_run Partitions value e = (refl, refl, refl)
of_run Recovery value e = (refl, refl, refl)
of_run Seed value e = absurd cc
of_run Votes value e = absurd cc
of_run Clients value e = absurd cc
of_run Checkpoint value e = absurd cc
of_run Restarts value e = absurd cc

of_voter : (show : Show) (name : OptionName) (value : List ℕ) → belongs (Voter show) (asked name value) ≡ true
of_voter show Partitions value = refl
of_voter show Recovery value = refl
of_voter show Seed value = refl
of_voter show Votes value = refl
of_voter show Clients value = refl
of_voter show Checkpoint value = refl
of_voter show Restarts value = refl

-- ---- an audit has none. An option more is a line in the first of these

own : (name : OptionName) (value : List ℕ) → is_named name (asked name value) ≡ true
own Partitions value = refl
own Recovery value = refl
own Seed value = refl
own Votes value = refl
own Clients value = refl
own Checkpoint value = refl
own Restarts value = refl

none_there : (options : List Asked) → ((name : OptionName) → is_among options name ≡ false) → options ≡ []
none_there [] h = refl
none_there (option ∷ others) h =
    let named = own option.name option.value in
    let odd = (or_parts (is_named option.name option) (is_among others option.name) (h option.name)).0 in
    absurd (cc)

none_of_audit : (options : List Asked) → AllByRecursion (λ option. belongs Audit option ≡ true) options → options ≡ []
none_of_audit [] h = refl
none_of_audit (option ∷ others) h = let never : false ≡ true = h.0 in absurd (cc)

module _ (words : List (List ℕ)) (found : Found) (h : HaveFound words found) where
  abbrev Belong : Command → Type 0
  Belong command = AllByRecursion (λ option. belongs command option ≡ true) h.options

  -- what was found of each option of a show
  seed_is : is_some found.seed ≡ is_among h.options Seed
  seed_is = ap (λ o. is_some o) h.seed ∙ asked_is Seed h.options

  votes_is : is_some found.votes ≡ is_among h.options Votes
  votes_is = ap (λ o. is_some o) h.votes ∙ asked_is Votes h.options

  clients_is : is_some found.clients ≡ is_among h.options Clients
  clients_is = ap (λ o. is_some o) h.clients ∙ asked_is Clients h.options

  partitions_is : is_some found.partitions ≡ is_among h.options Partitions
  partitions_is = ap (λ o. is_some o) h.partitions ∙ asked_is Partitions h.options

  every_is : is_some found.every ≡ is_among h.options Checkpoint
  every_is = ap (λ o. is_some o) h.every ∙ asked_is Checkpoint h.options

  recovery_is : is_some found.recovery ≡ is_among h.options Recovery
  recovery_is = ap (λ o. is_some o) h.recovery ∙ recovery_there h.options

  restarts_is : is_some found.restarts ≡ is_among h.options Restarts
  restarts_is = ap (λ o. is_some o) h.restarts ∙ asked_is Restarts h.options

  -- nothing was found just where there is no option
  nothing_there : is_any found ≡ false → h.options ≡ []
  nothing_there e = none_there h.options each
    where
      both : (is_some found.partitions || is_some found.recovery || is_for_run found ≡ false) × (is_for_show found ≡ false)
      both = or_parts (is_some found.partitions || is_some found.recovery || is_for_run found) (is_for_show found) e

      three : (is_some found.partitions || is_some found.recovery ≡ false) × (is_for_run found ≡ false)
      three = or_parts (is_some found.partitions || is_some found.recovery) (is_for_run found) both.0

      run : (is_some found.every ≡ false) × (is_some found.restarts ≡ false)
      run = or_parts (is_some found.every) (is_some found.restarts) three.1

      first : (is_some found.partitions ≡ false) × (is_some found.recovery ≡ false)
      first = or_parts (is_some found.partitions) (is_some found.recovery) three.0

      show : (is_some found.seed || is_some found.votes ≡ false) × (is_some found.clients ≡ false)
      show = or_parts (is_some found.seed || is_some found.votes) (is_some found.clients) both.1

      numbers : (is_some found.seed ≡ false) × (is_some found.votes ≡ false)
      numbers = or_parts (is_some found.seed) (is_some found.votes) show.0

      each : (name : OptionName) → is_among h.options name ≡ false
      each Partitions = sym partitions_is ∙ first.0
      each Recovery = sym recovery_is ∙ first.1
      each Seed = sym seed_is ∙ numbers.0
      each Votes = sym votes_is ∙ numbers.1
      each Clients = sym clients_is ∙ show.1
      each Checkpoint = sym every_is ∙ run.0
      each Restarts = sym restarts_is ∙ run.1

  found_nothing : h.options ≡ [] → is_any found ≡ false
  found_nothing e =
      let none : (name : OptionName) → is_among h.options name ≡ false = λ name. ap (λ (options : List Asked). is_among options name) e in
      let show = or_from (is_some found.seed || is_some found.votes) (is_some found.clients) (or_from (is_some found.seed) (is_some found.votes) (seed_is ∙ none Seed) (votes_is ∙ none Votes)) (clients_is ∙ none Clients) in
      let first = or_from (is_some found.partitions) (is_some found.recovery) (partitions_is ∙ none Partitions) (recovery_is ∙ none Recovery) in
      let run = or_from (is_some found.every) (is_some found.restarts) (every_is ∙ none Checkpoint) (restarts_is ∙ none Restarts) in
      let three = or_from (is_some found.partitions || is_some found.recovery) (is_for_run found) first run in
      or_from (is_some found.partitions || is_some found.recovery || is_for_run found) (is_for_show found) three show

  -- nothing of a show was found just where each option belongs to run
  all_belong : is_for_show found ≡ false → Belong Run
  all_belong e =
      let parts = or_parts (is_some found.seed || is_some found.votes) (is_some found.clients) e in
      let first = or_parts (is_some found.seed) (is_some found.votes) parts.0 in
      let seed = none_passes (is_named Seed) h.options (sym seed_is ∙ first.0) in
      let votes = none_passes (is_named Votes) h.options (sym votes_is ∙ first.1) in
      let clients = none_passes (is_named Clients) h.options (sym clients_is ∙ parts.1) in
      all_three (NotOf Seed) (NotOf Votes) (NotOf Clients) (λ option. belongs Run option ≡ true) (λ option. of_each option.name option.value) h.options seed votes clients

  none_named : (name : OptionName) → ((option : Asked) → belongs Run option ≡ true → NotOf name option) → Belong Run → is_among h.options name ≡ false
  none_named name each b = none_any (is_named name) h.options (all_with (λ option. belongs Run option ≡ true) (NotOf name) each h.options b)

  none_of_show : Belong Run → is_for_show found ≡ false
  none_of_show b =
      let seed : is_some found.seed ≡ false = seed_is ∙ none_named Seed (λ option e. (not_of_show option.name option.value e).0) b in
      let votes : is_some found.votes ≡ false = votes_is ∙ none_named Votes (λ option e. (not_of_show option.name option.value e).1) b in
      let clients : is_some found.clients ≡ false = clients_is ∙ none_named Clients (λ option e. (not_of_show option.name option.value e).2) b in
      or_from (is_some found.seed || is_some found.votes) (is_some found.clients) (or_from (is_some found.seed) (is_some found.votes) seed votes) clients

  -- and nothing of a run too just where each belongs to recover
  all_recover : (is_for_run found ≡ false) × (is_for_show found ≡ false) → Belong Recover
  all_recover (none, calm) =
      let parts = or_parts (is_some found.every) (is_some found.restarts) none in
      let every = none_passes (is_named Checkpoint) h.options (sym every_is ∙ parts.0) in
      let restarts = none_passes (is_named Restarts) h.options (sym restarts_is ∙ parts.1) in
      all_three (NotOf Checkpoint) (NotOf Restarts) (λ option. belongs Run option ≡ true) (λ option. belongs Recover option ≡ true) (λ option. of_recover option.name option.value) h.options every restarts (all_belong calm)

  none_to_recover : Belong Recover → (is_for_run found ≡ false) × (is_for_show found ≡ false)
  none_to_recover b =
      let every = all_with (λ option. belongs Recover option ≡ true) (NotOf Checkpoint) (λ option e. (of_run option.name option.value e).1) h.options b in
      let restarts = all_with (λ option. belongs Recover option ≡ true) (NotOf Restarts) (λ option e. (of_run option.name option.value e).2) h.options b in
      let run = all_with (λ option. belongs Recover option ≡ true) (λ option. belongs Run option ≡ true) (λ option e. (of_run option.name option.value e).0) h.options b in
      let none = or_from (is_some found.every) (is_some found.restarts) (every_is ∙ none_any (is_named Checkpoint) h.options every) (restarts_is ∙ none_any (is_named Restarts) h.options restarts) in
      (none, none_of_show run)

  -- what was found goes together just where what they ask for does
  restarts_same : unwrap_or found.restarts 0 ≡ restarts_asked h.options
  restarts_same = ap (λ o. unwrap_or o 0) h.restarts

  mode_same : unwrap_or found.recovery Strong ≡ mode_asked h.options
  mode_same = ap (λ o. unwrap_or o Strong) h.recovery

  abbrev FoundTogether : Type 0
  FoundTogether = GoTogether (unwrap_or found.restarts 0) (unwrap_or found.recovery Strong)

  abbrev AskedTogether : Type 0
  AskedTogether = GoTogether (restarts_asked h.options) (mode_asked h.options)

  asked_together : FoundTogether → AskedTogether
  asked_together (inl none) = inl (sym restarts_same ∙ none)
  asked_together (inr strong) = inr (sym mode_same ∙ strong)

  found_together : AskedTogether → FoundTogether
  found_together (inl none) = inl (restarts_same ∙ none)
  found_together (inr strong) = inr (mode_same ∙ strong)

  are_of : (command : Command) → HasWhatItNeeds found command → AskedTogether → AreOptionsOf command words h.options
  are_of Run n t = record { are = h.are; belong = all_belong n; complete = tt; go_together = t }
  are_of Recover n t = record { are = h.are; belong = all_recover n; complete = tt; go_together = t }
  are_of Audit n t = record { are = h.are; belong = subst (AllByRecursion (λ option. belongs Audit option ≡ true)) (sym (nothing_there n)) tt; complete = tt; go_together = t }
  are_of (Voter show) n t = record {
    are = h.are;
    belong = all_such _ (λ option. of_voter show option.name option.value) h.options;
    complete = (sym seed_is ∙ ap (λ o. is_some o) n.seed, (sym votes_is ∙ ap (λ o. is_some o) n.votes, (sym clients_is ∙ ap (λ o. is_some o) n.clients, tt)));
    go_together = t;
  }

  is_made : (command : Command) → HasWhatItNeeds found command → IsMadeFrom command h.options
  is_made Run n = tt
  is_made Recover n = tt
  is_made Audit n = tt
  is_made (Voter show) n = record { seed = sym h.seed ∙ n.seed; votes = sym h.votes ∙ n.votes; clients = sym h.clients ∙ n.clients }

  -- a command of the same word has what it needs
  has_needs : (command : Command) → AreOptionsOf command words h.options → (other : Command) × (command_word command ≡ command_word other) × HasWhatItNeeds found other
  has_needs Run are = (Run, refl, none_of_show are.belong)
  has_needs Recover are = (Recover, refl, none_to_recover are.belong)
  has_needs Audit are = (Audit, refl, found_nothing (none_of_audit h.options are.belong))
  has_needs (Voter show) are =
      let seed = the_number found.seed (seed_is ∙ are.complete.0) in
      let votes = the_number found.votes (votes_is ∙ are.complete.1.0) in
      let clients = the_number found.clients (clients_is ∙ are.complete.1.1.0) in
      (Voter (record { seed = seed.0; votes = votes.0; clients = clients.0 }), refl, record { seed = seed.1; votes = votes.1; clients = clients.1 })

-- ---- what the words of a command line ask for

pub begins_with : (words behind : List (String Global)) (first : String Global) (word : List ℕ) → words ≡ first ∷ behind → word ≡ string_bytes first → words_of words ≡ word ∷ words_of behind
begins_with words behind first word e is = ap words_of e ∙ ap (λ (w : List ℕ). w ∷ words_of behind) (sym is)

module _ (all : List (List ℕ)) (word : List ℕ) (rest : List (List ℕ)) (e : all ≡ word ∷ rest) where
  abbrev Behind : Type 0
  Behind = (command : Command) × (options : List Asked) × (word ≡ command_word command) × AreOptionsOf command rest options

  behind : IsCommand all → Behind
  behind k =
      let both : word ∷ rest ≡ command_word k.command ∷ k.rest = sym e ∙ k.begins in
      let named : word ≡ command_word k.command = cc in
      let same : k.rest ≡ rest = cc in
      (k.command, k.options, named, subst (λ w. AreOptionsOf k.command w k.options) same k.are)

  module _ (found : Found) (h : HaveFound rest found) where
    pub suits_none : ((command : Command) → ¬ (Suits word found command)) → ¬ (IsCommand all)
    suits_none none k =
        let b = behind k in
        let same = one_spelling rest b.1 h.options b.3.are.spelled h.are.spelled in
        let are = subst (AreOptionsOf b.0 rest) same b.3 in
        let has = has_needs rest found h b.0 are in
        none has.0 (record { named = b.2 ∙ has.1; needs = has.2; go_together = found_together rest found h are.go_together })

    pub suits_asks : (line : CommandLine) → Suits word found line.command → line.options.partitions ≡ unwrap_or found.partitions 1 → line.options.mode ≡ unwrap_or found.recovery Strong → line.options.every ≡ found.every
        → line.options.restarts ≡ unwrap_or found.restarts 0 → AsksFor all line
    suits_asks line s is mode every restarts = record {
      rest = rest;
      begins = e ∙ ap (λ (w : List ℕ). w ∷ rest) s.named;
      asks = record {
        options = h.options;
        are = are_of rest found h line.command s.needs (asked_together rest found h s.go_together);
        partitions = is ∙ ap (λ o. unwrap_or o 1) h.partitions;
        mode = mode ∙ mode_same rest found h;
        every = every ∙ h.every;
        restarts = restarts ∙ restarts_same rest found h;
        show = is_made rest found h line.command s.needs;
      };
    }
