-- What a command asks for is one thing, and within its ranges.
use Rattle.std.proofs.Common.{◌≡◌, ◌≤◌, ◌==◌, [], ◌∷◌, ◌∙◌, List, ℕ, codes, Bool, true, false, true≢false, cond, Option, Some, None, unwrap_or, inl, inr, refl, sym, ap, ap₂, subst, arith, leb-true}
use Rattle.std.specs.List.{AllByRecursion}
use Rattle.std.specs.Str.Parse.{digits_value}
use Rattle.std.proofs.lemmas.Bool.{and_parts}
use Rattle.ss_lemmas.proofs.Bools.{some_same}
use Rattle.ss_model.specs.declared.entry.Mode.{Mode}
use Rattle.ss_words.specs.declared.names.OptionName.{OptionName}
use Rattle.ss_words.specs.declared.names.OptionName.TheVariants.{Partitions, Recovery, Seed, Votes, Clients, Checkpoint, Restarts}
use Rattle.ss_words.specs.declared.names.Command.{Command}
use Rattle.ss_words.specs.declared.names.Command.TheVariants.{Run, Recover, Audit, Voter}
use Rattle.ss_words.specs.declared.names.Show.{Show}
use Rattle.ss_words.specs.declared.command.CommandLine.{CommandLine}
use Rattle.ss_words.specs.Words.{Asked, asked, fits, is_named, is_number_within, AreOptions, IsCommand, IsMadeFrom, IsShowAsked, AsksFor, GoTogether, command_word, mode_asked, number_asked, partitions_asked, restarts_asked}
use Rattle.ss_words.proofs.Reading.{one_spelling}

pub asks_is_command : (words : List (List ℕ)) (line : CommandLine) → AsksFor words line → IsCommand words
asks_is_command words line h = record { command = line.command; rest = h.rest; options = h.asks.options; begins = h.begins; are = h.asks.are }

-- ---- one thing

same_show : (show other : Show) (options : List Asked) → IsShowAsked options show → IsShowAsked options other → show ≡ other
same_show show other options h k =
    let seed = some_same _ _ (sym h.seed ∙ k.seed) in
    let votes = some_same _ _ (sym h.votes ∙ k.votes) in
    let clients = some_same _ _ (sym h.clients ∙ k.clients) in
    let of : ℕ → ℕ → ℕ → Show = λ seed votes clients. record { seed = seed; votes = votes; clients = clients } in
    let first : of show.seed show.votes ≡ of other.seed other.votes = ap₂ of seed votes in
    ap₂ (λ (f : ℕ → Show) (n : ℕ). f n) first clients

-- the words of an audit and of a show begin with other letters
abbrev first_byte : List ℕ → ℕ
first_byte [] = 0
first_byte (byte ∷ bytes) = byte

pub audit_is_no_show : codes "audit" ≡ codes "voter" → ⊥
audit_is_no_show e = let wrong : true ≡ false = ap (λ (bytes : List ℕ). first_byte bytes == 97) e in true≢false wrong

-- commands with one word, made from the same options, are one
same_command : (a b : Command) (options : List Asked) → command_word a ≡ command_word b → IsMadeFrom a options → IsMadeFrom b options → a ≡ b
same_command Run Run options e h k = refl
same_command Run Recover options e h k = absurd cc
same_command Run Audit options e h k = absurd cc
same_command Run (Voter other) options e h k = absurd cc
same_command Recover Run options e h k = absurd cc
same_command Recover Recover options e h k = refl
same_command Recover Audit options e h k = absurd cc
same_command Recover (Voter other) options e h k = absurd cc
same_command Audit Run options e h k = absurd cc
same_command Audit Recover options e h k = absurd cc
same_command Audit Audit options e h k = refl
same_command Audit (Voter other) options e h k = absurd (audit_is_no_show e)
same_command (Voter show) Run options e h k = absurd cc
same_command (Voter show) Recover options e h k = absurd cc
same_command (Voter show) Audit options e h k = absurd (audit_is_no_show (sym e))
same_command (Voter show) (Voter other) options e h k = ap (λ (s : Show). Voter s) (same_show show other options h k)

pub asks_for_one : (words : List (List ℕ)) (line other : CommandLine) → AsksFor words line → AsksFor words other → line ≡ other
asks_for_one words line other h k =
    let both : command_word other.command ∷ k.rest ≡ command_word line.command ∷ h.rest = sym k.begins ∙ h.begins in
    let behind : k.rest ≡ h.rest = cc in
    let first : command_word line.command ≡ command_word other.command = cc in
    let same = one_spelling h.rest k.asks.options h.asks.options (subst (λ w. AreOptions w k.asks.options) behind k.asks.are.are).spelled h.asks.are.are.spelled in
    let partitions : line.options.partitions ≡ other.options.partitions = h.asks.partitions ∙ ap partitions_asked (sym same) ∙ sym k.asks.partitions in
    let mode : line.options.mode ≡ other.options.mode = h.asks.mode ∙ ap mode_asked (sym same) ∙ sym k.asks.mode in
    let every : line.options.every ≡ other.options.every = h.asks.every ∙ ap (number_asked Checkpoint) (sym same) ∙ sym k.asks.every in
    let restarts : line.options.restarts ≡ other.options.restarts = h.asks.restarts ∙ ap restarts_asked (sym same) ∙ sym k.asks.restarts in
    let command = same_command line.command other.command h.asks.options first h.asks.show (subst (IsMadeFrom other.command) same k.asks.show) in
    let of : Command → ℕ → Mode → Option ℕ → ℕ → CommandLine = λ c n m o r. record { command = c; options = record { partitions = n; mode = m; every = o; restarts = r } } in
    let two : of line.command line.options.partitions ≡ of other.command other.options.partitions = ap₂ of command partitions in
    let three : of line.command line.options.partitions line.options.mode ≡ of other.command other.options.partitions other.options.mode = ap₂ (λ (f : Mode → Option ℕ → ℕ → CommandLine) (m : Mode). f m) two mode in
    let four : of line.command line.options.partitions line.options.mode line.options.every ≡ of other.command other.options.partitions other.options.mode other.options.every = ap₂ (λ (f : Option ℕ → ℕ → CommandLine) (o : Option ℕ). f o) three every in
    ap₂ (λ (f : ℕ → CommandLine) (r : ℕ). f r) four restarts

-- ---- within its ranges

abbrev IsWithin : ℕ → ℕ → ℕ → Type 0
IsWithin least most n = (least ≤ n) × (n ≤ most)

within : (least most : ℕ) (value : List ℕ) → is_number_within least most value ≡ true → IsWithin least most (digits_value 10 value)
within least most value e =
    let ends = and_parts _ _ e in
    (leb-true least (digits_value 10 value) (and_parts _ _ ends.0).1, leb-true (digits_value 10 value) most ends.1)

-- an option more is two lines here
fits_too : (name other : OptionName) (value : List ℕ) → is_named name (asked other value) ≡ true → fits other value ≡ true → fits name value ≡ true
fits_too Partitions Partitions value e fit = fit
fits_too Partitions other value e fit = absurd cc
fits_too Recovery Recovery value e fit = fit
fits_too Recovery other value e fit = absurd cc
fits_too Seed Seed value e fit = fit
fits_too Seed other value e fit = absurd cc
fits_too Votes Votes value e fit = fit
fits_too Votes other value e fit = absurd cc
fits_too Clients Clients value e fit = fit
fits_too Clients other value e fit = absurd cc
fits_too Checkpoint Checkpoint value e fit = fit
fits_too Checkpoint other value e fit = absurd cc
fits_too Restarts Restarts value e fit = fit
fits_too Restarts other value e fit = absurd cc

-- the number of an option, where each fits
number_fits : (name : OptionName) (least most : ℕ) → ((value : List ℕ) → fits name value ≡ true → is_number_within least most value ≡ true)
    → (options : List Asked) → AllByRecursion (λ option. fits option.name option.value ≡ true) options → (n : ℕ) → number_asked name options ≡ Some n → IsWithin least most n
number_fits name least most range [] fit n e = absurd cc
number_fits name least most range (option ∷ others) fit n e = by (is_named name option) refl (number_fits name least most range others fit.1 n) e
  where
    by : (b : Bool) → is_named name option ≡ b → (number_asked name others ≡ Some n → IsWithin least most n)
        → cond b (Some (digits_value 10 option.value)) (number_asked name others) ≡ Some n → IsWithin least most n
    by true is later e = subst (IsWithin least most) (some_same _ _ e) (within least most option.value (range option.value (fits_too name option.name option.value is fit.0)))
    by false is later e = later e

-- the number, or what stands for none
or_else : (least most other : ℕ) → IsWithin least most other → (o : Option ℕ) → ((n : ℕ) → o ≡ Some n → IsWithin least most n) → IsWithin least most (unwrap_or o other)
or_else least most other within None h = within
or_else least most other within (Some n) h = h n refl

pub partitions_are_few : (words : List (List ℕ)) (line : CommandLine) → AsksFor words line → (1 ≤ line.options.partitions) × (line.options.partitions ≤ 8)
partitions_are_few words line h =
    subst (IsWithin 1 8) (sym h.asks.partitions) (or_else 1 8 1 (omega arith, omega arith) (number_asked Partitions h.asks.options) (number_fits Partitions 1 8 (λ value fit. fit) h.asks.options h.asks.are.are.fit))

pub every_is_within : (words : List (List ℕ)) (line : CommandLine) → AsksFor words line → (k : ℕ) → line.options.every ≡ Some k → (1 ≤ k) × (k ≤ 1000000)
every_is_within words line h k is = number_fits Checkpoint 1 1000000 (λ value fit. fit) h.asks.options h.asks.are.are.fit k (sym h.asks.every ∙ is)

pub restarts_are_few : (words : List (List ℕ)) (line : CommandLine) → AsksFor words line → line.options.restarts ≤ 16
restarts_are_few words line h =
    let few = or_else 0 16 0 (omega arith, omega arith) (number_asked Restarts h.asks.options) (number_fits Restarts 0 16 (λ value fit. fit) h.asks.options h.asks.are.are.fit) in
    (subst (IsWithin 0 16) (sym h.asks.restarts) few).1

-- a run over restarts is strong
pub restarts_are_strong : (words : List (List ℕ)) (line : CommandLine) → AsksFor words line → GoTogether line.options.restarts line.options.mode
restarts_are_strong words line h = by h.asks.are.go_together
  where
    by : GoTogether (restarts_asked h.asks.options) (mode_asked h.asks.options) → GoTogether line.options.restarts line.options.mode
    by (inl none) = inl (h.asks.restarts ∙ none)
    by (inr strong) = inr (h.asks.mode ∙ strong)

pub show_is_small : (words : List (List ℕ)) (line : CommandLine) (show : Show) → line.command ≡ Voter show → AsksFor words line
    → (show.seed ≤ 9999999) × (1 ≤ show.votes) × (show.votes ≤ 200000) × (1 ≤ show.clients) × (show.clients ≤ 8)
show_is_small words line show is h =
    let made : IsShowAsked h.asks.options show = subst (λ (c : Command). IsMadeFrom c h.asks.options) is h.asks.show in
    let fit = h.asks.are.are.fit in
    let seed = number_fits Seed 0 9999999 (λ value fit. fit) h.asks.options fit show.seed made.seed in
    let votes = number_fits Votes 1 200000 (λ value fit. fit) h.asks.options fit show.votes made.votes in
    let clients = number_fits Clients 1 8 (λ value fit. fit) h.asks.options fit show.clients made.clients in
    (seed.1, votes.0, votes.1, clients.0, clients.1)
