-- The numbers that the next pushes of sources have to carry.
use Rattle.std.specs.Prelude.{◌≡◌, ◌==◌, ℕ, nat_le, nat_lt, cond, List, [], get_or, set, length, unwrap_or, IsSome, IsTrue}
use Rattle.std.specs.Borrow.{Bor}
use Rattle.std.specs.Coded.{Coded, coded_list, coded_ℕ}
use Rattle.std.specs.FinMap as finite
use Rattle.ss_value.specs.Words.{is_name}
use Rattle.ss_model.specs.declared.entry.Outcome.{Outcome}
use Rattle.ss_model.specs.declared.entry.Outcome.TheVariants.{Done, Duplicate, Gap}
use Rattle.ss_model.specs.Database.{NextNumbers}

-- how next numbers are told apart
abbrev pub coded_numbers : Coded NextNumbers
coded_numbers = finite.code (coded_list coded_ℕ) coded_ℕ

-- the number that the next push of a source has to carry: 0 where it has no entry
abbrev pub number_of : NextNumbers → List ℕ → ℕ
number_of numbers source = unwrap_or (finite.get numbers source) 0

-- the next numbers of a stream
abbrev pub numbers_at : List NextNumbers → ℕ → NextNumbers
numbers_at sources s = get_or sources s finite.empty

-- the next number of a source of a stream
abbrev pub number_in : List NextNumbers → ℕ → List ℕ → ℕ
number_in sources s source = number_of (numbers_at sources s) source

-- a source of a stream has an entry, whatever its number
abbrev pub HasSource : List NextNumbers → ℕ → List ℕ → Type 0
HasSource sources s source = IsSome (finite.get (numbers_at sources s) source)

-- each source that has an entry is a name
abbrev pub AreNames : NextNumbers → Type 0
AreNames numbers = (source : List ℕ) → IsSome (finite.get numbers source) → IsTrue (is_name source)

-- and so is each source of each stream
abbrev pub AllAreNames : List NextNumbers → Type 0
AllAreNames sources = (s : ℕ) → AreNames (numbers_at sources s)

-- as many streams, and the same next number for each source; an entry with the number 0 counts as none
pub record SameNumbers (old new : List NextNumbers) : Type 0 where
  pub streams : length new ≡ length old
  pub numbers : (s : ℕ) (source : List ℕ) → number_in new s source ≡ number_in old s source

-- the next numbers, with this one for a source of a stream
abbrev pub with_number : List NextNumbers → ℕ → List ℕ → ℕ → List NextNumbers
with_number sources s source n = set sources s (finite.insert (numbers_at sources s) source n)

-- the sources with a next number of at least 1: another counts as none
abbrev pub positive : NextNumbers → NextNumbers
positive m = finite.retain_keys m (λ source. nat_le 1 (number_of m source))

-- the bytes of a name that is lent, with the number beside it
abbrev pub lent_source : Bor (List ℕ) × ℕ → List ℕ × ℕ
lent_source e = (e.0.now, e.1)

-- what a push of the number `seq` comes to where `next` is next: done, a duplicate, or behind a gap
abbrev pub push_outcome : ℕ → ℕ → Outcome
push_outcome seq next = cond (seq == next) (Done []) (cond (nat_lt seq next) (Duplicate next) (Gap next))
