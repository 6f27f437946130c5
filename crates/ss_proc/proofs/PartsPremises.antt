-- The law of executions on parts at a shard that meets its premises: of two partitions it holds that of a push.
use Rattle.std.proofs.Common.{◌≡◌, ℕ, pos, codes, true, List, [], ◌∷◌, refl, sym, ap, subst, arith, None}
use Rattle.std.specs.Prelude.{unwrap_or}
use Rattle.std.specs.FinMap as finite
use Rattle.std.specs.FinMap.{get-empty}
use Rattle.std.specs.Ordering.{nat_cmp}
use Rattle.std.specs.Cmp.Lexicographic.{slice_cmp}
use Rattle.ss_value.specs.declared.value.Value.TheVariants.{Int}
use Rattle.ss_value.specs.Rows.{Rows}
use Rattle.ss_model.specs.declared.entry.Entry.{Entry}
use Rattle.ss_model.specs.declared.entry.Entry.TheVariants.{Push}
use Rattle.ss_model.specs.declared.entry.Outcome.TheVariants.{Done}
use Rattle.ss_model.specs.Contents.{Table}
use Rattle.ss_model.specs.Database.{Database, empty_database}
use Rattle.ss_model.specs.parts.HeldParts.{HoldsTouched, RunsBesideBlanks}
use Rattle.ss_model.proofs.CallerLemmas.{sliding_seen, accepted, get_cut, same_table}
use Rattle.ss_lemmas.proofs.Numbers.{eqb_is}
use Rattle.ss_shard.specs.ShardValue.{ShardValue}
use Rattle.ss_shard.specs.Databases.{empty_tables, empty_windows}
use Rattle.ss_shard.specs.Parts.{is_among, HoldsParts}
use Rattle.ss_shard.specs.Sources.{push_outcome}
use Rattle.ss_shard.specs.Windows.{own_database}
use Rattle.ss_proc.specs.declared.runner.Executed.{Executed}
use Rattle.ss_proc.specs.Entries.{RanOnEach}
use Rattle.ss_proc.specs.Parts.{RanBeside}
use Rattle.ss_proc.proofs.OnParts.{ran_on_parts}
use Rattle.ss_proc.proofs.Pushing.{push_ran}

-- partition 0, of two
abbrev held : List ℕ
held = 0 ∷ []

-- nothing has run there
abbrev shard : ShardValue
shard = record {
  number = 0;
  tables = empty_tables 2 0 sliding_seen.tables;
  changes = [];
  columns = [] ∷ [];
  windows = empty_windows sliding_seen.windows;
  cursors = 0 ∷ 0 ∷ [];
  sources = finite.empty ∷ [];
  bodies = 0 ∷ 0 ∷ [];
  coming = None;
}

abbrev before : Database
before = own_database shard (empty_database sliding_seen)

all_rows : (m : Table) → m ≡ finite.retain_keys m (λ key. true)
all_rows m = same_table m (finite.retain_keys m (λ key. true)) (λ key. sym (get_cut m (λ key. true) key))

holds : HoldsParts sliding_seen 2 held shard before
holds = record {
  contents = record { tables = ap (λ m. m ∷ []) (all_rows _); windows = refl };
  counts = refl;
  numbers = record { streams = refl; numbers = λ s source. refl };
  bodies = refl;
}

abbrev batch : Rows
batch = (Int (pos 7) ∷ []) ∷ []

abbrev first_push : Entry
first_push = Push 0 0 0 (codes "a") 0 batch

-- its partition is held
touched : HoldsTouched sliding_seen 2 (is_among held) first_push
touched p t = subst (λ q. is_among held q ≡ true) (sym (eqb_is p 0 t)) refl

abbrev executed : Executed
executed = record { outcome = Done []; emitted = record { stream = 0; rows = batch } ∷ [] }

is_first : Done [] ≡ push_outcome 0 (unwrap_or (finite.get (finite.empty {R = slice_cmp nat_cmp}) (codes "a")) 0)
is_first = ap (λ o. push_outcome 0 (unwrap_or o 0)) (sym (get-empty (slice_cmp nat_cmp) (codes "a")))

-- it is accepted on each database that the shard stands for
ran : RanOnEach sliding_seen shard shard first_push [] executed
ran db stands hand = push_ran sliding_seen shard shard db stands 0 0 0 (codes "a") 0 batch refl (record { streams = refl; numbers = λ s source. refl }) refl refl executed is_first refl

-- and so on each of which the shard holds the part
beside : RunsBesideBlanks → RanBeside sliding_seen 2 held before first_push executed shard
beside law = ran_on_parts law sliding_seen accepted 2 (omega arith) held shard shard first_push [] executed ran touched before holds refl
