-- What an install comes to on each database that a shard stands for.
use Rattle.std.proofs.Common.{◌≡◌, ◌∙◌, ◌&&◌, nat_lt, nat_le, ℕ, true, List, [], set, length, slice_get, ap, sym, subst, Some}
use Rattle.ss_lemmas.proofs.Bools.{second_of_two}
use Rattle.ss_model.specs.declared.catalog.Catalog.{Catalog}
use Rattle.ss_model.specs.declared.entry.Entry.TheVariants.{Install}
use Rattle.ss_model.specs.declared.entry.Outcome.TheVariants.{Done}
use Rattle.ss_model.specs.Database.{Database, Applied, apply, has_body, takes_bodies, install_fits, only_when}
use Rattle.ss_shard.specs.Bodies.{texts_of, with_coming}
use Rattle.ss_shard.specs.ShardValue.{ShardValue}
use Rattle.ss_shard.specs.Shards.{CanRollBack, IsCommitted, IsOf}
use Rattle.ss_shard.specs.Sources.{SameNumbers}
use Rattle.ss_shard.specs.Windows.{Holds, HoldsDatabase}
use Rattle.ss_shard.proofs.CallerLemmas.{starts_here, texts_with}
use Rattle.ss_proc.specs.declared.runner.Executed.{Executed}
use Rattle.ss_proc.specs.Entries.{Installs, Ran}

-- an install that fits has the text of a body that its procedure may have
pub install_has : (catalog : Catalog) (client n : ℕ) (text : List ℕ) → install_fits catalog client n text ≡ true → has_body catalog n text ≡ true
install_has catalog client n text fits = second_of_two (nat_lt client 8 && takes_bodies (slice_get catalog.procedures n) && nat_le (length text) 1048576) _ fits

module _ (catalog : Catalog) (old new : ShardValue) where
  module _ (n : ℕ) (text : List ℕ) (installs : Installs catalog n text old new) where
    -- the shard is still one of the catalogue
    pub install_of : IsOf catalog old → IsOf catalog new
    install_of is = subst (λ (s : ShardValue). IsOf catalog s) (sym installs.noted)
        (record {
          tables = is.tables;
          indexes = is.indexes;
          windows = is.windows;
          cursors = is.cursors;
          sources = is.sources;
          bodies = is.bodies;
          coming = installs.steps_are;
        })

    -- and can be rolled back to what it was
    pub install_back : IsCommitted catalog old → CanRollBack old new
    install_back committed =
        let can = starts_here catalog old committed in
        subst (λ (s : ShardValue). CanRollBack old s) (sym installs.noted)
        (record {
          number = can.number;
          columns = can.columns;
          cursors = can.cursors;
          sources = can.sources;
          bodies = can.bodies;
          none_coming = can.none_coming;
          final = can.final;
          came = can.came;
          committed = can.committed;
          staged = can.staged;
        })

  module _ (db : Database) (holds : HoldsDatabase catalog old db) (client index n : ℕ) (text : List ℕ) (fits : install_fits catalog client n text ≡ true) (installs : Installs catalog n text old new) where
    abbrev installed : Applied
    installed = record { db = record db { bodies = set db.bodies n text }; outcome = Done []; emitted = [] }

    install_value : apply catalog db (Install client index n text) ≡ Some installed
    unfolding apply
    install_value = ap (λ b. only_when b (Some installed)) fits

    bodies_so : texts_of catalog (with_coming new.coming new.bodies) ≡ set db.bodies n text
    bodies_so =
        ap (λ (s : ShardValue). texts_of catalog (with_coming s.coming s.bodies)) installs.noted
        ∙ texts_with catalog old.bodies n installs.number
        ∙ (λ i. set (holds.bodies i) n (installs.text_is i))

    pub install_ran : (e : Executed) → e.outcome ≡ Done [] → e.emitted ≡ [] → Ran catalog db (Install client index n text) e new
    install_ran e folds none = record {
      applied = installed;
      value = install_value;
      outcome = folds;
      emitted = none;
      leaves = subst (λ (s : ShardValue). Holds catalog s db.contents) (sym installs.noted) (record { tables = holds.contents.tables; windows = holds.contents.windows });
      counts = ap (λ (s : ShardValue). s.cursors) installs.noted ∙ holds.counts;
      numbers = subst (λ (s : ShardValue). SameNumbers db.next_numbers s.sources) (sym installs.noted) holds.numbers;
      bodies = bodies_so;
    }
