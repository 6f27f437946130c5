-- What a log holds of a list, where the list goes on.
use Rattle.std.proofs.Common.{◌≡◌, ℕ, ◌+◌, ◌-◌, ◌≤◌, List, ◌++◌, length, take, Option, sym, subst, arith, length-append}
use Rattle.std.proofs.lemmas.List.{take-append-le}
use Rattle.ss_model.specs.declared.catalog.Catalog.{Catalog}
use Rattle.ss_model.specs.declared.entry.Listed.{Listed}
use Rattle.ss_model.specs.Recovery.{Recovery}
use Rattle.ss_model.specs.Database.{Database}
use Rattle.ss_disk.specs.Kinds.{DiskKind}
use Rattle.ss_cmdlog.specs.Logged.{logged}
use Rattle.ss_cmdlog.specs.Store.{entries_of}
use Rattle.ss_standing.specs.Ends.{EndAs}
use Rattle.ss_standing.specs.Standing.{listed_entries}
use Rattle.ss_fronts.specs.Fronts.{FrontStands, mode_of}
use Rattle.ss_fronts.specs.Laws.{FrontsGrow}
use Rattle.ss_receipts.specs.Laws.{HoldsGoOn}
use Rattle.ss_receipts.proofs.Since.{since_less}

module _ {D : Type 0} (recovery : Recovery) (every : Option ℕ) (catalog : Catalog) (db : Database) (first opened before : ℕ) (past : ℕ → List (List ℕ) → Type 0) (kind : DiskKind D) (grow : FrontsGrow) where
  -- where more is in the list, the front is the same
  front_same : (list more : List Listed) (count : ℕ) → count ≤ first + length list → take (count - first) (list ++ more) ≡ take (count - first) list
  front_same list more count within = take-append-le (count - first) list more (omega (arith, within))

  pub holds_on : HoldsGoOn D recovery every catalog db first opened before past kind
  holds_on list more log count fault h =
      let grows = grow recovery catalog db first list more in
      record {
        began = h.began;
        begun = h.begun;
        within = omega (arith, h.within, length-append list more);
        counted = h.counted;
        later = h.later;
        halt = h.halt;
        going = λ none.
            let goes = h.going none in record {
              generation = goes.generation;
              formed = goes.formed;
              opened_at = goes.opened_at;
              held = λ told. grows.generations (count - first) goes.generation (goes.held told);
              ends = λ told. subst (λ (l : List Listed). EndAs every (entries_of goes.generation) (logged (mode_of recovery) (listed_entries l))) (sym (front_same list more count h.within)) (goes.ends told);
            };
        crashes = λ honestly. since_less kind.moment kind.images opened past log.disk (FrontStands recovery catalog db first list first) (FrontStands recovery catalog db first (list ++ more) first) (h.crashes honestly) (grows.fronts first);
        receipt = λ honestly image left. grows.fronts count image (h.receipt honestly image left);
        -- what all of a moment has of the longer list it has of the list, since it is a front of that
        stands_on = λ honestly n t u a b c each image left.
            grows.at_least n image
            (h.stands_on honestly n t u a b c
            (λ i l. grows.no_more n i ((h.crashes honestly).each t i a (omega (arith, b, c)) l) (each i l))
            image left);
      }
