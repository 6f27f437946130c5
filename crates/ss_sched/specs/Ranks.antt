-- The ranks of procedures as a table.
use Rattle.std.specs.Prelude.{◌≡◌, ◌<◌, ◌≤◌, ℕ, suc, max, cond, List, length, get_or}
use Rattle.std.specs.List.{fold}
use Rattle.ss_model.specs.declared.catalog.Catalog.{Catalog}
use Rattle.ss_model.specs.declared.catalog.Procedure.{Procedure}
use Rattle.ss_model.specs.Database.{is_border}
use Rattle.ss_model.specs.Settling.{rank, rank_from, emitting_procedure}

-- these are the ranks of the catalogue's procedures, by number
abbrev pub AreRanks : Catalog → List ℕ → Type 0
AreRanks catalog ranks = (q : ℕ) → q < length catalog.procedures → get_or ranks q 0 ≡ rank catalog q

-- these are the emitters of the catalogue's streams, by number
abbrev pub AreEmitters : Catalog → List ℕ → Type 0
AreEmitters catalog emitters = (s : ℕ) → s < length catalog.streams → get_or emitters s 0 ≡ emitting_procedure catalog s

-- the greatest rank of the emitters of these streams, and 0 where there is no stream
abbrev pub greatest_rank : List ℕ → List ℕ → List ℕ → ℕ
greatest_rank ranks emitters inputs = fold (λ most s. max most (get_or ranks (get_or emitters s 0) 0)) 0 inputs

-- the rank of a procedure from those of the emitters of its inputs
abbrev pub rank_by : List ℕ → List ℕ → Procedure → ℕ
rank_by ranks emitters q = cond (is_border q.kind) 0 (suc (greatest_rank ranks emitters q.inputs))

-- these are the ranks where paths from the border are counted up to this depth
pub record AreCounted (catalog : Catalog) (depth : ℕ) (ranks : List ℕ) : Type 0 where
  pub ranks_are : (q : ℕ) → q < length catalog.procedures → get_or ranks q 0 ≡ rank_from depth catalog q
  pub small : (q : ℕ) → get_or ranks q 0 ≤ depth
