-- A catalogue that changed in its bodies to be installed alone was read still, and goes on with them.
use Rattle.std.proofs.Common.{◌≡◌, [], sym, subst}
use Rattle.ss_model.specs.declared.catalog.Catalog.{Catalog}
use Rattle.ss_model.specs.AcceptedBodies.{OtherBodies}
use Rattle.ss_model.specs.SparesAside.{with_spares, GoesOnWith}
use Rattle.ss_catalog.proofs.CallerLemmas.{goes_on_same, goes_on_stand}
use Rattle.ss_nest.specs.Reads.{ReadsNested, WasNested}

-- the same catalogue goes on
pub same_goes_on : (old new : Catalog) → OtherBodies old → new ≡ old → GoesOnWith old new.spares
same_goes_on old new all same = subst (λ (c : Catalog). GoesOnWith old c.spares) (sym same) (goes_on_same old all)

-- what it goes on with stands in it
pub others_stand : (old new : Catalog) → new ≡ with_spares old new.spares → GoesOnWith old new.spares → OtherBodies new
others_stand old new same h = subst OtherBodies (sym same) (goes_on_stand old new.spares h)

-- it was read
pub was_read_still : (old new : Catalog) → WasNested old → new ≡ with_spares old new.spares → WasNested new
was_read_still old new h same = (h.0, subst (λ (c : Catalog). ReadsNested h.0 (with_spares c [])) (sym same) h.1)
