-- A list, one entry further.
use Rattle.std.proofs.Common.{◌≡◌, ℕ, ◌+◌, ◌<◌, List, [], ◌∷◌, ◌++◌, length, take, get_or, sym, ap, ◌∙◌}
use Rattle.std.proofs.lemmas.List.{take_more}
use Rattle.ss_model.specs.declared.catalog.Catalog.{Catalog}
use Rattle.ss_model.specs.declared.entry.Listed.{Listed}
use Rattle.ss_model.specs.Database.{Database}
use Rattle.ss_model.specs.Replays.{after, database_after}
use Rattle.ss_model.proofs.CallerLemmas.{goes_on}

pub after_more : (catalog : Catalog) (db : Database) (list : List Listed) (i : ℕ) (l : Listed) → i < length list → l ≡ get_or list i l → after catalog db (take (i + 1) list) ≡ database_after catalog (after catalog db (take i list)) l.entry
after_more catalog db list i l within is =
    ap (after catalog db) (take_more list i l within ∙ ap (λ x. take i list ++ x ∷ []) (sym is)) ∙ (goes_on catalog db (take i list) (l ∷ [])).ends
