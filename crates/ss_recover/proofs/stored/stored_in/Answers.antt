use Rattle.std.proofs.Common.{◌≡◌, ◌+◌, ℕ, List, Option, length, subst, sym}
use Rattle.ss_cmdlog.specs.declared.open.Loaded.{Loaded}
use Rattle.ss_model.specs.declared.catalog.Catalog.{Catalog}
use Rattle.ss_replay.specs.declared.entries.Replayed.{Replayed}
use Rattle.ss_recover.specs.Loading.{IsStored, stored_as}
use Rattle.ss_recover.proofs.stored.stored_in.Goals as goal

-- the same of an image and a length that were told
stored_so : (loaded : Loaded) (given : Option Catalog) (parts : ℕ) (catalog : Catalog) (r : Replayed) (image : List ℕ) (n : ℕ) → image ≡ loaded.image → n ≡ length r.list
    → IsStored loaded given parts (stored_as catalog loaded r)
    → IsStored loaded given parts (record { database = r.database; catalog = catalog; first = loaded.first + n; known = r.list; bodies = loaded.bodies; image = image })
stored_so loaded given parts catalog r image n is long stored =
    subst (λ (i : List ℕ). IsStored loaded given parts (record { database = r.database; catalog = catalog; first = loaded.first + n; known = r.list; bodies = loaded.bodies; image = i })) (sym is)
    (subst (λ (m : ℕ). IsStored loaded given parts (record { database = r.database; catalog = catalog; first = loaded.first + m; known = r.list; bodies = loaded.bodies; image = loaded.image })) (sym long) stored)

pub returns-in-Ok-clause-ok : goal.returns-in-Ok-clause-ok
returns-in-Ok-clause-ok g c =
    stored_so c.args.loaded c.args.given.now c.args.partitions c.in_ok-catalog.catalog _ _ c.len.result c.in-Ok.ensures.image c.len.ensures
    (c.in-Ok.ensures.ok c.args.partitions c.args.given.now c.in_ok-catalog.ensures.is_whole.0 c.in_ok-catalog.ensures.given)
