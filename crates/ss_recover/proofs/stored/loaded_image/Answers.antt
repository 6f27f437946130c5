use Rattle.std.proofs.Common.{ℕ, List, inl, subst}
use Rattle.ss_cmdlog.specs.declared.open.Loaded.{Loaded}
use Rattle.ss_snapshot.specs.Images.{IsReadAs}
use Rattle.ss_recover.specs.declared.stored.StoredError.{StoredError}
use Rattle.ss_recover.specs.declared.stored.StoredError.TheVariants.{NoMemory, Foreign}
use Rattle.ss_recover.specs.Loading.{RefusesImage, RefusesLoaded}
use Rattle.ss_recover.proofs.stored.loaded_image.Goals as goal

-- what refuses the image refuses all that was loaded
image_refused : (loaded : Loaded) (e : StoredError) → RefusesImage loaded.bodies loaded.first loaded.image e → RefusesLoaded loaded e
image_refused loaded NoMemory refuses = tt
image_refused loaded (Foreign at) odd = inl odd

pub returns-in-Ok-clause-image : goal.returns-in-Ok-clause-image
returns-in-Ok-clause-image c = subst (λ (bytes : List ℕ). IsReadAs c.args.loaded.now.bodies bytes c.args.loaded.now.first c.in-Ok.read) c.as_slice.ensures c.in-Ok.ensures.image

pub returns-in-Err-clause-refused : goal.returns-in-Err-clause-refused
returns-in-Err-clause-refused c =
    image_refused c.args.loaded.now c.in-Err.refused (subst (λ (bytes : List ℕ). RefusesImage c.args.loaded.now.bodies c.args.loaded.now.first bytes c.in-Err.refused) c.as_slice.ensures c.in-Err.ensures.refused)
