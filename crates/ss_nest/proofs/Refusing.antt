-- What is told of the section of nests and of its names are the refusals of the value.
use Rattle.std.proofs.Common.{◌≡◌, List, subst}
use Rattle.std.specs.Prelude.{Result, Ok, Err, IfOk, IfErr}
use Rattle.serde_json.specs.Data.{Data}
use Rattle.ss_catalog_json.specs.declared.read_error.ReadError.{ReadError}
use Rattle.ss_catalog_json.specs.Readings.{FaultsAs}
use Rattle.ss_model.specs.declared.catalog.Catalog.{Catalog}
use Rattle.ss_nest.specs.declared.error.NestError.{NestError}
use Rattle.ss_nest.specs.declared.error.NestError.TheVariants.{NoMemory, Catalog as PlainError, Shape, Unknown, Twice, NotClosed, Touch, Window}
use Rattle.ss_nest.specs.declared.outline.NestOutline.{NestOutline}
use Rattle.ss_nest.specs.Outlines.{read_nests}
use Rattle.ss_nest.specs.Members.{nests_of}
use Rattle.ss_nest.specs.Told.{IsReadOf, ShapeAs, UnknownAs}
use Rattle.ss_nest.specs.Reads.{IsReadPlain, IsNestShaped, RefusesNested}

-- what was read
pub is_read_of : (d : Data) (read : Result (List NestOutline) ReadError) → IfOk read (λ os. read_nests d ≡ Ok os) → IfErr read (FaultsAs (read_nests d)) → IsReadOf d read
is_read_of d (Ok os) ok err = ok
is_read_of d (Err e) ok err = err

-- a fault in the section
pub shape_refuses : (d : Data) (c : Catalog) (read : Result (List NestOutline) ReadError) (e : NestError) → IsReadPlain d c → IsReadOf d read → ShapeAs read e → RefusesNested d e
shape_refuses d c read NoMemory plainly was h = tt
shape_refuses d c read (Shape path) plainly was h = (c, h.0, plainly, subst (IsReadOf d) h.1 was, h.2)
shape_refuses d c read (PlainError x) plainly was h = absurd h
shape_refuses d c read (Unknown name) plainly was h = absurd h
shape_refuses d c read (Twice name) plainly was h = absurd h
shape_refuses d c read (NotClosed name) plainly was h = absurd h
shape_refuses d c read (Touch name) plainly was h = absurd h
shape_refuses d c read (Window name) plainly was h = absurd h

-- a name that is not known
pub unknown_refuses : (d : Data) (c : Catalog) (os : List NestOutline) (e : NestError) → IsNestShaped d c os → UnknownAs (nests_of c os) e → RefusesNested d e
unknown_refuses d c os NoMemory shaped h = tt
unknown_refuses d c os (Unknown name) shaped h = (c, os, shaped, h)
unknown_refuses d c os (PlainError x) shaped h = absurd h
unknown_refuses d c os (Shape path) shaped h = absurd h
unknown_refuses d c os (Twice name) shaped h = absurd h
unknown_refuses d c os (NotClosed name) shaped h = absurd h
unknown_refuses d c os (Touch name) shaped h = absurd h
unknown_refuses d c os (Window name) shaped h = absurd h
