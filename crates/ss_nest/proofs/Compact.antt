-- The text of a value that is read with its nests is its compact text, since it has no float.
use Rattle.std.proofs.Common.{◌≡◌, ℕ, List, [], ◌∷◌, false, Ok}
use Rattle.std.specs.Prelude.{codes}
use Rattle.serde_json.specs.Data.{Data}
use Rattle.serde_json.specs.Written.{has_float}
use Rattle.ss_catalog_json.specs.declared.json_readers.ItemCount.TheVariants.{Any}
use Rattle.ss_catalog_json.specs.Readings.{read_word, read_name, read_array_of}
use Rattle.ss_catalog_laws.proofs.CallerLemmas.{of_read, where_holds}
use Rattle.ss_model.specs.declared.catalog.Catalog.{Catalog}
use Rattle.ss_catalog.specs.Reads.{Reads}
use Rattle.ss_catalog.proofs.CallerLemmas.{IsInOrder, HasNoFloat, HasNoneAt, ReadsNoFloat, array_none, key_or_none, name_none, outline_has_no_float, read_in_order, resolved_of, then_key, then_object, word_none}
use Rattle.serde_json.specs.Find.{as_array}
use Rattle.ss_nest.specs.declared.outline.NestOutline.{NestOutline}
use Rattle.ss_nest.specs.Outlines.{nests_key, plain_value, is_several, read_members, read_nest, read_nests}
use Rattle.ss_nest.proofs.Values.{floatless}

members_none : ReadsNoFloat read_members
members_none d so = where_holds (λ (x : List (List ℕ)). HasNoFloat d) (is_several (as_array d)) (read_array_of Any read_word d) (λ many. array_none read_word word_none Any d so)

nest_none : ReadsNoFloat read_nest
nest_none d so =
    then_object d so (codes "name" ∷ codes "procedures" ∷ []) _ (λ u whole.
    then_key d so (codes "name") read_name name_none _ (λ name a.
    then_key d so (codes "procedures") read_members members_none _ (λ procedures b. whole (a, (b, tt)))))

-- what is at the key of the nests has none
section_none : (d : Data) (os : List NestOutline) → IsInOrder d → read_nests d ≡ Ok os → HasNoneAt d nests_key
section_none d os so is =
    of_read (λ (x : List NestOutline). HasNoneAt d nests_key) (read_nests d) (key_or_none (read_array_of Any read_nest) (array_none read_nest nest_none Any) nests_key d so []) os is

pub nested_floatless : (d : Data) (c : Catalog) (os : List NestOutline) → IsInOrder d → Reads (plain_value d) c → read_nests d ≡ Ok os → has_float d ≡ false
nested_floatless d c os so reads is =
    let resolved = resolved_of (plain_value d) reads.outline c reads.passes in
    floatless nests_key d (outline_has_no_float (plain_value d) reads.outline (read_in_order c.text (plain_value d) reads.reads_back) resolved.0.0.0.0) (section_none d os so is)
