-- A value without the key of the nests reads as it reads plainly, and is refused so.
use Rattle.std.proofs.Common.{◌≡◌, ◌∙◌, List, [], Option, Some, None, false, refl, sym, ap, subst}
use Rattle.std.specs.Prelude.{Ok, is_some}
use Rattle.serde_json.specs.Data.{Data}
use Rattle.serde_json.specs.Find.{get}
use Rattle.serde_json.specs.Written.{compact_text}
use Rattle.ss_model.specs.declared.catalog.Catalog.{Catalog}
use Rattle.ss_model.specs.declared.catalog.Nest.{Nest}
use Rattle.ss_catalog_json.specs.declared.json_readers.ItemCount.TheVariants.{Any}
use Rattle.ss_catalog_json.specs.Readings.{read_or, read_array_of}
use Rattle.ss_catalog.specs.declared.error.CatalogError.{CatalogError}
use Rattle.ss_catalog.specs.declared.error.CatalogError.TheVariants.{NoMemory}
use Rattle.ss_catalog.specs.Reads.{Reads, Refuses}
use Rattle.ss_catalog.proofs.CallerLemmas.{ok_same}
use Rattle.ss_nest.specs.Members.{nests_of}
use Rattle.ss_nest.specs.Outlines.{nests_key, plain_value, read_nest, read_nests}
use Rattle.ss_nest.specs.Reads.{HasKnownMembers, IsReadPlain, ReadsNested, RefusesPlain}
use Rattle.ss_nest.proofs.NoNests.{nested_none}
use Rattle.ss_nest.proofs.Values.{without_missing}

-- what the program looks up is not there
pub none_there : {A : Type 0} (o : Option A) → is_some o ≡ false → o ≡ None
none_there None e = refl
none_there (Some a) e = absurd (cc)

module _ (d : Data) (missing : get nests_key d ≡ None) where
  pub same_value : plain_value d ≡ d
  same_value = without_missing nests_key d missing

  no_nests : read_nests d ≡ Ok []
  no_nests = ap (read_or nests_key (read_array_of Any read_nest) []) missing

  -- so it has none
  pub no_nests_in : (c : Catalog) (nests : List Nest) → HasKnownMembers d c nests → nests ≡ []
  no_nests_in c nests known =
      let none : known.0 ≡ [] = ok_same (read_nests d) known.0 [] known.1.1 no_nests in
      ok_same (nests_of c known.0) nests [] known.2 (ap (nests_of c) none)

  pub reads_alone : (c : Catalog) → Reads d c → ReadsNested d c
  reads_alone c reads =
      let plainly : IsReadPlain d c = subst (λ (x : Data). Reads x c) (sym same_value) reads in
      record {
        plain = c;
        nests = [];
        passes = ((((([], (plainly, no_nests), refl), refl), refl), refl), refl);
        joined = (λ i. record c { text = reads.text i }) ∙ sym (nested_none c (compact_text d));
        reads_back = reads.reads_back;
      }

  pub refuses_alone : (e : CatalogError) → Refuses d e → (e ≡ NoMemory → ⊥) → RefusesPlain d e
  refuses_alone e h other = (subst (λ (x : Data). Refuses x e) (sym same_value) h, other)
