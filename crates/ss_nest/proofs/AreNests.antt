-- Nests that pass all checks are nests of the plain catalogue.
use Rattle.std.proofs.Common.{◌≡◌, ◌≤◌, ℕ, List, true, false, length, Some, slice_get, arith}
use Rattle.serde_json.specs.Data.{Data}
use Rattle.ss_lemmas.proofs.Bools.{first_of_two, second_of_two}
use Rattle.ss_lemmas.proofs.EachOf.{all_at, none_found}
use Rattle.ss_model.specs.declared.catalog.Catalog.{Catalog}
use Rattle.ss_model.specs.declared.catalog.Nest.{Nest}
use Rattle.ss_model.specs.Accepted.{Accepted}
use Rattle.ss_model.specs.CatalogForm.{all_distinct, has_distinct_names}
use Rattle.ss_model.specs.Nests.{MayNest, AreNests}
use Rattle.ss_model.specs.Settling.{streams_on}
use Rattle.ss_catalog.proofs.CallerLemmas.{reads_plain}
use Rattle.ss_nest.specs.declared.outline.NestOutline.{NestOutline}
use Rattle.ss_nest.specs.Outlines.{plain_value}
use Rattle.ss_nest.specs.Joinable.{is_open, has_two_touches, has_batches}
use Rattle.ss_nest.specs.Reads.{HasRightNests}
use Rattle.ss_nest.proofs.OneAnswer.{known_of, plain_of}
use Rattle.ss_nest.proofs.Distinct.{members_once, apart_at, names_once, own_names}
use Rattle.ss_nest.proofs.KnownMembers.{IsSeveral, outlines_several, are_members, is_written}
use Rattle.ss_nest.proofs.JoinableNests.{of_one, closed_of, inside_of, not_open, same_touch_of, by_rows_of}

-- the names of the procedures of an accepted catalogue differ
pub names_differ_in : (c : Catalog) → Accepted c → all_distinct (own_names c) ≡ true
names_differ_in c accepted =
    let names : has_distinct_names c ≡ true = first_of_two _ _ (first_of_two _ _ (first_of_two _ _ (first_of_two _ _ (first_of_two _ _ (first_of_two _ _ accepted.form))))) in
    second_of_two _ _ (first_of_two _ _ (first_of_two _ _ (first_of_two _ _ (first_of_two _ _ names))))

module _ (d : Data) (c : Catalog) (nests : List Nest) (accepted : Accepted c) (right : HasRightNests d c nests) where
  may_nest : (i : ℕ) (nest : Nest) → slice_get nests i ≡ Some nest → MayNest c nest.members
  may_nest i nest is =
      let known = known_of d c nests right in
      let w = is_written c known.0 nests known.2 i nest is in
      let members = are_members c w.outline.procedures nest.members w.members in
      let several = all_at (λ (o : NestOutline). IsSeveral o.procedures) known.0 (outlines_several d known.0 known.1.1) i w.outline w.stands in
      let count = members.count in
      let least : 2 ≤ length nest.members = omega (arith, several.0) in
      let most : length nest.members ≤ 8 = omega (arith, several.1) in
      let open_none = not_open c nest (all_at (λ (n : Nest). is_open c n ≡ false) nests (none_found (is_open c) nests right.0.0.1) i nest is) in
      record {
        several = least;
        few = most;
        streaming = λ q among. of_one (streams_on c) nest.members q members.streams among;
        apart = apart_at nests (members_once c nests right.0.0.0.1) i nest is;
        closed = closed_of c nest.members least open_none.closed;
        inside = inside_of c nest.members accepted.structure.streams.wired.emits_there open_none.unshared;
        same_touch = same_touch_of c nest (all_at (λ (n : Nest). has_two_touches c n ≡ false) nests (none_found (has_two_touches c) nests right.0.1) i nest is);
        by_rows = by_rows_of c nest (all_at (λ (n : Nest). has_batches c n ≡ false) nests (none_found (has_batches c) nests right.1) i nest is);
      }

  pub are_nests : AreNests c nests
  are_nests = record {
    plain = reads_plain (plain_value d) c (plain_of d c nests (known_of d c nests right));
    each = may_nest;
    named = names_once c nests (names_differ_in c accepted) right.0.0.0.1;
    once = members_once c nests right.0.0.0.1;
  }
