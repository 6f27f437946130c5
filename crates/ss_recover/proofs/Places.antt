-- Where a record stands, by the groups and by how many entries they have.
use Rattle.std.proofs.Common.{◌≡◌, ◌∙◌, ◌≤◌, ◌+◌, ◌-◌, ◌*◌, ℕ, suc, Bool, true, false, nat_lt, cond, List, [], ◌∷◌, ◌++◌, map, length, take, ap, arith, refl, length-append, length-take-le}
use Rattle.std.proofs.lemmas.Bool.{ltb-true, ltb-false}
use Rattle.std.proofs.lemmas.List.{take_all, take-append-le}
use Rattle.std.proofs.Math.Seq.{take-append-add}
use Rattle.std.proofs.lemmas.Grind.{flat_map-append}
use Rattle.std.specs.List.{flat_map}
use Rattle.ss_model.specs.declared.entry.Entry.{Entry}
use Rattle.ss_record.specs.Spelling.{record_bytes, records}
use Rattle.ss_cmdlog.specs.declared.open.Loaded.{Loaded}
use Rattle.ss_cmdlog.specs.Generation.{Stood}
use Rattle.ss_cmdlog.specs.Opening.{IsLoaded}
use Rattle.ss_cmdlog.specs.Store.{entries_of}
use Rattle.ss_recover.specs.Faults.{image_place, group_head, record_place}
use Rattle.ss_recover.specs.Loading.{groups_begun, place_behind}

abbrev flat : List (List Entry) → List Entry
flat groups = flat_map (λ (es : List Entry). es) groups

-- so many entries behind those of the first group
behind_first : (es ys : List Entry) (n : ℕ) → length es ≤ n → take n (es ++ ys) ≡ es ++ take (n - length es) ys
behind_first es ys n le = ap (λ (m : ℕ). take m (es ++ ys)) (let split : n ≡ length es + (n - length es) = omega arith in split) ∙ take-append-add es ys (n - length es)

by_groups : (groups : List (List Entry)) (n : ℕ) → record_place groups n ≡ group_head * groups_begun (map length groups) n + length (records (take n (flat groups)))
by_groups [] n = (let none : length (records (take n [])) ≡ 0 = ap (λ (es : List Entry). length (records es)) (take_all n [] (omega arith)) in omega (arith, none))
by_groups (es ∷ groups) n = by (nat_lt n (length es)) refl (by_groups groups (n - length es))
  where
    by : (b : Bool) → nat_lt n (length es) ≡ b → record_place groups (n - length es) ≡ group_head * groups_begun (map length groups) (n - length es) + length (records (take (n - length es) (flat groups)))
        → cond b (group_head + length (records (take n es))) (group_head + length (records es) + record_place groups (n - length es))
        ≡ group_head * cond b 1 (suc (groups_begun (map length groups) (n - length es))) + length (records (take n (es ++ flat groups)))
    by true test rest = omega (arith, ap (λ (l : List Entry). length (records l)) (take-append-le n es (flat groups) (let below = ltb-true n (length es) test in omega arith)))
    by false test rest =
        let whole = ap (λ (l : List Entry). length (records l)) (behind_first es (flat groups) n (ltb-false n (length es) test)) in
        omega (arith, rest, whole, ap (λ (l : List ℕ). length l) (flat_map-append record_bytes es (take (n - length es) (flat groups))), length-append (records es) (records (take (n - length es) (flat groups))))

-- the record behind those of so many first entries
pub placed_so : (loaded : Loaded) (s : Stood) → IsLoaded loaded s → (n : ℕ) → n ≤ length loaded.entries
    → place_behind loaded.bodies (length loaded.image) loaded.sizes (take n loaded.entries) ≡ image_place s.bodies + length s.image + record_place s.groups n
placed_so loaded s is n within =
    let many : length (take n loaded.entries) ≡ n = length-take-le n loaded.entries within in
    let front : take n loaded.entries ≡ take n (entries_of s) = ap (take n) is.entries in
    let begun : groups_begun loaded.sizes (length (take n loaded.entries)) ≡ groups_begun (map length s.groups) n = λ k. groups_begun (is.sizes k) (many k) in
    omega (
      arith,
      ap image_place is.bodies,
      ap (λ (l : List ℕ). length l) is.image,
      by_groups s.groups n,
      begun,
      ap (λ (l : List Entry). length (records l)) front,
    )
