use Rattle.std.proofs.Common.{◌≡◌, [], ◌∷◌, sym, subst, ◌∙◌, rules}
use Rattle.ss_table.specs.TableValue.{TableValue as Table}
use Rattle.ss_table.specs.Joins.{with_table, shell_of}
use Rattle.ss_undo.specs.Indexed.{AreIndexed}
use Rattle.ss_shard.specs.Joins.{MayTakeInAll, MayGiveBack, WasGivenBack}
use Rattle.ss_shard.proofs.Apart.{as_before, may_come_apart}
use Rattle.ss_shard.proofs.Each.{first_indexed, others_indexed, all_indexed}
use Rattle.ss_shard.proofs.joins.tables.+absorb_tables.Goals as goal

pub absorb-requires-clause-indexed : goal.absorb-requires-clause-indexed
absorb-requires-clause-indexed t c = (
  first_indexed c.args.tables.now c.args.indexes.now c.in-Some.table.now c.in-Some.behind.now c.in-Some-split_first_mut.group.now c.in-Some-split_first_mut.groups.now
      c.in-Some.ensures.cases.0 c.in-Some-split_first_mut.ensures.cases.0 c.requires.indexed.0,
  first_indexed c.args.others.now c.args.other_indexes.now c.in-Some-split_first_mut-2.other.now c.in-Some-split_first_mut-2.fellows.now c.in-Some-split_first_mut-3.other_group.now c.in-Some-split_first_mut-3.fellow_groups.now
      c.in-Some-split_first_mut-2.ensures.cases.0 c.in-Some-split_first_mut-3.ensures.cases.0 c.requires.indexed.1,
)

pub returns-in_err-absorb-clause-indexed : goal.returns-in_err-absorb-clause-indexed
returns-in_err-absorb-clause-indexed t c = (
  all_indexed c.absorb.new.table c.in-Some.behind.now c.absorb.new.indexes c.in-Some-split_first_mut.groups.now c.absorb.ensures.indexed.0
      (others_indexed c.args.tables.now c.args.indexes.now c.in-Some.table.now c.in-Some.behind.now c.in-Some-split_first_mut.group.now c.in-Some-split_first_mut.groups.now
      c.in-Some.ensures.cases.0 c.in-Some-split_first_mut.ensures.cases.0 c.requires.indexed.0),
  all_indexed c.absorb.new.other c.in-Some-split_first_mut-2.fellows.now c.absorb.new.other_indexes c.in-Some-split_first_mut-3.fellow_groups.now c.absorb.ensures.indexed.1
      (others_indexed c.args.others.now c.args.other_indexes.now c.in-Some-split_first_mut-2.other.now c.in-Some-split_first_mut-2.fellows.now c.in-Some-split_first_mut-3.other_group.now c.in-Some-split_first_mut-3.fellow_groups.now
      c.in-Some-split_first_mut-2.ensures.cases.0 c.in-Some-split_first_mut-3.ensures.cases.0 c.requires.indexed.1),
)

pub absorb_tables-requires : goal.absorb_tables-requires
absorb_tables-requires t c =
    let tables : AreIndexed c.in-Some.behind.now [] c.in-Some-split_first_mut.groups.now =
    others_indexed c.args.tables.now c.args.indexes.now c.in-Some.table.now c.in-Some.behind.now c.in-Some-split_first_mut.group.now c.in-Some-split_first_mut.groups.now
    c.in-Some.ensures.cases.0 c.in-Some-split_first_mut.ensures.cases.0 c.requires.indexed.0 in
    let others : AreIndexed c.in-Some-split_first_mut-2.fellows.now [] c.in-Some-split_first_mut-3.fellow_groups.now =
    others_indexed c.args.others.now c.args.other_indexes.now c.in-Some-split_first_mut-2.other.now c.in-Some-split_first_mut-2.fellows.now c.in-Some-split_first_mut-3.other_group.now c.in-Some-split_first_mut-3.fellow_groups.now
    c.in-Some-split_first_mut-2.ensures.cases.0 c.in-Some-split_first_mut-3.ensures.cases.0 c.requires.indexed.1 in
    (search rules, (search rules, (search rules, (search rules, (tables, others)))))

pub release-requires-clause-may : goal.release-requires-clause-may
release-requires-clause-may t c =
    let h : Table = c.in-Some.table.now in
    let g : Table = c.in-Some-split_first_mut-2.other.now in
    let may : MayTakeInAll (h ∷ c.in-Some.behind.now) (g ∷ c.in-Some-split_first_mut-2.fellows.now) =
    subst (λ ks. MayTakeInAll (c.in-Some.table.now ∷ c.in-Some.behind.now) ks) c.in-Some-split_first_mut-2.ensures.cases.0 (subst (λ hs. MayTakeInAll hs c.args.others.now) c.in-Some.ensures.cases.0 c.requires.may) in
    let both = c.in_ok-absorb.ensures.ok in
    subst (λ (x : Table). MayGiveBack x c.absorb.new.other) (sym both.0)
    (subst (λ (y : Table). MayGiveBack (with_table c.in-Some.table.now c.in-Some-split_first_mut-2.other.now) y) (sym both.1) (may_come_apart h g may.0 c.rows_are_placed.ensures))

pub returns-then-is_err-clause-err : goal.returns-then-is_err-clause-err
returns-then-is_err-clause-err t c =
    let h : Table = c.in-Some.table.now in
    let g : Table = c.in-Some-split_first_mut-2.other.now in
    let may : MayTakeInAll (h ∷ c.in-Some.behind.now) (g ∷ c.in-Some-split_first_mut-2.fellows.now) =
    subst (λ ks. MayTakeInAll (c.in-Some.table.now ∷ c.in-Some.behind.now) ks) c.in-Some-split_first_mut-2.ensures.cases.0 (subst (λ hs. MayTakeInAll hs c.args.others.now) c.in-Some.ensures.cases.0 c.requires.may) in
    let both = c.in_ok-absorb.ensures.ok in
    let given : WasGivenBack (with_table h g) (shell_of g) c.release.new.table c.release.new.back =
    subst (λ (x : Table). WasGivenBack x (shell_of c.in-Some-split_first_mut-2.other.now) c.release.new.table c.release.new.back) both.0
    (subst (λ (y : Table). WasGivenBack c.absorb.new.table y c.release.new.table c.release.new.back) both.1 c.release.ensures.given) in
    let same : (c.absorb_tables.new.tables ≡ c.in-Some.behind.now) × (c.absorb_tables.new.others ≡ c.in-Some-split_first_mut-2.fellows.now) = search rules in
    let back = as_before h g may.0 c.release.new.table c.release.new.back given in
    ((λ j. back.0 j ∷ same.0 j) ∙ sym c.in-Some.ensures.cases.0, (λ j. back.1 j ∷ same.1 j) ∙ sym c.in-Some-split_first_mut-2.ensures.cases.0)
