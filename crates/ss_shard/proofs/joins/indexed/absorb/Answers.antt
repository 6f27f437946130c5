use Rattle.std.proofs.Common.{◌≡◌, [], sym, ap, subst, ◌∙◌, rules}
use Rattle.ss_table.specs.TableValue.{TableValue as Table}
use Rattle.ss_table.specs.Joins.{WasReleased, with_table, shell_of}
use Rattle.ss_index.specs.Indexes.{joined_all, shells}
use Rattle.ss_undo.specs.Holding.{HoldAll}
use Rattle.ss_undo.specs.Indexed.{Group, columns_in}
use Rattle.ss_shard.specs.Joins.{WasGivenBack}
use Rattle.ss_shard.proofs.Apart.{as_before, still_settled}
use Rattle.ss_shard.proofs.JoinedPairs.{may_join_all, hold_both, hold_left, columns_joined, columns_left}
use Rattle.ss_shard.proofs.joins.indexed.absorb.Goals as goal

pub absorb-requires-2 : goal.absorb-requires-2
absorb-requires-2 c =
    may_join_all c.args.table.now c.args.other.now c.requires.may c.rows_are_placed.ensures c.rows_are_placed-2.ensures
    c.args.indexes.now c.args.other_indexes.now c.requires.indexed.0 c.requires.indexed.1 c.requires.alike

pub release-requires-clause-settled : goal.release-requires-clause-settled
release-requires-clause-settled c = ap (λ (x : Table). x.dead) c.in_ok-absorb.ensures.ok.0 ∙ still_settled c.args.table.now c.args.other.now c.requires.may

pub returns-then-is_err-clause-err : goal.returns-then-is_err-clause-err
returns-then-is_err-clause-err c =
    let both = c.in_ok-absorb.ensures.ok in
    let given : WasGivenBack (with_table c.args.table.now c.args.other.now) (shell_of c.args.other.now) c.release.new.self c.release.new.back = record {
      released = subst (λ (x : Table). WasReleased x c.release.new.self c.release.new.back) both.0 c.release.ensures.parted;
      own = c.release.ensures.own ∙ ap (λ (x : Table). x.parts) both.1;
      limit = c.release.ensures.limits.0 ∙ ap (λ (x : Table). x.limit) both.0;
      last_limit = c.release.ensures.limits.1 ∙ ap (λ (x : Table). x.limit) both.1;
    } in
    as_before c.args.table.now c.args.other.now c.requires.may c.release.new.self c.release.new.back given

pub returns-then-is_err-clause-indexed : goal.returns-then-is_err-clause-indexed
returns-then-is_err-clause-indexed c =
    let before = returns-then-is_err-clause-err c in
    let same : (c.absorb-2.new.self ≡ c.args.indexes.now) × (c.absorb-2.new.other ≡ c.args.other_indexes.now) = search rules in (
      subst (λ (x : Table). HoldAll x [] c.absorb-2.new.self) (sym before.0) (subst (λ (g : Group). HoldAll c.args.table.now [] g) (sym same.0) c.requires.indexed.0),
      subst (λ (x : Table). HoldAll x [] c.absorb-2.new.other) (sym before.1) (subst (λ (g : Group). HoldAll c.args.other.now [] g) (sym same.1) c.requires.indexed.1),
    )

pub returns-clause-columns : goal.returns-clause-columns
returns-clause-columns c =
    let both : (c.absorb-2.new.self ≡ joined_all c.args.indexes.now c.args.other_indexes.now) × (c.absorb-2.new.other ≡ shells c.args.other_indexes.now) = search rules in
    (ap columns_in both.0 ∙ columns_joined c.args.indexes.now c.args.other_indexes.now, ap columns_in both.1 ∙ columns_left c.args.other_indexes.now)

pub returns-clause-indexed : goal.returns-clause-indexed
returns-clause-indexed c =
    let h : Table = c.args.table.now in
    let g : Table = c.args.other.now in
    let is : Group = c.args.indexes.now in
    let ks : Group = c.args.other_indexes.now in
    let tables = c.in_ok-absorb.ensures.ok in
    let both : (c.absorb-2.new.self ≡ joined_all is ks) × (c.absorb-2.new.other ≡ shells ks) = search rules in (
      subst (λ (x : Table). HoldAll x [] c.absorb-2.new.self) (sym tables.0)
          (subst (λ (g : Group). HoldAll (with_table c.args.table.now c.args.other.now) [] g) (sym both.0) (hold_both h g c.requires.may is ks c.requires.indexed.0 c.requires.indexed.1 c.requires.alike)),
      subst (λ (x : Table). HoldAll x [] c.absorb-2.new.other) (sym tables.1) (subst (λ (g : Group). HoldAll (shell_of c.args.other.now) [] g) (sym both.1) (hold_left g ks c.requires.indexed.1)),
    )
