use Rattle.std.proofs.Common.{◌≡◌, ℕ, List, true, sym, subst, slice_get, slice_set, Some}
use Rattle.std.specs.List.{AllByRecursion}
use Rattle.ss_model.specs.declared.catalog.Catalog.{Catalog}
use Rattle.ss_model.specs.Orders.{procedure_takes}
use Rattle.ss_commitlog.specs.Right.{known_database}
use Rattle.ss_turns.specs.Stepping.{AreFound}
use Rattle.ss_turns.proofs.FoundBatches.{found_for, takes_inputs}
use Rattle.ss_turns.proofs.MarksOn.{first_goes_on, first_in}
use Rattle.ss_turns.proofs.stepping.look_for.Goals as goal

pub look_each-requires : goal.look_each-requires
look_each-requires g c =
    let here = subst (λ (i : ℕ). slice_get c.args.works.now.catalog.now.procedures i ≡ Some c.at.result.now) c.from.ensures c.at.ensures in
    let named = subst (λ (k : Catalog). slice_get k.procedures c.args.procedure ≡ Some c.at.result.now) c.args.works.now.catalog_is here in
    record {
      takes = subst (λ (ss : List ℕ). AllByRecursion (λ s. procedure_takes g.I.Life.catalog c.args.procedure s ≡ true) ss) (sym c.as_slice-streams.ensures) (takes_inputs g.I.Life.catalog c.args.procedure c.args.r c.at.result.now named);
    }

pub returns-clause-marks : goal.returns-clause-marks
returns-clause-marks g c =
    first_goes_on g.I.Life.catalog g.I.Life.parts c.args.marks.now c.in-Some.mark.now c.look_each.new.mark c.in-Some.ensures.item c.look_each.ensures.mark

pub returns-clause-found : goal.returns-clause-found
returns-clause-found g c =
    let here = subst (λ (i : ℕ). slice_get c.args.works.now.catalog.now.procedures i ≡ Some c.at.result.now) c.from.ensures c.at.ensures in
    let named = subst (λ (k : Catalog). slice_get k.procedures c.args.procedure ≡ Some c.at.result.now) c.args.works.now.catalog_is here in
    let mark = c.look_each.new.mark in
    let there = first_in c.args.marks.now c.in-Some.mark.now mark c.in-Some.ensures.item in
    found_for g.I.Life.catalog c.args.procedure c.args.r c.at.result.now named g.I.Life.opening (slice_set c.args.marks.now 0 mark) mark there c.look_each.result
    (subst (λ (ss : List ℕ). AreFound (known_database g.I.Life.catalog g.I.Life.opening mark) c.args.procedure c.args.r ss c.look_each.result) c.as_slice-streams.ensures c.look_each.ensures.found)
