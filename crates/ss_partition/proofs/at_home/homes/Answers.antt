use Rattle.std.proofs.Common.{◌≡◌, ◌∙◌, ℕ, sym, ap, List, [], ◌∷◌, ◌++◌, map, length, get_or, slice_get, Some, arith, subst}
use Rattle.std.proofs.lemmas.List.FromFn.{map-range_with_len_more}
use Rattle.std.proofs.lemmas.Option.{slice_get_read}
use Rattle.std.specs.List.{range_with_len}
use Rattle.ss_model.specs.declared.catalog.Procedure.{Procedure}
use Rattle.ss_model.specs.Partitions.{home_of, home_partition}
use Rattle.ss_partition.proofs.at_home.homes.Goals as goal

pub loop-procedure-preserved : goal.loop-procedure-preserved
loop-procedure-preserved c =
    let catalog = c.args.catalog.now in
    let n = c.args.parts in
    let i = c.loop-procedure.procedure-index in
    let item = c.procedure-item.result in
    let items = c.as_slice-procedure-items.ensures in
    let found : slice_get catalog.procedures i ≡ Some item = slice_get_read catalog.procedures (length c.as_slice-procedure-items.result.now) i item (ap (λ (l : List Procedure). length l) items) c.loop-procedure-test.true
    (subst (λ (l : List Procedure). item ≡ get_or l i item) items c.procedure-item.is) in
    let home : home_of catalog n i ≡ c.home.result = ap (home_partition n) found ∙ sym c.home.ensures in
    c.in_ok-push.ensures.ok
    ∙ (ap (λ (hs : List ℕ). hs ++ c.home.result ∷ []) c.loop-procedure.invariant
    ∙ (ap (λ (h : ℕ). map (home_of catalog n) (range_with_len 0 i) ++ h ∷ []) (sym home) ∙ sym (map-range_with_len_more (home_of catalog n) 0 i i (omega arith))))
