use Rattle.std.proofs.Common.{◌≡◌, ap, subst, ◌∙◌, map, drop}
use Rattle.std.specs.List.{prefix_len}
use Rattle.ss_chunks.specs.Chunks.{rest_items}
use Rattle.ss_index.specs.Entries.{pair_in, is_before_end}
use Rattle.ss_index.specs.Parts.{PartValue}
use Rattle.ss_index.specs.Merges.{from_end}
use Rattle.ss_index.proofs.Rising.{rising_parted, rank_map, drop_map}
use Rattle.ss_index.proofs.Ranging.{before_end_down}
use Rattle.ss_index.proofs.part.IndexPart.rest.Goals as goal

pub rest-requires : goal.rest-requires
rest-requires c = rising_parted (is_before_end c.args.aim.now.low.now) (before_end_down c.args.aim.now.low.now c.args.aim.now.low.now) c.self.inside.entries c.self.invariant

pub returns : goal.returns
returns c =
    let es = c.self.inside.entries in
    let low = c.args.aim.now.low.now in
    let P : PartValue → Type 0 = λ x. map pair_in (rest_items c.rest.result) ≡ from_end low x in
    subst P c.self.view_is (ap (map pair_in) c.rest.ensures ∙ drop_map es (prefix_len (λ x. is_before_end low (pair_in x)) es) ∙ ap (λ n. drop n (map pair_in es)) (rank_map (is_before_end low) es))
