use Rattle.std.proofs.Common.{◌≡◌, ◌∙◌, List, ℕ, Ok, Option, ap, sym, subst, arith, rules}
use Rattle.std.specs.Option.{option_copied}
use Rattle.std.proofs.lemmas.Result.{err_from_is_err_and}
use Rattle.ss_shard.specs.Sources.{positive}
use Rattle.ss_standing.specs.ImageForm.{source_above}
use Rattle.ss_snapshot.specs.Parts.{Refuses}
use Rattle.ss_snapshot.proofs.SourcesRead.{all_built, none_built, none_positive, one_built, one_refused}
use Rattle.ss_snapshot.proofs.reading.sources.sources_above_in.Goals as goal

pub loop-init : goal.loop-init
loop-init c = none_built c.args.count (positive c.new-sources.result) c.args.bytes.now (ap positive c.new-sources.ensures ∙ none_positive)

pub loop-preserved : goal.loop-preserved
loop-preserved c =
    let lent : option_copied c.as_ref.result ≡ c.loop.last = search rules in
    let source = c.in_ok-source.source in
    let is : source_above c.loop.last c.loop.rest.now ≡ Ok (source, c.in_ok-source.behind.now) =
    ap (λ (last : Option (List ℕ)). source_above last c.loop.rest.now) (sym lent) ∙ c.in_ok-source.ensures.read in
    one_built c.args.count c.loop.counter (positive c.loop.sources) c.loop.last c.args.bytes.now c.loop.rest.now c.loop.invariant c.loop-test.true
    source.0 source.1 c.in_ok-source.behind.now (positive c.put_source.new.sources) is (search rules)

pub returns : goal.returns
returns c = all_built c.args.count c.loop.counter (positive c.loop.sources) c.loop.last c.args.bytes.now c.loop.rest.now c.loop.invariant (omega arith)

pub returns-in_err-source : goal.returns-in_err-source
returns-in_err-source c =
    let p = err_from_is_err_and c.from_residual.result c.from_residual.ensures.1 in
    let lent : option_copied c.as_ref.result ≡ c.loop.last = search rules in
    rw (p.1, p.2)
    (one_refused c.args.count c.loop.counter (positive c.loop.sources) c.loop.last c.args.bytes.now c.loop.rest.now c.loop.invariant c.loop-test.true c.in_err-source.field-0.0
    (subst (λ (last : Option (List ℕ)). Refuses c.in_err-source.field-0.0 (source_above last c.loop.rest.now)) lent c.in_err-source.ensures.read))
