use Rattle.std.proofs.Common.{◌≡◌, ◌∙◌, ℕ, suc, ◌+◌, ◌-◌, List, [], ◌∷◌, ◌++◌, Ok, length, length-append, map, sym, ap, subst, arith, rules}
use Rattle.std.proofs.lemmas.Result.{err_from_is_err_and}
use Rattle.ss_standing.specs.ImageForm.{counts_of, may_have_taken, number_where}
use Rattle.ss_standing.specs.Readers.{Reader, many, with_front}
use Rattle.ss_standing.proofs.CallerLemmas.{next_item}
use Rattle.ss_snapshot.specs.Parts.{Refuses}
use Rattle.ss_snapshot.specs.Streams.{as_kept}
use Rattle.ss_snapshot.proofs.Readings.{one_refused}
use Rattle.ss_snapshot.proofs.reading.counts.counts_in.Goals as goal

pub loop-preserved : goal.loop-preserved
loop-preserved c =
    let catalog = c.args.catalog.now in
    let next : List ℕ → ℕ → List ℕ = λ before n. before ++ n ∷ [] in
    let read : List ℕ → Reader ℕ = λ before. number_where 8 (may_have_taken catalog (map as_kept c.args.streams.now) before) in
    let n = length catalog.procedures - c.loop.counter - 1 in
    let more : length catalog.procedures - c.loop.counter ≡ suc n = omega arith in
    let less : length catalog.procedures - (c.loop.counter + 1) ≡ n = omega arith in
    let pushed : c.push.new.self ≡ c.loop.counts ++ c.in_ok-count.count ∷ [] = search rules in
    let lent : c.as_slice.result.now ≡ c.loop.counts = search rules in
    let is : read c.loop.counts c.loop.rest.now ≡ Ok (c.in_ok-count.count, c.in_ok-count.behind.now) = ap (λ (before : List ℕ). read before c.loop.rest.now) (sym lent) ∙ c.in_ok-count.ensures in
    record {
      read =
          (λ k. with_front (pushed k) (many next read (less k) (pushed k) c.in_ok-count.behind.now))
          ∙ sym (next_item next read c.loop.counts n c.loop.counts c.loop.rest.now c.in_ok-count.count c.in_ok-count.behind.now is)
          ∙ ap (λ (m : ℕ). with_front c.loop.counts (many next read m c.loop.counts c.loop.rest.now)) (sym more)
          ∙ c.loop.invariant.read;
      many = omega (arith, ap (λ (l : List ℕ). length l) pushed, length-append c.loop.counts (c.in_ok-count.count ∷ []), c.loop.invariant.many);
    }

pub returns-in_err-count : goal.returns-in_err-count
returns-in_err-count c =
    let p = err_from_is_err_and c.from_residual.result c.from_residual.ensures.1 in
    let catalog = c.args.catalog.now in
    let streams = map as_kept c.args.streams.now in
    let next : List ℕ → ℕ → List ℕ = λ before n. before ++ n ∷ [] in
    let read : List ℕ → Reader ℕ = λ before. number_where 8 (may_have_taken catalog streams before) in
    let n = length catalog.procedures - c.loop.counter - 1 in
    let more : length catalog.procedures - c.loop.counter ≡ suc n = omega arith in
    let lent : c.as_slice.result.now ≡ c.loop.counts = search rules in
    rw (p.1, p.2)
    (one_refused next read c.loop.counts n c.loop.counts c.loop.rest.now (counts_of catalog streams c.args.bytes.now) c.in_err-count.field-0.0
    (ap (λ (m : ℕ). with_front c.loop.counts (many next read m c.loop.counts c.loop.rest.now)) (sym more) ∙ c.loop.invariant.read)
    (subst (λ (before : List ℕ). Refuses c.in_err-count.field-0.0 (read before c.loop.rest.now)) lent c.in_err-count.ensures))
