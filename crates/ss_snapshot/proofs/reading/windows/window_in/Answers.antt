use Rattle.std.proofs.Common.{◌≡◌, ◌∙◌, ℕ, ◌+◌, ◌≤◌, length, Ok, sym, ap, subst, arith}
use Rattle.ss_model.specs.Contents.{first_kept}
use Rattle.ss_window.specs.WindowValue.{WindowInvariant, WindowValue, rows_in}
use Rattle.ss_shard.specs.Windows.{kept_part}
use Rattle.ss_snapshot.specs.Windows.{IsRestored}
use Rattle.ss_snapshot.proofs.Units.{keeps, restores, window_countable, window_read}
use Rattle.ss_snapshot.proofs.reading.windows.window_in.Goals as goal

pub resume-restored-requires-clause-countable : goal.resume-restored-requires-clause-countable
resume-restored-requires-clause-countable c =
    let few : length (rows_in c.in_ok-kept.kept) ≤ length c.in_ok-count.rest.now =
    window_countable c.args.window.now c.args.bytes.now c.in_ok-had.had c.in_ok-had.rest.now c.in_ok-count.count c.in_ok-count.rest.now c.in_ok-kept.kept c.in_ok-kept.rest.now
    (λ i. omega (arith, c.type_inv.bytes i)) c.in_ok-had.ensures.read c.in_ok-count.ensures.read c.in_ok-kept.ensures.read in
    omega arith

pub returns-clause-read : goal.returns-clause-read
returns-clause-read c =
    let d = c.args.window.now in
    let had = c.in_ok-had.had in
    let kept = c.in_ok-kept.kept in
    let whole : first_kept d had + length kept ≡ had = ap (λ (n : ℕ). first_kept d had + n) c.in_ok-kept.ensures.many ∙ c.in_ok-count.ensures.whole in
    let part : kept_part c.resume-restored.result ≡ (had, kept) = ap (λ (h : WindowValue). kept_part h) c.resume-restored.ensures ∙ keeps d had kept whole in
    window_read d c.args.bytes.now had c.in_ok-had.rest.now c.in_ok-count.count c.in_ok-count.rest.now kept c.in_ok-kept.rest.now c.in_ok-had.ensures.read c.in_ok-count.ensures.read c.in_ok-kept.ensures.read
    ∙ (λ k. Ok (sym part k, c.in_ok-kept.rest.now))

pub returns-clause-restored : goal.returns-clause-restored
returns-clause-restored c =
    let d = c.args.window.now in
    let had = c.in_ok-had.had in
    let kept = c.in_ok-kept.kept in
    let whole : first_kept d had + length kept ≡ had = ap (λ (n : ℕ). first_kept d had + n) c.in_ok-kept.ensures.many ∙ c.in_ok-count.ensures.whole in
    subst (λ (h : WindowValue). IsRestored d h) (sym c.resume-restored.ensures)
    (restores d had kept whole (subst (λ (h : WindowValue). WindowInvariant h) c.resume-restored.ensures c.invariant_holds.ensures))
