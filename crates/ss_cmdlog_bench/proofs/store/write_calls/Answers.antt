use Rattle.std.proofs.Common.{◌≡◌, ◌≤◌, ◌∙◌, true, false, refl, sym, rules}
use Rattle.ss_cmdlog_bench.proofs.store.write_calls.Goals as goal

pub flush-requires-clause-formed : goal.flush-requires-clause-formed
flush-requires-clause-formed g c = λ older.
    let new : true ≡ false = sym c.loop-written.invariant.form ∙ older in
    absurd (cc)

pub loop-written-preserved : goal.loop-written-preserved
loop-written-preserved g c =
    let opened = c.loop-written.invariant.opened in
    let within : c.in-Ok-flush.receipt.count ≤ c.args.records = search rules in
    record {
      opened = (_, (c.in-Ok-flush.ensures.adds opened.0 opened.1).done refl);
      form = c.in-Ok-flush.ensures.form ∙ c.loop-written.invariant.form;
      count = c.in-Ok-flush.ensures.count.1;
      within = within;
    }
