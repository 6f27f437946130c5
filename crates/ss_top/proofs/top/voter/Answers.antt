use Rattle.std.proofs.Common.{inl, inr, refl}
use Rattle.ss_top.proofs.Ending.{show_came}
use Rattle.ss_top.proofs.top.voter.Goals as goal

pub returns-clause-came : goal.returns-clause-came
returns-clause-came g c =
    show_came g.D.Disk.kind c.args.mode c.args.every c.args.limit c.args.restarts c.args.show.now c.in-Ok.field-0.catalog c.in-Ok.field-0.requests _ c.args.disk c.run_on_store.result.1 c.in-Ok.ensures.voter c.in-Ok.ensures.own c.in-Ok.ensures.requests
    c.in-Ok.ensures.fit c.run_on_store.result.0 c.run_on_store.ensures.came

pub returns-in_default-clause-came : goal.returns-in_default-clause-came
returns-in_default-clause-came g c = record {
  came = inl (record { uncalled = refl; written = c.write_line.ensures.written });
  cause = tt;
  told = λ once. record { store = inr (inl refl); sink = λ no. absurd (cc) };
  sink = λ no. absurd (cc);
}
