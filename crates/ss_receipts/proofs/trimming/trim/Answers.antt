use Rattle.std.proofs.Common.{rules, ◌≡◌, ◌∙◌, ℕ, None, Result, OnOk, inl, subst, arith}
use Rattle.ss_model.specs.declared.catalog.Catalog.{Catalog}
use Rattle.ss_model.specs.Replays.{after}
use Rattle.ss_snapshot.specs.Held.{FitsHeld, SpellsHeld}
use Rattle.ss_receipts.specs.declared.durable.DurableError.{DurableError}
use Rattle.ss_receipts.specs.Checkpointing.{IsCheckpointed, IsImageBehind}
use Rattle.ss_receipts.proofs.Keepers.{going_faults, untrimmed}
use Rattle.ss_receipts.proofs.trimming.trim.Goals as goal

pub returns-in-Ok-answer : goal.returns-in-Ok-answer
returns-in-Ok-answer g c = record {
  holds = λ list fault h.
      let none : c.args.log.now.halted ≡ None = search rules in
      let db = after g.I.Life.catalog g.I.Life.opening list in
      let whole = (c.whole_databases_stay.ensures g.I.Life.catalog c.requires.accepted).along g.I.Life.opening list c.requires.opening.0 in
      let spelled = subst (λ (k : Catalog). SpellsHeld k c.args.whole.now c.args.streams.now.streams c.in-Ok.image) c.requires.catalog c.in-Ok.ensures.spelled in
      let fits = subst (λ (k : Catalog). FitsHeld k c.args.whole.now c.args.streams.now.streams) c.requires.catalog c.in-Ok.ensures.fits in
      let is : IsImageBehind g.I.Life.catalog g.I.Life.opening g.I.Life.first list c.args.end c.as_slice.result.now = record {
        end = h.end_is;
        replays = h.replays;
        small = h.small;
        fits = fits db h.of.holds h.of.streams_are whole;
        spelled = c.as_slice.ensures ∙ spelled db h.of.holds h.of.streams_are whole;
      } in
      let begins = subst (λ (r : Result ℕ DurableError). OnOk r (c.renew_log.new.log.first ≡ c.args.end)) c.in-Ok-answer.is c.renew_log.ensures.first in
      record {
        later = c.renew_log.result.faults;
        holds = c.renew_log.ensures.holds list fault is h.holds;
        told = inl (going_faults g.I.Life.faults (g.D.Disk.kind.faults c.args.log.now.disk) c.args.log.now.halted fault h.holds.halt none);
        answer = omega (arith, begins, c.requires.every);
      };
}

pub returns : goal.returns
returns g c = record {
  holds = λ list fault h.
      let none : c.args.log.now.halted ≡ None = search rules in
      let db = after g.I.Life.catalog g.I.Life.opening list in
      let whole = (c.whole_databases_stay.ensures g.I.Life.catalog c.requires.accepted).along g.I.Life.opening list c.requires.opening.0 in
      let spelled = subst (λ (k : Catalog). SpellsHeld k c.args.whole.now c.args.streams.now.streams c.in-Ok.image) c.requires.catalog c.in-Ok.ensures.spelled in
      let fits = subst (λ (k : Catalog). FitsHeld k c.args.whole.now c.args.streams.now.streams) c.requires.catalog c.in-Ok.ensures.fits in
      let is : IsImageBehind g.I.Life.catalog g.I.Life.opening g.I.Life.first list c.args.end c.as_slice.result.now = record {
        end = h.end_is;
        replays = h.replays;
        small = h.small;
        fits = fits db h.of.holds h.of.streams_are whole;
        spelled = c.as_slice.ensures ∙ spelled db h.of.holds h.of.streams_are whole;
      } in
      let refused = subst (λ (r : Result ℕ DurableError). IsCheckpointed c.args.end c.renew_log.result.faults r) c.in-Err.is c.renew_log.ensures.answer in
      record {
        later = c.renew_log.result.faults;
        holds = c.renew_log.ensures.holds list fault is h.holds;
        told = inl (going_faults g.I.Life.faults (g.D.Disk.kind.faults c.args.log.now.disk) c.args.log.now.halted fault h.holds.halt none);
        answer = untrimmed c.args.end c.args.every c.renew_log.result.faults c.renew_log.new.log c.in-Err.refused refused;
      };
}
