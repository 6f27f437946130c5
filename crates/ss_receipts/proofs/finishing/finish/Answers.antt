use Rattle.std.proofs.Common.{rules, ◌≡◌, ◌∙◌, ◌-◌, inl, None, ℕ, List, drop, sym, ap, subst, arith, length-drop}
use Rattle.std.proofs.lemmas.List.{take_all}
use Rattle.ss_model.specs.declared.entry.Listed.{Listed}
use Rattle.ss_standing.specs.Standing.{listed_entries}
use Rattle.ss_receipts.specs.Holding.{AreRest, Holds}
use Rattle.ss_receipts.specs.Durable.{IsDurable}
use Rattle.ss_receipts.proofs.Flushing.{rest_count}
use Rattle.ss_receipts.proofs.Keepers.{going_faults}
use Rattle.ss_receipts.proofs.finishing.finish.Goals as goal

pub returns : goal.returns
returns g c = λ count fault h.
    let none : c.args.log.now.halted ≡ None = search rules in
    let rest : AreRest g.I.Life.catalog g.I.Life.opening g.I.Life.first c.args.list.now c.count-count.result c.in-Ok.rest = record {
      replays = c.requires.replays;
      small = c.requires.small;
      entries_are =
          c.in-Ok.ensures
          ∙ ap listed_entries (take_all _ (drop (c.count-count.result - c.args.first) c.as_slice.result.now) (omega (arith, length-drop (c.count-count.result - c.args.first) c.as_slice.result.now)))
          ∙ ap (λ (l : List Listed). listed_entries (drop (c.count-count.result - c.args.first) l)) c.as_slice.ensures
          ∙ ap (λ (n : ℕ). listed_entries (drop (c.count-count.result - n) c.args.list.now)) c.requires.first;
    } in
    let same : count ≡ c.count-count.result = sym (h.counted none) ∙ sym c.count-count.ensures in
    let held = subst (λ (n : ℕ). Holds g.I.Life.recovery g.I.Life.every g.I.Life.catalog g.I.Life.opening g.I.Life.first g.I.Life.moment g.I.Life.faults g.I.Life.past g.D.Disk.kind c.args.list.now c.args.log.now n fault) same h in
    record {
      count = c.flush_rest.result.count;
      fault = c.flush_rest.result.faults;
      holds = c.flush_rest.ensures.holds c.args.list.now fault rest held;
      more = omega (arith, same, c.flush_rest.ensures.more);
      told = inl (going_faults g.I.Life.faults (g.D.Disk.kind.faults c.args.log.now.disk) c.args.log.now.halted fault h.halt none);
      answer = subst (λ (n : ℕ). IsDurable n c.flush_rest.result.count c.flush_rest.result.faults c.flush_rest.result.answer)
          (rest_count g.I.Life.catalog g.I.Life.opening g.I.Life.first c.args.list.now c.count-count.result c.in-Ok.rest rest held.begun held.within) c.flush_rest.ensures.answer;
    }
