use Rattle.std.proofs.Common.{◌≡◌, ◌∙◌, false, List, [], ◌∷◌, length, take, drop, Err, refl, sym, ap, subst, arith, rules}
use Rattle.std.proofs.lemmas.Result.{err_from_is_err_and}
use Rattle.std.proofs.lemmas.List.Elements.{All-drop, All-same}
use Rattle.ss_model.specs.declared.entry.Entry.{Entry}
use Rattle.ss_model.specs.declared.entry.Mode.{Mode}
use Rattle.ss_record.specs.Bounds.{IsRecordable}
use Rattle.ss_disk.specs.Moments.{LeavesOnly}
use Rattle.ss_cmdlog.specs.Generation.{Stood}
use Rattle.ss_cmdlog.specs.Store.{StandsForPart, with_groups}
use Rattle.ss_cmdlog.specs.Groups.{as_group, groups_of}
use Rattle.ss_cmdlog.specs.Log.{IsOpen, AddsGroups}
use Rattle.ss_cmdlog.specs.Logged.{is_install, logged}
use Rattle.ss_cmdlog.specs.declared.log.LogError.TheVariants.{NoMemory}
use Rattle.ss_cmdlog.proofs.Logs.{has_records}
use Rattle.ss_cmdlog.proofs.Refused.{not_both}
use Rattle.ss_cmdlog.proofs.Split.{are_group, none_of_parts}
use Rattle.ss_cmdlog.proofs.Adding.{SoFar, begun, added, kept_so_far, moments_more, stays_more, open_all, open_so_far}
use Rattle.ss_cmdlog.proofs.log.CmdLog.add_entries.Goals as goal

pub loop-rest-init : goal.loop-rest-init
loop-rest-init g c = record {
  going = c.requires.going;
  same = refl;
  recordable = c.requires.recordable;
  formed = c.requires.formed;
  form = refl;
  count = refl;
  still = refl;
  fewer = omega arith;
  nothing = λ none. refl;
  quiet = λ none. (refl, none);
  so_far = begun g.D.Disk.kind g.met.D.Disk.honest_tells c.args.self.now.mode c.args.self.now c.args.entries.now;
}

-- what is there so far, in the mode of a generation that the log was open at
pub returns-in_err-next-clause-adds : goal.returns-in_err-next-clause-adds
returns-in_err-next-clause-adds g c = λ s is.
    let p = err_from_is_err_and c.from_residual.result c.from_residual.ensures.1 in
    let so_far = subst (λ (m : Mode). SoFar g.D.Disk.kind m c.args.self.now c.loop-rest.self c.args.entries.now c.loop-rest.rest.now) is.of_mode c.loop-rest.invariant.so_far in
    record {
      done = λ ok. absurd (not_both c.from_residual.result p.0 p.1 ok);
      kept = λ refused. open_so_far g.D.Disk.kind c.args.self.now c.loop-rest.self c.args.entries.now c.loop-rest.rest.now s so_far is;
      moments = λ honest. so_far.moments honest s refl is;
      stays = λ honest. so_far.stays honest s refl is;
    }

pub returns-in_err-write_next-clause-adds : goal.returns-in_err-write_next-clause-adds
returns-in_err-write_next-clause-adds g c = λ s is.
    let p = err_from_is_err_and c.from_residual-in_err-write_next.result c.from_residual-in_err-write_next.ensures.1 in
    let n = c.in_ok-next.next.taken in
    let rest = c.loop-rest.rest.now in
    let next = c.in_ok-next.ensures in
    let own : c.loop-rest.self.mode ≡ s.mode = c.loop-rest.invariant.same ∙ is.of_mode in
    let first = logged c.loop-rest.self.mode (take n rest) in
    let so_far = subst (λ (m : Mode). SoFar g.D.Disk.kind m c.args.self.now c.loop-rest.self c.args.entries.now rest) (sym c.loop-rest.invariant.same) c.loop-rest.invariant.so_far in
    let adds : (t : Stood) → t.mode ≡ c.loop-rest.self.mode → IsOpen g.D.Disk.kind c.loop-rest.self t
    → AddsGroups g.D.Disk.kind c.loop-rest.self c.write_next.new.self c.write_next.result t (as_group first) =
    λ t of open'. c.write_next.ensures.adds t first open' (λ some. are_group c.loop-rest.self.bodies c.loop-rest.self.mode rest n c.in_ok-next.next.body.items some next.body.0 next.body.1 c.loop-rest.invariant.recordable c.loop-rest.invariant.formed next.typed) next.body.0 next.number.0 in
    let of : s.mode ≡ c.loop-rest.self.mode = sym own in
    record {
      done = λ ok. absurd (not_both c.from_residual-in_err-write_next.result p.0 p.1 ok);
      kept = λ refused.
          let short : c.write_next.result ≡ Err NoMemory = cc (p.1, p.2, c.in_err-write_next.was) in
          let kept = kept_so_far g.D.Disk.kind c.loop-rest.self.mode c.args.self.now c.loop-rest.self c.write_next.new.self c.write_next.result c.args.entries.now rest n next.within.1
          (as_group first) so_far next.groups adds short c.in_err-write_next.ensures.uncounted in
          open_so_far g.D.Disk.kind c.args.self.now c.write_next.new.self c.args.entries.now rest s
          (subst (λ (m : Mode). SoFar g.D.Disk.kind m c.args.self.now c.write_next.new.self c.args.entries.now rest) own kept) is;
      moments = λ honest. subst (λ (m : Mode). LeavesOnly g.D.Disk.kind.moment g.D.Disk.kind.images c.args.self.now.disk c.write_next.new.self.disk (StandsForPart s (groups_of (logged m c.args.entries.now)))) own
          (moments_more g.D.Disk.kind c.loop-rest.self.mode c.args.self.now c.loop-rest.self c.write_next.new.self c.write_next.result c.args.entries.now rest n next.within.1
          (as_group first) so_far next.groups adds honest s of is);
      stays = λ honest.
          stays_more g.D.Disk.kind c.loop-rest.self.mode c.args.self.now c.loop-rest.self c.write_next.new.self c.write_next.result c.args.entries.now rest n next.within.1
          (as_group first) so_far next.groups adds honest s of is;
    }

pub loop-rest-preserved : goal.loop-rest-preserved
loop-rest-preserved g c =
    let n = c.in_ok-next.next.taken in
    let rest = c.loop-rest.rest.now in
    let next = c.in_ok-next.ensures in
    let i = c.loop-rest.invariant in
    let m = c.loop-rest.self.mode in
    let first = logged m (take n rest) in
    let so_far = subst (λ (m : Mode). SoFar g.D.Disk.kind m c.args.self.now c.loop-rest.self c.args.entries.now rest) (sym i.same) i.so_far in
    let adds : (t : Stood) → t.mode ≡ m → IsOpen g.D.Disk.kind c.loop-rest.self t
    → AddsGroups g.D.Disk.kind c.loop-rest.self c.write_next.new.self c.write_next.result t (as_group first) =
    λ t of open'. c.write_next.ensures.adds t first open' (λ some. are_group c.loop-rest.self.bodies m rest n c.in_ok-next.next.body.items some next.body.0 next.body.1 i.recordable i.formed next.typed) next.body.0 next.number.0 in
    let more = added g.D.Disk.kind m c.args.self.now c.loop-rest.self c.write_next.new.self c.write_next.result c.args.entries.now rest n next.within.1
    (as_group first) so_far next.groups adds c.in_ok-write_next.was c.in_ok-write_next.ensures.count in
    record {
      going = c.in_ok-write_next.ensures.cause.goes_on (λ fault. cc) ∙ i.going;
      same = c.in_ok-write_next.ensures.same ∙ i.same;
      recordable = All-same IsRecordable _ _ c.split_at.ensures.back (All-drop IsRecordable n rest i.recordable);
      formed = λ older. All-same (λ (e : Entry). is_install e ≡ false) _ _ c.split_at.ensures.back
          (All-drop (λ (e : Entry). is_install e ≡ false) n rest (i.formed (sym c.in_ok-write_next.ensures.form ∙ older)));
      form = c.in_ok-write_next.ensures.form ∙ i.form;
      count = omega (arith, c.in_ok-write_next.ensures.count, next.within.1);
      still = c.in_ok-write_next.ensures.cause.told (λ fault. cc) ∙ i.still;
      fewer = omega (arith, i.fewer);
      nothing = λ none. absurd (omega (arith, ap length none, i.fewer, next.within.0, next.within.1));
      quiet = λ none.
          let so_far_quiet = i.quiet none in
          let parts = none_of_parts m n rest (ap (λ (m : Mode). logged m rest) i.same ∙ so_far_quiet.1) in
          (c.in_ok-write_next.ensures.quiet (next.number.0 ∙ ap length parts.0) ∙ so_far_quiet.0, ap (λ l. logged c.args.self.now.mode l) c.split_at.ensures.back ∙ ap (λ (m : Mode). logged m (drop n rest)) (sym i.same) ∙ parts.1);
      so_far = subst (λ (l : List Entry). SoFar g.D.Disk.kind c.args.self.now.mode c.args.self.now c.write_next.new.self c.args.entries.now l) (sym c.split_at.ensures.back)
          (subst (λ (m : Mode). SoFar g.D.Disk.kind m c.args.self.now c.write_next.new.self c.args.entries.now (drop n rest)) i.same more);
    }

pub write_next-requires-clause-recorded : goal.write_next-requires-clause-recorded
write_next-requires-clause-recorded g c = has_records c.loop-rest.self.mode c.in_ok-next.next.taken c.loop-rest.rest.now c.in_ok-next.next.records c.in_ok-next.ensures.within.1 c.in_ok-next.ensures.number.0

pub write_next-requires-clause-open : goal.write_next-requires-clause-open
write_next-requires-clause-open g c = λ tells.
    let (s, is) = c.requires.open in
    let so_far = c.loop-rest.invariant.so_far in
    (with_groups s so_far.done, (so_far.opens s (sym is.of_mode) is).at tells)

pub returns-in_err-next-clause-quiet : goal.returns-in_err-next-clause-quiet
returns-in_err-next-clause-quiet g c = λ none. (c.loop-rest.invariant.quiet none).0

pub returns-in_err-write_next-clause-quiet : goal.returns-in_err-write_next-clause-quiet
returns-in_err-write_next-clause-quiet g c = λ none.
    let quiet = c.loop-rest.invariant.quiet none in
    let parts = none_of_parts c.loop-rest.self.mode c.in_ok-next.next.taken c.loop-rest.rest.now (ap (λ (m : Mode). logged m c.loop-rest.rest.now) c.loop-rest.invariant.same ∙ quiet.1) in
    c.write_next.ensures.quiet (c.in_ok-next.ensures.number.0 ∙ ap length parts.0) ∙ quiet.0

pub returns-clause-nothing : goal.returns-clause-nothing
returns-clause-nothing g c = c.loop-rest.invariant.nothing

none_left : (es : List Entry) → length es ≡ 0 → es ≡ []
none_left [] is = refl
none_left (e ∷ es) is = absurd (omega (arith, is))

pub returns-clause-adds : goal.returns-clause-adds
returns-clause-adds g c =
    let none : c.loop-rest.rest.now ≡ [] = none_left c.loop-rest.rest.now (search rules) in
    λ s is.
    let so_far = subst (λ (m : Mode). SoFar g.D.Disk.kind m c.args.self.now c.loop-rest.self c.args.entries.now c.loop-rest.rest.now) is.of_mode c.loop-rest.invariant.so_far in
    record {
      done = λ ok. open_all g.D.Disk.kind c.args.self.now c.loop-rest.self c.args.entries.now c.loop-rest.rest.now s none so_far is;
      kept = λ refused. cc;
      moments = λ honest. so_far.moments honest s refl is;
      stays = λ honest. so_far.stays honest s refl is;
    }

pub returns-clause-quiet : goal.returns-clause-quiet
returns-clause-quiet g c = λ none. (c.loop-rest.invariant.quiet none).0
