use Rattle.std.proofs.Common.{◌≡◌, ◌∙◌, ◌+◌, ◌++◌, true, ℕ, List, length, None, refl, sym, ap, subst, arith, rules}
use Rattle.ss_model.specs.declared.entry.Mode.{Mode}
use Rattle.ss_disk.specs.declared.disk.FileNo.{FileNo}
use Rattle.ss_disk.proofs.CallerLemmas.{fewer_none}
use Rattle.ss_cmdlog.specs.Generation.{head_bytes}
use Rattle.ss_cmdlog.specs.Log.{IsOpenAt}
use Rattle.ss_cmdlog.specs.Renewing.{other_file, renewed}
use Rattle.ss_cmdlog.proofs.LeftSome.{some_fewer}
use Rattle.ss_cmdlog.proofs.Logs.{counts_read}
use Rattle.ss_cmdlog.proofs.log.CmdLog.renew.Goals as goal

pub switch-requires-clause-open : goal.switch-requires-clause-open
switch-requires-clause-open g c = λ tells.
    let none : c.args.self.now.halted ≡ None = search rules in
    let open' = c.requires.open none in
    (open'.0, c.args.self.now.gate, open'.1.at tells)

pub returns-in-Ok-clause-renews : goal.returns-in-Ok-clause-renews
unfolding head_bytes
returns-in-Ok-clause-renews g c = λ s open'.
    let head : c.as_slice.result.now ++ c.args.image.now ≡ head_bytes true s.mode c.args.place c.args.image.now =
    ap (λ (l : List ℕ). l ++ c.args.image.now) (c.as_slice.ensures.value ∙ c.in_ok-front.ensures) ∙ ap (λ (m : Mode). head_bytes true m c.args.place c.args.image.now) open'.of_mode in
    let place : length c.as_slice.result.now + length c.args.image.now ≡ c.in-Some-checked_add.gate = omega (arith, c.in-Some-checked_add.ensures) in
    record {
      done = record {
        going = open'.going;
        of_mode = open'.of_mode;
        of_form = refl;
        at = λ tells. subst (λ (which : FileNo). IsOpenAt (g.D.Disk.kind.seen c.switch.new.disk) which c.in-Some-checked_add.gate (renewed s.mode c.args.place c.args.image.now)) (sym c.other_file-self.ensures)
            (subst (λ (n : ℕ). IsOpenAt (g.D.Disk.kind.seen c.switch.new.disk) (other_file c.args.self.now.file) n (renewed s.mode c.args.place c.args.image.now)) place
            (c.in-Ok.ensures.switched tells s c.args.self.now.gate c.args.place (open'.at tells) c.requires.small head));
        first = λ tells. refl;
        count = λ tells. (let is = c.requires.place open'.going in counts_read s.mode c.args.self.now.count (renewed s.mode c.args.place c.args.image.now) (omega (arith, is)));
        only = λ honest. c.in-Ok.ensures.durable honest;
      };
      kept = λ refused. cc;
      moments = λ honest. c.switch.ensures.moments honest s c.args.self.now.gate c.args.place (open'.at (g.met.D.Disk.honest_tells honest)) c.requires.small head (open'.only honest);
    }

pub returns-in-Err-NoMemory-clause-renews : goal.returns-in-Err-NoMemory-clause-renews
unfolding head_bytes
returns-in-Err-NoMemory-clause-renews g c = λ s open'.
    let head : c.as_slice.result.now ++ c.args.image.now ≡ head_bytes true s.mode c.args.place c.args.image.now =
    ap (λ (l : List ℕ). l ++ c.args.image.now) (c.as_slice.ensures.value ∙ c.in_ok-front.ensures) ∙ ap (λ (m : Mode). head_bytes true m c.args.place c.args.image.now) open'.of_mode in
    record {
      done = tt;
      kept = λ refused. record {
        going = open'.going;
        of_mode = open'.of_mode;
        of_form = open'.of_form;
        at = λ tells. c.in-Err-NoMemory.ensures.kept tells s c.args.self.now.gate (open'.at tells) cc;
        first = open'.first;
        count = open'.count;
        only = λ honest. c.in-Err-NoMemory.ensures.kept_only honest cc;
      };
      moments = λ honest. c.switch.ensures.moments honest s c.args.self.now.gate c.args.place (open'.at (g.met.D.Disk.honest_tells honest)) c.requires.small head (open'.only honest);
    }

pub returns-clause-renews : goal.returns-clause-renews
unfolding head_bytes
returns-clause-renews g c = λ s open'.
    let head : c.as_slice.result.now ++ c.args.image.now ≡ head_bytes true s.mode c.args.place c.args.image.now =
    ap (λ (l : List ℕ). l ++ c.args.image.now) (c.as_slice.ensures.value ∙ c.in_ok-front.ensures) ∙ ap (λ (m : Mode). head_bytes true m c.args.place c.args.image.now) open'.of_mode in
    record {
      done = tt;
      kept = λ refused. cc;
      moments = λ honest. c.switch.ensures.moments honest s c.args.self.now.gate c.args.place (open'.at (g.met.D.Disk.honest_tells honest)) c.requires.small head (open'.only honest);
    }

pub returns-in-Ok-clause-some : goal.returns-in-Ok-clause-some
returns-in-Ok-clause-some g c = λ honest. c.switch.ensures.some honest

pub returns-in-Err-NoMemory-clause-some : goal.returns-in-Err-NoMemory-clause-some
returns-in-Err-NoMemory-clause-some g c = λ honest. c.switch.ensures.some honest

pub returns-clause-some : goal.returns-clause-some
returns-clause-some g c = λ honest. c.switch.ensures.some honest

-- no call was made
pub returns-in_err-front-clause-some : goal.returns-in_err-front-clause-some
returns-in_err-front-clause-some g c = λ honest.
    some_fewer g.D.Disk.kind.honest g.D.Disk.kind.seen g.D.Disk.kind.moment g.D.Disk.kind.images g.met.D.Disk.sees_an_image honest c.args.self.now.disk c.args.self.now.disk (λ t image within left. left)
    (fewer_none g.D.Disk.kind.moment g.D.Disk.kind.images (g.D.Disk.kind.moment c.args.self.now.disk + 1) c.args.self.now.disk (omega arith))

pub returns-in-Some-clause-some : goal.returns-in-Some-clause-some
returns-in-Some-clause-some g c = λ honest.
    some_fewer g.D.Disk.kind.honest g.D.Disk.kind.seen g.D.Disk.kind.moment g.D.Disk.kind.images g.met.D.Disk.sees_an_image honest c.args.self.now.disk c.args.self.now.disk (λ t image within left. left)
    (fewer_none g.D.Disk.kind.moment g.D.Disk.kind.images (g.D.Disk.kind.moment c.args.self.now.disk + 1) c.args.self.now.disk (omega arith))
