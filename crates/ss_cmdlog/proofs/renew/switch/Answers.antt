use Rattle.std.proofs.Common.{◌≡◌, ◌∙◌, ◌+◌, ◌^◌, ◌<◌, true, ℕ, [], ◌∷◌, ◌++◌, List, length, sym, ap, subst, arith, rules, length-append, append-nil}
use Rattle.ss_lemmas.proofs.Results.{on_so}
use Rattle.ss_model.specs.declared.entry.Mode.{Mode}
use Rattle.ss_disk.specs.Files.{Files, with_write}
use Rattle.ss_disk.specs.declared.disk.FileNo.TheVariants.{Selector}
use Rattle.ss_cmdlog.specs.Generation.{front_bytes, head_bytes}
use Rattle.ss_cmdlog.specs.Log.{IsOpenAt}
use Rattle.ss_cmdlog.specs.Renewing.{other_file, renewed, selector_byte}
use Rattle.ss_cmdlog.proofs.Renewed.{has_both, next_open, still_open, switched, unswitched}
use Rattle.ss_cmdlog.proofs.LeftSome.{some_fewer, some_join}
use Rattle.ss_cmdlog.proofs.renew.switch.Goals as goal

-- the image is shorter than 2^64 bytes
short : (front image : List ℕ) → length front + length image < 2 ^ 64 → length image < 2 ^ 64
short front image fits = omega (arith, fits)

-- the closed gate stands behind the front and the image
gate_place : (mode : Mode) (place : ℕ) (front image : List ℕ) → front ++ image ≡ head_bytes true mode place image → length front + length image ≡ length (front_bytes (renewed mode place image))
gate_place mode place front image is = sym (length-append front image) ∙ ap (λ (l : List ℕ). length l) (is ∙ sym (append-nil (head_bytes true mode place image)))

pub returns-in_err-pour_synced-clause-moments : goal.returns-in_err-pour_synced-clause-moments
returns-in_err-pour_synced-clause-moments g c = λ honest s gate place at small head settled.
    let run = rw c.other_file-other.ensures at (c.pour_synced.ensures.moments honest) in
    unswitched g.D.Disk.kind.moment g.D.Disk.kind.images c.args.disk.now c.pour_synced.new.disk (g.D.Disk.kind.seen c.args.disk.now) c.args.current gate s (renewed s.mode place c.args.image.now) at settled run

pub returns-clause-moments : goal.returns-clause-moments
returns-clause-moments g c = λ honest s gate place at small head settled.
    let tells = g.met.D.Disk.honest_tells honest in
    let run = rw c.other_file-other.ensures at (c.pour_synced.ensures.moments honest) in
    let poured = rw c.other_file-other.ensures at (c.in_ok-pour_synced.ensures.poured tells) in
    let both = has_both (g.D.Disk.kind.seen c.args.disk.now) (g.D.Disk.kind.seen c.pour_synced.new.disk) c.args.current gate place s c.args.front.now c.args.image.now at small (short c.args.front.now c.args.image.now c.requires.fits) head poured in
    switched g.D.Disk.kind.moment g.D.Disk.kind.images c.args.disk.now c.pour_synced.new.disk c.write_synced.new.disk (g.D.Disk.kind.seen c.args.disk.now) (g.D.Disk.kind.seen c.pour_synced.new.disk) c.args.current gate s (renewed s.mode place c.args.image.now)
    at settled both (c.in_ok-pour_synced.ensures.durable honest) run (c.write_synced.ensures.moments honest)

pub returns-clause-switched : goal.returns-clause-switched
returns-clause-switched g c = λ tells s gate place at small head.
    let poured = rw c.other_file-other.ensures at (c.in_ok-pour_synced.ensures.poured tells) in
    let mid = g.D.Disk.kind.seen c.pour_synced.new.disk in
    let both = has_both (g.D.Disk.kind.seen c.args.disk.now) mid c.args.current gate place s c.args.front.now c.args.image.now at small (short c.args.front.now c.args.image.now c.requires.fits) head poured in
    on_so c.write_synced.result
    (g.D.Disk.kind.seen c.write_synced.new.disk ≡ with_write Selector 0 (selector_byte (other_file c.args.current) ∷ []) mid)
    (IsOpenAt (g.D.Disk.kind.seen c.write_synced.new.disk) (other_file c.args.current) (length c.args.front.now + length c.args.image.now) (renewed s.mode place c.args.image.now))
    (next_open mid c.args.current gate s (renewed s.mode place c.args.image.now) both (g.D.Disk.kind.seen c.write_synced.new.disk) (length c.args.front.now + length c.args.image.now) (gate_place s.mode place c.args.front.now c.args.image.now head))
    (rw c.other_file-other.ensures at (rw c.selector_byte.ensures at (c.write_synced.ensures.ok tells)))

pub returns-in_err-pour_synced-clause-kept : goal.returns-in_err-pour_synced-clause-kept
returns-in_err-pour_synced-clause-kept g c = λ tells s gate at refused.
    let altered = rw c.other_file-other.ensures at (c.pour_synced.ensures.altered tells (search rules)) in
    still_open (g.D.Disk.kind.seen c.args.disk.now) c.args.current gate s at (g.D.Disk.kind.seen c.pour_synced.new.disk) altered

pub returns-clause-kept : goal.returns-clause-kept
returns-clause-kept g c = λ tells s gate at refused.
    let poured = rw c.other_file-other.ensures at (c.in_ok-pour_synced.ensures.poured tells) in
    let open' = still_open (g.D.Disk.kind.seen c.args.disk.now) c.args.current gate s at (g.D.Disk.kind.seen c.pour_synced.new.disk) (_, poured) in
    subst (λ (d : Files). IsOpenAt d c.args.current gate s) (sym (c.write_synced.ensures.err tells refused)) open'

pub returns-clause-some : goal.returns-clause-some
returns-clause-some g c = λ honest.
    let run = c.write_synced.ensures.moments honest in
    some_join g.D.Disk.kind.moment g.D.Disk.kind.images (g.D.Disk.kind.moment c.args.disk.now) c.pour_synced.new.disk c.write_synced.new.disk (c.pour_synced.ensures.some honest) run.keeps
    (some_fewer g.D.Disk.kind.honest g.D.Disk.kind.seen g.D.Disk.kind.moment g.D.Disk.kind.images g.met.D.Disk.sees_an_image honest c.pour_synced.new.disk c.write_synced.new.disk run.keeps (c.write_synced.ensures.fewer honest))
