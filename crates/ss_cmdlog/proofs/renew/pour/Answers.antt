use Rattle.std.proofs.Common.{◌≡◌, [], ◌∷◌, ◌++◌, arith, rules, length-append}
use Rattle.ss_lemmas.proofs.Results.{on_so}
use Rattle.ss_disk.specs.Files.{file, with_file}
use Rattle.ss_cmdlog.proofs.Renewed.{filled_more, length_filled, otherwise_filled, otherwise_same, rest_on}
use Rattle.ss_cmdlog.proofs.LeftSome.{some_join}
use Rattle.ss_cmdlog.proofs.renew.pour.Goals as goal

pub append-requires : goal.append-requires
append-requires g c = λ tells. length_filled c.args.which (g.D.Disk.kind.seen c.args.disk.now) (g.D.Disk.kind.seen c.clear.new.disk) [] (c.in_ok-clear.ensures.cleared tells)

pub append-requires-2 : goal.append-requires-2
append-requires-2 g c = λ tells.
    let w = c.args.which in
    let front = filled_more w (g.D.Disk.kind.seen c.args.disk.now) (g.D.Disk.kind.seen c.clear.new.disk) (g.D.Disk.kind.seen c.append.new.disk) [] c.args.front.now (c.in_ok-clear.ensures.cleared tells) (c.in_ok-append.ensures.appended tells) in
    length_filled w (g.D.Disk.kind.seen c.args.disk.now) (g.D.Disk.kind.seen c.append.new.disk) c.args.front.now front

pub append-requires-3 : goal.append-requires-3
append-requires-3 g c = λ tells.
    let w = c.args.which in
    let old = g.D.Disk.kind.seen c.args.disk.now in
    let front = filled_more w old (g.D.Disk.kind.seen c.clear.new.disk) (g.D.Disk.kind.seen c.append.new.disk) [] c.args.front.now (c.in_ok-clear.ensures.cleared tells) (c.in_ok-append.ensures.appended tells) in
    let both = filled_more w old (g.D.Disk.kind.seen c.append.new.disk) (g.D.Disk.kind.seen c.append-2.new.disk) c.args.front.now c.args.image.now front (c.in_ok-append-2.ensures.appended tells) in
    let long = length_filled w old (g.D.Disk.kind.seen c.append-2.new.disk) (c.args.front.now ++ c.args.image.now) both in
    omega (arith, long, length-append c.args.front.now c.args.image.now)

pub returns-clause-poured : goal.returns-clause-poured
returns-clause-poured g c = λ tells.
    let w = c.args.which in
    let old = g.D.Disk.kind.seen c.args.disk.now in
    let front = filled_more w old (g.D.Disk.kind.seen c.clear.new.disk) (g.D.Disk.kind.seen c.append.new.disk) [] c.args.front.now (c.in_ok-clear.ensures.cleared tells) (c.in_ok-append.ensures.appended tells) in
    let both = filled_more w old (g.D.Disk.kind.seen c.append.new.disk) (g.D.Disk.kind.seen c.append-2.new.disk) c.args.front.now c.args.image.now front (c.in_ok-append-2.ensures.appended tells) in
    on_so c.append-3.result
    (g.D.Disk.kind.seen c.append-3.new.disk ≡ with_file w (file w (g.D.Disk.kind.seen c.append-2.new.disk) ++ 0 ∷ []) (g.D.Disk.kind.seen c.append-2.new.disk))
    (g.D.Disk.kind.seen c.append-3.new.disk ≡ with_file w ((c.args.front.now ++ c.args.image.now) ++ 0 ∷ []) old)
    (filled_more w old (g.D.Disk.kind.seen c.append-2.new.disk) (g.D.Disk.kind.seen c.append-3.new.disk) (c.args.front.now ++ c.args.image.now) (0 ∷ []) both)
    (c.append-3.ensures.appended tells)

pub returns-in_err-append-clause-altered : goal.returns-in_err-append-clause-altered
returns-in_err-append-clause-altered g c = λ tells refused.
    otherwise_filled c.args.which (g.D.Disk.kind.seen c.args.disk.now) (g.D.Disk.kind.seen c.clear.new.disk) (g.D.Disk.kind.seen c.append.new.disk) [] (c.in_ok-clear.ensures.cleared tells)
    (c.append.ensures.unchanged tells (search rules))

pub returns-in_err-append-2-clause-altered : goal.returns-in_err-append-2-clause-altered
returns-in_err-append-2-clause-altered g c = λ tells refused.
    let w = c.args.which in
    let old = g.D.Disk.kind.seen c.args.disk.now in
    let front = filled_more w old (g.D.Disk.kind.seen c.clear.new.disk) (g.D.Disk.kind.seen c.append.new.disk) [] c.args.front.now (c.in_ok-clear.ensures.cleared tells) (c.in_ok-append.ensures.appended tells) in
    otherwise_filled w old (g.D.Disk.kind.seen c.append.new.disk) (g.D.Disk.kind.seen c.append-2.new.disk) c.args.front.now front (c.append-2.ensures.unchanged tells (search rules))

pub returns-clause-altered : goal.returns-clause-altered
returns-clause-altered g c = λ tells refused.
    let w = c.args.which in
    let old = g.D.Disk.kind.seen c.args.disk.now in
    let front = filled_more w old (g.D.Disk.kind.seen c.clear.new.disk) (g.D.Disk.kind.seen c.append.new.disk) [] c.args.front.now (c.in_ok-clear.ensures.cleared tells) (c.in_ok-append.ensures.appended tells) in
    let both = filled_more w old (g.D.Disk.kind.seen c.append.new.disk) (g.D.Disk.kind.seen c.append-2.new.disk) c.args.front.now c.args.image.now front (c.in_ok-append-2.ensures.appended tells) in
    otherwise_filled w old (g.D.Disk.kind.seen c.append-2.new.disk) (g.D.Disk.kind.seen c.append-3.new.disk) (c.args.front.now ++ c.args.image.now) both (c.append-3.ensures.unchanged tells refused)

pub returns-in_err-append-clause-moments : goal.returns-in_err-append-clause-moments
returns-in_err-append-clause-moments g c = λ honest.
    rest_on c.args.which g.D.Disk.kind.moment g.D.Disk.kind.images c.args.disk.now c.clear.new.disk c.append.new.disk (c.clear.ensures.moments honest) (c.append.ensures.moments honest)

pub returns-in_err-append-2-clause-moments : goal.returns-in_err-append-2-clause-moments
returns-in_err-append-2-clause-moments g c = λ honest.
    rest_on c.args.which g.D.Disk.kind.moment g.D.Disk.kind.images c.args.disk.now c.append.new.disk c.append-2.new.disk
    (rest_on c.args.which g.D.Disk.kind.moment g.D.Disk.kind.images c.args.disk.now c.clear.new.disk c.append.new.disk (c.clear.ensures.moments honest) (c.append.ensures.moments honest))
    (c.append-2.ensures.moments honest)

pub returns-clause-moments : goal.returns-clause-moments
returns-clause-moments g c = λ honest.
    rest_on c.args.which g.D.Disk.kind.moment g.D.Disk.kind.images c.args.disk.now c.append-2.new.disk c.append-3.new.disk
    (rest_on c.args.which g.D.Disk.kind.moment g.D.Disk.kind.images c.args.disk.now c.append.new.disk c.append-2.new.disk
    (rest_on c.args.which g.D.Disk.kind.moment g.D.Disk.kind.images c.args.disk.now c.clear.new.disk c.append.new.disk (c.clear.ensures.moments honest) (c.append.ensures.moments honest))
    (c.append-2.ensures.moments honest))
    (c.append-3.ensures.moments honest)

pub returns-in_err-clear-clause-altered : goal.returns-in_err-clear-clause-altered
returns-in_err-clear-clause-altered g c = λ tells refused.
    otherwise_same c.args.which (g.D.Disk.kind.seen c.args.disk.now) (g.D.Disk.kind.seen c.clear.new.disk) (c.clear.ensures.unchanged tells (search rules))

pub returns-in_err-append-clause-some : goal.returns-in_err-append-clause-some
returns-in_err-append-clause-some g c = λ honest.
    some_join g.D.Disk.kind.moment g.D.Disk.kind.images (g.D.Disk.kind.moment c.args.disk.now) c.clear.new.disk c.append.new.disk (c.clear.ensures.some honest) (c.append.ensures.moments honest).keeps (c.append.ensures.some honest)

pub returns-in_err-append-2-clause-some : goal.returns-in_err-append-2-clause-some
returns-in_err-append-2-clause-some g c = λ honest.
    some_join g.D.Disk.kind.moment g.D.Disk.kind.images (g.D.Disk.kind.moment c.args.disk.now) c.append.new.disk c.append-2.new.disk
    (some_join g.D.Disk.kind.moment g.D.Disk.kind.images (g.D.Disk.kind.moment c.args.disk.now) c.clear.new.disk c.append.new.disk (c.clear.ensures.some honest) (c.append.ensures.moments honest).keeps (c.append.ensures.some honest))
    (c.append-2.ensures.moments honest).keeps (c.append-2.ensures.some honest)

pub returns-clause-some : goal.returns-clause-some
returns-clause-some g c = λ honest.
    some_join g.D.Disk.kind.moment g.D.Disk.kind.images (g.D.Disk.kind.moment c.args.disk.now) c.append-2.new.disk c.append-3.new.disk
    (some_join g.D.Disk.kind.moment g.D.Disk.kind.images (g.D.Disk.kind.moment c.args.disk.now) c.append.new.disk c.append-2.new.disk
    (some_join g.D.Disk.kind.moment g.D.Disk.kind.images (g.D.Disk.kind.moment c.args.disk.now) c.clear.new.disk c.append.new.disk (c.clear.ensures.some honest) (c.append.ensures.moments honest).keeps (c.append.ensures.some honest))
    (c.append-2.ensures.moments honest).keeps (c.append-2.ensures.some honest))
    (c.append-3.ensures.moments honest).keeps (c.append-3.ensures.some honest)
