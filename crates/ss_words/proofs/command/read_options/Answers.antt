use Rattle.std.proofs.Common.{◌≡◌, ◌<◌, length, rules, subst}
use Rattle.ss_words.specs.Words.{Asked, asked, words_of}
use Rattle.ss_words.specs.Found.{can_take, with_option}
use Rattle.ss_words.proofs.Taken.{IsReading, reading_goes_on, reading_stops, reading_refuses, reading_ends, reading_starts, is_taken, is_refused, words_none, words_some, shorter}
use Rattle.ss_words.proofs.command.read_options.Goals as goal

pub loop-left-init : goal.loop-left-init
loop-left-init c = rw c.nothing-found.ensures (reading_starts (words_of c.args.words.now))

pub returns-in_err-name : goal.returns-in_err-name
returns-in_err-name c =
    let some : 0 < length c.loop-left.left.now = search rules in
    rw c.from_residual.ensures
    (reading_stops (words_of c.args.words.now) c.loop-left.found (words_of c.loop-left.left.now) c.loop-left.invariant c.in_err-name.ensures (words_some c.loop-left.left.now some))

pub returns-in_err-found : goal.returns-in_err-found
returns-in_err-found c =
    let option : Asked = asked c.in_ok-name.name c.in_ok-name.value.now in
    rw c.from_residual-in_err-found.ensures
    (reading_refuses (words_of c.args.words.now) c.loop-left.found (words_of c.loop-left.left.now) c.loop-left.invariant option (words_of c.in_ok-name.behind.now) c.in_ok-name.ensures
    (is_refused (can_take c.loop-left.found option) (with_option c.loop-left.found option) c.in_err-found.ensures))

pub loop-left-smaller : goal.loop-left-smaller
loop-left-smaller c = shorter c.loop-left.left.now c.in_ok-name.behind.now (asked c.in_ok-name.name c.in_ok-name.value.now) c.in_ok-name.ensures

pub loop-left-preserved : goal.loop-left-preserved
loop-left-preserved c =
    let option : Asked = asked c.in_ok-name.name c.in_ok-name.value.now in
    let taken = is_taken (can_take c.loop-left.found option) (with_option c.loop-left.found option) c.in_ok-found.found c.in_ok-found.ensures in
    let all = words_of c.args.words.now in
    let rest = words_of c.in_ok-name.behind.now in
    subst (λ found. IsReading all found rest) taken.1
    (reading_goes_on all c.loop-left.found (words_of c.loop-left.left.now) c.loop-left.invariant option rest c.in_ok-name.ensures taken.0)

pub returns : goal.returns
returns c =
    let none : length c.loop-left.left.now ≡ 0 = search rules in
    reading_ends (words_of c.args.words.now) c.loop-left.found (words_of c.loop-left.left.now) c.loop-left.invariant (words_none c.loop-left.left.now none)
