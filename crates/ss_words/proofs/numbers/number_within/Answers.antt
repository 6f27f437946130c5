use Rattle.std.proofs.Common.{◌≡◌, ◌≤◌, ◌<◌, ◌^◌, length, Ok, arith}
use Rattle.ss_words.proofs.Parsed.{number_read, number_refused, no_plus}
use Rattle.ss_words.proofs.numbers.number_within.Goals as goal

pub returns-in-Ok : goal.returns-in-Ok
returns-in-Ok c =
    let plain = no_plus c.args.value.now c.starts_with.result c.if-starts_with.false (c.starts_with.ensures.byte (omega arith) (omega arith) (λ w o h. h)) in
    let is : c.parse.result ≡ Ok c.in-Ok.number = c.in-Ok.is in
    let short : length c.args.value.now ≤ 7 = omega (arith, c.if-value-gt-MAX_DIGITS.false) in
    let low : c.args.least ≤ c.in-Ok.number = omega (arith, c.if-least-number.true) in
    let high : c.in-Ok.number ≤ c.args.most = omega (arith, c.if-number-most.true) in
    number_read c.args.least c.args.most c.args.value.now c.parse.result c.parse.ensures.value.0 plain c.in-Ok.number is short low high

pub returns-in_default-3 : goal.returns-in_default-3
returns-in_default-3 c =
    let plain = no_plus c.args.value.now c.starts_with.result c.if-starts_with.false (c.starts_with.ensures.byte (omega arith) (omega arith) (λ w o h. h)) in
    let fits : c.args.most < 2 ^ 32 = omega (arith, c.ranges.most.fits) in
    number_refused c.args.least c.args.most c.args.value.now c.parse.result c.parse.ensures.value.0 plain c.in_default.field-0 c.in_default.is fits
