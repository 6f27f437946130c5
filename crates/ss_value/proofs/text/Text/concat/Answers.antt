use Rattle.std.proofs.Common.{◌++◌, subst, sym, ap, length, ◌≤◌, arith, length-append}
use Rattle.std.proofs.lemmas.Str.{IsUtf8-append}
use Rattle.ss_value.specs.Words.{IsText}
use Rattle.ss_value.proofs.text.Text.concat.Goals as goal

pub invariant_of-result : goal.invariant_of-result
invariant_of-result c =
    let front = c.as_str.result.now in
    let back = c.as_str-2.result.now in
    let short : length (front ++ back) ≤ 255 = omega (arith, length-append front back, ap length c.as_str.ensures, ap length c.as_str-2.ensures) in
    (subst IsText (sym c.in_ok-chars.ensures.bytes) (short, IsUtf8-append front back c.as_str.utf8 c.as_str-2.utf8), c.in_ok-chars.ensures.held)
