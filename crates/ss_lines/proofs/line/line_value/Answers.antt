use Rattle.std.proofs.Common.{◌≡◌, ◌∙◌, false, length, arith, nat_lt, ap}
use Rattle.std.specs.Option.{ok_or}
use Rattle.std.proofs.lemmas.Bool.Decides.{nat_tests}
use Rattle.ss_lines.specs.declared.line.LineError.TheVariants.{NotJson}
use Rattle.ss_lines.proofs.Json.{json_of-text}
use Rattle.ss_lines.proofs.line.line_value.Goals as goal

pub returns-in-Ok-from_str-clause-ok : goal.returns-in-Ok-from_str-clause-ok
returns-in-Ok-from_str-clause-ok c =
    let text = rw c.as_slice.ensures at c.in-Ok.ensures.cases in
    let short : nat_lt 1048576 (length c.args.line.now.bytes) ≡ false = grind (arith, nat_tests) in
    rw short (ap (λ o. ok_or o (NotJson c.args.line.now.number)) (json_of-text c.args.line.now.bytes text.1 ∙ rw text.0 at c.in-Ok-from_str.ensures.ok))
