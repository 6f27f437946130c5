use Rattle.std.proofs.Common.{◌≡◌, ◌∙◌, ◌-◌, List, length, Ok, refl, sym, ap, arith, length-append}
use Rattle.ss_value.specs.declared.value.Value.{Value}
use Rattle.ss_record.specs.Spelling.{row_bytes}
use Rattle.ss_record.proofs.Takes.{row_takes}
use Rattle.ss_record.proofs.Decoded.{long, found, exact, only, refused_only}
use Rattle.ss_record.proofs.read.decode_row.Goals as goal

pub overflow_sub-taken : goal.overflow_sub-taken
overflow_sub-taken c =
    let takes = row_takes c.args.bytes.now c.in-Ok.row c.in-Ok.rest.now (λ i. omega (arith, c.type_inv.bytes i)) c.in-Ok.ensures in
    omega (arith, ap length takes.0, length-append (row_bytes c.in-Ok.row) c.in-Ok.rest.now)

pub returns-in-Ok-clause-found : goal.returns-in-Ok-clause-found
returns-in-Ok-clause-found c = found c.args.bytes.now c.in-Ok.rest.now c.in-Ok.row _ (λ i. omega (arith, c.type_inv.bytes i)) c.in-Ok.ensures refl

pub returns-in-Ok-clause-exact : goal.returns-in-Ok-clause-exact
returns-in-Ok-clause-exact c = exact c.args.bytes.now c.in-Ok.rest.now c.in-Ok.row _ (λ i. omega (arith, c.type_inv.bytes i)) c.in-Ok.ensures refl

pub returns-in-Ok-clause-only : goal.returns-in-Ok-clause-only
returns-in-Ok-clause-only c = λ row rest short typed is.
    let same : row ≡ c.in-Ok.row =
    only c.args.bytes.now c.in-Ok.rest.now c.in-Ok.row (length c.args.bytes.now - length c.in-Ok.rest.now) (λ i. omega (arith, c.type_inv.bytes i)) c.in-Ok.ensures refl row rest short typed is in
    let size : length (row_bytes row) ≡ length c.args.bytes.now - length c.in-Ok.rest.now =
    ap (λ (l : List Value). length (row_bytes l)) same
    ∙ sym (long c.args.bytes.now c.in-Ok.rest.now c.in-Ok.row (length c.args.bytes.now - length c.in-Ok.rest.now) (λ i. omega (arith, c.type_inv.bytes i)) c.in-Ok.ensures refl) in
    λ k. Ok (same k, size k)

pub returns-in-Err-clause-only : goal.returns-in-Err-clause-only
returns-in-Err-clause-only c = λ row rest short typed is.
    refused_only _ c.in-Err.refused c.args.bytes.now row rest short typed is c.in-Err.ensures
