use Rattle.std.proofs.Common.{◌≡◌, ◌∙◌, ◌-◌, length, Ok, refl, sym, ap, arith, length-append}
use Rattle.ss_model.specs.declared.entry.Entry.{Entry}
use Rattle.ss_record.specs.Spelling.{record_bytes}
use Rattle.ss_record.proofs.RecordTakes.{record_takes}
use Rattle.ss_record.proofs.RecordRead.{long, found, exact, only, refused_only}
use Rattle.ss_record.proofs.record.read_record.Goals as goal

pub overflow_sub-taken : goal.overflow_sub-taken
overflow_sub-taken c =
    let takes = record_takes c.args.bytes.now c.in-Ok.entry c.in-Ok.rest.now (λ i. omega (arith, c.type_inv.bytes i)) c.in-Ok.ensures in
    omega (arith, ap length takes.0, length-append (record_bytes c.in-Ok.entry) c.in-Ok.rest.now)

pub returns-in-Ok-clause-found : goal.returns-in-Ok-clause-found
returns-in-Ok-clause-found c = found c.args.bytes.now c.in-Ok.rest.now c.in-Ok.entry _ (λ i. omega (arith, c.type_inv.bytes i)) c.in-Ok.ensures refl

pub returns-in-Ok-clause-exact : goal.returns-in-Ok-clause-exact
returns-in-Ok-clause-exact c = exact c.args.bytes.now c.in-Ok.rest.now c.in-Ok.entry _ (λ i. omega (arith, c.type_inv.bytes i)) c.in-Ok.ensures refl

pub returns-in-Ok-clause-only : goal.returns-in-Ok-clause-only
returns-in-Ok-clause-only c = λ e rest ok typed is.
    let n = length c.args.bytes.now - length c.in-Ok.rest.now in
    let same : e ≡ c.in-Ok.entry = only c.args.bytes.now c.in-Ok.rest.now c.in-Ok.entry n (λ i. omega (arith, c.type_inv.bytes i)) c.in-Ok.ensures refl e rest ok typed is in
    let size : length (record_bytes e) ≡ n =
    ap (λ (x : Entry). length (record_bytes x)) same ∙ sym (long c.args.bytes.now c.in-Ok.rest.now c.in-Ok.entry n (λ i. omega (arith, c.type_inv.bytes i)) c.in-Ok.ensures refl) in
    λ k. Ok (same k, size k)

pub returns-in-Err-clause-only : goal.returns-in-Err-clause-only
returns-in-Err-clause-only c = λ e rest ok typed is. refused_only _ c.in-Err.refused c.args.bytes.now e rest ok typed is c.in-Err.ensures
