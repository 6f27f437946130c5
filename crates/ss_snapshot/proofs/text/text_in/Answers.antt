use Rattle.std.proofs.Common.{◌∙◌, ◌<◌, ◌^◌, ◌++◌, ℕ, List, length, refl, sym, subst, arith}
use Rattle.ss_snapshot.specs.Foreign.{RefusesCut}
use Rattle.ss_standing.specs.Image.{text_bytes}
use Rattle.ss_snapshot.proofs.Texts.{text_fits, text_spelled, too_few, uncounted}
use Rattle.ss_snapshot.proofs.text.text_in.Goals as goal

pub returns-in-Err-clause-refused : goal.returns-in-Err-clause-refused
returns-in-Err-clause-refused c = subst (RefusesCut c.args.bytes.now) (sym c.uncounted.ensures) (uncounted c.args.bytes.now c.in-Err.refused c.in-Err.ensures)

pub returns-then-rest-length-clause-refused : goal.returns-then-rest-length-clause-refused
returns-then-rest-length-clause-refused c =
    subst (RefusesCut c.args.bytes.now) (sym c.cut.ensures) (record {
      cut = λ text front. too_few c.args.bytes.now text c.in-Ok.counted.0 c.in-Ok.counted.1.now c.in-Ok.ensures c.if-rest-length.true front;
      offset = refl;
    })

pub returns-clause-short : goal.returns-clause-short
returns-clause-short c =
    subst (λ (text : List ℕ). length text < 2 ^ 32) (sym c.split_at.ensures.front)
    (text_fits c.args.bytes.now c.in-Ok.counted.0 c.in-Ok.counted.1.now (λ i. omega (arith, c.type_inv.bytes i)) c.in-Ok.ensures c.if-rest-length.false)

pub returns-clause-found : goal.returns-clause-found
returns-clause-found c =
    text_spelled c.args.bytes.now c.in-Ok.counted.0 c.in-Ok.counted.1.now (λ i. omega (arith, c.type_inv.bytes i)) c.in-Ok.ensures c.if-rest-length.false
    ∙ (λ k. text_bytes (sym c.split_at.ensures.front k) ++ sym c.split_at.ensures.back k)
