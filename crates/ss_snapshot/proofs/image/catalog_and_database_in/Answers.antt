use Rattle.std.proofs.Common.{◌∙◌, sym, ap, subst, arith}
use Rattle.ss_model.specs.declared.catalog.Catalog.{Catalog}
use Rattle.std.proofs.lemmas.Result.{err_from_is_err_and}
use Rattle.ss_snapshot.specs.Images.{Refuses}
use Rattle.ss_snapshot.proofs.ReadImages.{begins_so, cut_refused, rest_are, rest_refused, short_text, text_refused}
use Rattle.ss_snapshot.proofs.image.catalog_and_database_in.Goals as goal

pub returns-in_err-text-clause-refused : goal.returns-in_err-text-clause-refused
returns-in_err-text-clause-refused c =
    let p = err_from_is_err_and c.from_residual.result c.from_residual.ensures.1 in
    rw (p.1, p.2) (cut_refused c.args.bodies c.args.bytes.now c.args.first c.in_err-text.field-0.0 c.in_err-text.ensures.refused)

pub returns-in_err-catalog-clause-refused : goal.returns-in_err-catalog-clause-refused
returns-in_err-catalog-clause-refused c =
    let p = err_from_is_err_and c.from_residual-in_err-catalog.result c.from_residual-in_err-catalog.ensures.1 in
    rw (p.1, p.2)
    (text_refused c.args.bodies c.args.bytes.now c.args.first c.in_ok-text.text.now c.in_ok-text.rest.now c.in_ok-text.ensures.short c.in_ok-text.ensures.found
    c.in_err-catalog.field-0.0 c.in_err-catalog.ensures.refused)

pub returns-in-Ok-clause-read : goal.returns-in-Ok-clause-read
returns-in-Ok-clause-read c =
    let grown = c.database_in.ensures.grown in
    let text = ap (λ (k : Catalog). k.text) grown.same ∙ c.in_ok-catalog.ensures.text in
    record {
      own = grown.own;
      accepted = grown.accepted;
      short = short_text c.args.bodies c.args.bytes.now c.args.first c.in_ok-text.text.now c.in_ok-text.rest.now c.in_ok-text.ensures.short c.in_ok-text.ensures.found
          c.database_in.new.catalog grown.own grown.accepted text;
      rest = c.in_ok-text.rest.now;
      are = rest_are c.args.bodies c.args.bytes.now c.args.first c.in_ok-text.text.now c.in_ok-text.rest.now c.in_ok-text.ensures.short c.in_ok-text.ensures.found
          (λ i. omega (arith, c.type_inv.bytes i));
      begins = begins_so c.args.bodies c.args.bytes.now c.args.first c.in_ok-text.text.now c.in_ok-text.rest.now c.in_ok-text.ensures.short c.in_ok-text.ensures.found
          c.database_in.new.catalog grown.own grown.accepted text;
      database = c.in-Ok.ensures.read;
    }

pub returns-in-Err-clause-refused : goal.returns-in-Err-clause-refused
returns-in-Err-clause-refused c =
    let grown = c.database_in.ensures.grown in
    let text = ap (λ (k : Catalog). k.text) grown.same ∙ c.in_ok-catalog.ensures.text in
    subst (Refuses c.args.bodies c.args.first c.args.bytes.now) (sym c.refusal.ensures)
    (rest_refused c.args.bodies c.args.bytes.now c.args.first c.in_ok-text.text.now c.in_ok-text.rest.now c.in_ok-text.ensures.short c.in_ok-text.ensures.found
    c.database_in.new.catalog grown.own grown.accepted text
    c.in-Err.refused c.in-Err.ensures.refused)
