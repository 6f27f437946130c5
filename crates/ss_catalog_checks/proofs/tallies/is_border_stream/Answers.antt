use Rattle.std.proofs.Common.{◌&&◌, nat_lt, ap, sym, ◌∙◌}
use Rattle.ss_model.specs.Database.{is_border, takes_stream}
use Rattle.ss_catalog_checks.proofs.Noting.{any_counted}
use Rattle.ss_catalog_checks.proofs.tallies.is_border_stream.Goals as goal

pub returns : goal.returns
returns c =
    ap (nat_lt 0) c.border_consumers.ensures
    ∙ sym (any_counted (λ p. is_border p.kind && takes_stream c.args.stream p) c.args.catalog.now.procedures)
