use Rattle.std.proofs.Common.{◌≡◌, IfOk, string_bytes, ℕ, [], ◌∷◌, codes, sym, subst}
use Rattle.serde_json.specs.Data.{string}
use Rattle.ss_model.specs.ReportLines.{count}
use Rattle.ss_refusals.specs.declared.refusals.FaultIn.{FaultIn}
use Rattle.ss_refusals.specs.declared.refusals.FaultIn.TheVariants as fault_in
use Rattle.ss_refusals.specs.Statuses.{fault_text}
use Rattle.ss_refusals.proofs.refusals.text_line.Goals as goal

pub returns-in-Catalog : goal.returns-in-Catalog
returns-in-Catalog c =
    let told = λ (site : FaultIn) (step : ℕ). IfOk c.line_of.result (λ text. string_bytes text ≡
    fault_text site c.args.line (string (codes "C4") ∷ string c.args.name.now ∷ count step ∷ string c.args.fault.now ∷ count c.args.at ∷ [])) in
    subst (λ (site : FaultIn). told site c.args.step) (sym c.in-Catalog.is) (subst (told fault_in.Catalog) c.from.ensures c.line_of.ensures)

pub returns-in-Body : goal.returns-in-Body
returns-in-Body c =
    let told = λ (site : FaultIn) (step : ℕ). IfOk c.line_of-in-Body.result (λ text. string_bytes text ≡
    fault_text site c.args.line (string (codes "C4") ∷ string c.args.name.now ∷ count step ∷ string c.args.fault.now ∷ count c.args.at ∷ [])) in
    subst (λ (site : FaultIn). told site c.args.step) (sym c.in-Body.is) (subst (told fault_in.Body) c.from.ensures c.line_of-in-Body.ensures)
