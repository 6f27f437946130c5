use Rattle.std.proofs.Common.{subst, sym, ap, ◌∙◌, unwrap_or}
use Rattle.ss_rows.specs.Certainty.{AlwaysHasTest}
use Rattle.ss_rows.proofs.limit_cut.always_has_answer.Goals as goal

pub returns-in-Some : goal.returns-in-Some
returns-in-Some c = λ yes tree is. subst AlwaysHasTest (ap (λ o. unwrap_or o tree) (sym c.in-Some.is ∙ is)) (c.always_has_test.ensures yes)
