-- Lists that go on by steps alone.
use Rattle.std.proofs.Common.{◌≡◌, ◌∙◌, ℕ, Bool, true, false, not, cond, List, [], ◌∷◌, ◌++◌, append_assoc, append-nil, ap, sym, refl}
use Rattle.ss_model.specs.declared.entry.Entry.{Entry}
use Rattle.ss_model.specs.declared.entry.Entry.TheVariants.{Step as StepEntry}
use Rattle.ss_model.specs.declared.entry.Listed.{Listed}
use Rattle.ss_model.specs.Report.{is_step}
use Rattle.ss_run.specs.RunAnswers.{client_entries}
use Rattle.ss_run.specs.BySteps.{GoesOnBySteps}
use Rattle.ss_run.specs.Stands.{Joined}

pub client_append : (xs ys : List Listed) → client_entries (xs ++ ys) ≡ client_entries xs ++ client_entries ys
client_append [] ys = refl
client_append (x ∷ xs) ys = by (not (is_step x.entry)) (client_append xs ys)
  where
    by : (b : Bool) → client_entries (xs ++ ys) ≡ client_entries xs ++ client_entries ys → cond b (x.entry ∷ client_entries (xs ++ ys)) (client_entries (xs ++ ys)) ≡ cond b (x.entry ∷ client_entries xs) (client_entries xs) ++ client_entries ys
    by true e = ap (λ es. x.entry ∷ es) e
    by false e = e

pub none_yet : (list : List Listed) → GoesOnBySteps list list
none_yet list = record { steps = []; is = sym (append-nil list); all_steps = refl }

-- one step more
pub step_more : (list mid new : List Listed) (q r : ℕ) → GoesOnBySteps list mid → Joined mid new (StepEntry q r) → GoesOnBySteps list new
step_more list mid new q r on joined =
    let last : List Listed = record { entry = StepEntry q r; outcome = joined.outcome } ∷ [] in
    record {
      steps = on.steps ++ last;
      is = joined.joined ∙ ap (λ (xs : List Listed). xs ++ last) on.is ∙ append_assoc list on.steps last;
      all_steps = client_append on.steps last ∙ ap (λ (es : List Entry). es ++ []) on.all_steps;
    }
