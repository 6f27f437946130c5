use Rattle.std.proofs.Common.{◌≡◌, ◌++◌, [], ◌∷◌, false, length, All, refl, sym, ap, subst, arith, rules, length-append}
use Rattle.std.proofs.lemmas.List.Elements.{All-push}
use Rattle.ss_model.specs.declared.entry.Entry.TheVariants.{Step}
use Rattle.ss_model.specs.declared.entry.Entry.{Entry}
use Rattle.ss_record.specs.Bounds.{IsRecordable}
use Rattle.ss_cmdlog.specs.Logged.{is_install}
use Rattle.ss_cmdlog_cases.proofs.stores.three_steps.Goals as goal

pub loop-batch-preserved : goal.loop-batch-preserved
loop-batch-preserved c =
    let pushed : c.push.new.self ≡ c.loop-batch.entries ++ Step 1 c.loop-batch.batch ∷ [] = search rules in
    record {
      recordable = subst (All IsRecordable) (sym pushed) (All-push IsRecordable c.loop-batch.entries (Step 1 c.loop-batch.batch) c.loop-batch.invariant.recordable tt);
      formed = subst (All (λ (e : Entry). is_install e ≡ false)) (sym pushed)
          (All-push (λ (e : Entry). is_install e ≡ false) c.loop-batch.entries (Step 1 c.loop-batch.batch) c.loop-batch.invariant.formed refl);
      count = omega (arith, ap length pushed, length-append c.loop-batch.entries (Step 1 c.loop-batch.batch ∷ []), c.loop-batch.invariant.count);
    }
