use Rattle.std.proofs.Common.{◌≡◌, ℕ, true, List, Option, Ok, Err, Result, IfOk, slice_get, refl, sym, ap, subst, ◌∙◌}
use Rattle.ss_value.specs.Rows.{Row, Rows}
use Rattle.ss_model.specs.declared.catalog.Procedure.{Procedure}
use Rattle.ss_model.specs.declared.entry.Entry.{Entry}
use Rattle.ss_model.specs.declared.entry.Entry.TheVariants.{Step as StepEntry}
use Rattle.ss_model.specs.Database.{Database, fits_entry, has_body, has_call, has_step, run_procedure}
use Rattle.ss_model.specs.Batches.{output_batches}
use Rattle.ss_shard.specs.Bodies.{present_on}
use Rattle.ss_shard.specs.ShardValue.{ShardValue}
use Rattle.ss_shard.specs.Contents.{contents_of}
use Rattle.ss_shard.specs.Windows.{HoldsDatabase}
use Rattle.ss_proc.specs.declared.runner.Executed.{Executed}
use Rattle.ss_proc.specs.Entries.{IsNext, AreAtHand, AreBatchesOf, Installs, Ran}
use Rattle.ss_shard.specs.Sources.{number_in, push_outcome}
use Rattle.ss_shard.specs.Shards.{CanRollBack, Same}
use Rattle.ss_lemmas.proofs.Results.{error_so}
use Rattle.ss_model.specs.Batches.{pushed_batch}
use Rattle.ss_proc.proofs.Installing.{install_has, install_back, install_of, install_ran}
use Rattle.ss_proc.proofs.Standing.{call_ran, step_ran, named}
use Rattle.ss_proc.proofs.Pushing.{is_countable, push_ran, holds_same}
use Rattle.ss_proc.proofs.runner.PlainRunnerRunner.execute.Goals as goal

pub returns-in_ok-left-in-Call-clause-ok : goal.returns-in_ok-left-in-Call-clause-ok
returns-in_ok-left-in-Call-clause-ok c = λ db holds hand.
    let catalog = c.args.catalog.now in
    let n = c.in-Call.procedure in
    let args = c.in-Call.args in
    let client = c.in-Call.client in
    let index = c.in-Call.index in
    let fits = subst (λ (e : Entry). fits_entry catalog e ≡ true) c.in-Call.is c.requires.fits in
    let none = subst (λ (e : Entry). AreAtHand catalog db e c.args.inputs.now.batches.now) c.in-Call.is hand in
    let p = named (has_call client args) catalog.procedures n fits refl in
    let ran = c.in_ok-left-in-Call.ensures.ok p.0 p.1 in
    let made : Executed = record { outcome = c.in_ok-left-in-Call.left.outcome; emitted = c.new.result } in
    subst (λ (e : Entry). Ran catalog db e made c.run_procedure.new.shard) (sym c.in-Call.is)
    (call_ran catalog c.args.shard.now c.run_procedure.new.shard c.requires.committed.of_catalog c.run_procedure.ensures.of_catalog db holds client index n args p.0 p.1 fits c.in_ok-left-in-Call.left.outcome c.in_ok-left-in-Call.left.emitted
    (subst (λ (batches : List Rows). run_procedure catalog n (present_on catalog c.args.shard.now n p.0) args batches (contents_of c.args.shard.now) ≡ record { contents = contents_of c.run_procedure.new.shard; outcome = c.in_ok-left-in-Call.left.outcome; emitted = c.in_ok-left-in-Call.left.emitted }) none ran)
    c.in_ok-left-in-Call.ensures.back c.in_ok-left-in-Call.ensures.none made refl c.new.ensures)

three_ok : {A E : Type 0} (P Q R S : A → Type 0) → ((x : A) → P x → Q x → R x → S x) → (r : Result A E) → IfOk r P → IfOk r Q → IfOk r R → IfOk r S
three_ok P Q R S f (Ok x) p q r = f x p q r
three_ok P Q R S f (Err e) p q r = tt

pub returns-in_ok-left-in-Step-clause-ok : goal.returns-in_ok-left-in-Step-clause-ok
returns-in_ok-left-in-Step-clause-ok c =
    let catalog = c.args.catalog.now in
    let n = c.in-Step.procedure in
    let r = c.in-Step.batch in
    let old = c.args.shard.now in
    let new = c.run_procedure-in-Step.new.shard in
    let batches = c.args.inputs.now.batches.now in
    let left = c.in_ok-left-in-Step.left in
    let fits = subst (λ (e : Entry). fits_entry catalog e ≡ true) c.in-Step.is c.requires.fits in
    let next = subst (λ (e : Entry). IsNext e old) c.in-Step.is c.requires.next in
    let p = named has_step catalog.procedures n fits refl in
    let ran = subst (λ (args : Row). run_procedure catalog n (present_on catalog old n p.0) args batches (contents_of old) ≡ record { contents = contents_of new; outcome = left.outcome; emitted = left.emitted }) c.new-nothing.ensures (c.in_ok-left-in-Step.ensures.ok p.0 p.1) in
    three_ok
    (λ (e : Executed). e.outcome ≡ left.outcome)
    (λ (e : Executed). e.emitted ≡ output_batches catalog left.emitted (slice_get catalog.procedures n))
    (λ (e : Executed). c.with_outputs.new.shard ≡ new)
    (λ (e : Executed). (db : Database) → HoldsDatabase catalog old db → AreAtHand catalog db c.args.entry.now batches → Ran catalog db c.args.entry.now e c.with_outputs.new.shard)
    (λ e folds gave stays db holds hand.
    let mine = subst (λ (e : Entry). AreAtHand catalog db e batches) c.in-Step.is hand in
    let at = subst (λ (o : Option Procedure). AreBatchesOf db r batches o) p.1 mine in
    let batch = gave ∙ ap (output_batches catalog left.emitted) p.1 in
    subst (λ (entry : Entry). Ran catalog db entry e c.with_outputs.new.shard) (sym c.in-Step.is)
    (subst (λ (shard : ShardValue). Ran catalog db (StepEntry n r) e shard) (sym stays)
    (step_ran catalog old new c.requires.committed.of_catalog c.run_procedure-in-Step.ensures.of_catalog db holds n r p.0 p.1 fits next batches at left.outcome left.emitted ran c.in_ok-left-in-Step.ensures.back c.in_ok-left-in-Step.ensures.none e folds batch)))
    c.with_outputs.result c.with_outputs.ensures.ok c.with_outputs.ensures.emitted c.with_outputs.ensures.unchanged

pub returns-in_ok-left-in-Step-clause-holds : goal.returns-in_ok-left-in-Step-clause-holds
returns-in_ok-left-in-Step-clause-holds c =
    let catalog = c.args.catalog.now in
    let old = c.args.shard.now in
    let mid = c.run_procedure-in-Step.new.shard in
    let new = c.with_outputs.new.shard in
    error_so c.with_outputs.result ((before : ShardValue) → CanRollBack before mid → Same before new) ((db : Database) → HoldsDatabase catalog old db → HoldsDatabase catalog new db)
    (λ same db holds. holds_same catalog old new (same old c.in_ok-left-in-Step.ensures.back) db holds)
    c.with_outputs.ensures.err

pub run_push-requires-clause-countable : goal.run_push-requires-clause-countable
run_push-requires-clause-countable c =
    is_countable c.args.catalog.now c.in-Push.client c.in-Push.stream c.in-Push.seq c.in-Push.rows (subst (λ (e : Entry). fits_entry c.args.catalog.now e ≡ true) c.in-Push.is c.requires.fits)

two_ok : {A E : Type 0} (P Q S : A → Type 0) → ((x : A) → P x → Q x → S x) → (r : Result A E) → IfOk r P → IfOk r Q → IfOk r S
two_ok P Q S f (Ok x) p q = f x p q
two_ok P Q S f (Err e) p q = tt

pub returns-in-Push-clause-ok : goal.returns-in-Push-clause-ok
returns-in-Push-clause-ok c =
    let catalog = c.args.catalog.now in
    let old = c.args.shard.now in
    let new = c.run_push.new.shard in
    let s = c.in-Push.stream in
    let source = c.in-Push.source in
    let seq = c.in-Push.seq in
    let rows = c.in-Push.rows in
    let fits = subst (λ (e : Entry). fits_entry catalog e ≡ true) c.in-Push.is c.requires.fits in
    two_ok
    (λ (e : Executed). e.outcome ≡ push_outcome seq (number_in old.sources s source))
    (λ (e : Executed). e.emitted ≡ pushed_batch s rows e.outcome)
    (λ (e : Executed). (db : Database) → HoldsDatabase catalog old db → AreAtHand catalog db c.args.entry.now c.args.inputs.now.batches.now → Ran catalog db c.args.entry.now e new)
    (λ e folds gave db holds hand. subst (λ (entry : Entry). Ran catalog db entry e new) (sym c.in-Push.is)
    (push_ran catalog old new db holds c.in-Push.client c.in-Push.index s source seq rows fits c.run_push.ensures.same c.run_push.ensures.rest c.requires.committed.none_coming e folds gave))
    c.run_push.result c.run_push.ensures.ok c.run_push.ensures.emitted

pub run_install-requires : goal.run_install-requires
run_install-requires c =
    let catalog = c.args.catalog.now in
    let text = c.in-Install.text in
    let fits = subst (λ (e : Entry). fits_entry catalog e ≡ true) c.in-Install.is c.requires.fits in
    subst (λ (t : List ℕ). has_body catalog c.in-Install.procedure t ≡ true) (sym c.as_slice.ensures) (install_has catalog c.in-Install.client c.in-Install.procedure text fits)

installs : (c : goal.After-run_install) → Installs c.args.catalog.now c.in-Install.procedure c.in-Install.text c.args.shard.now c.run_install.new.shard
installs c = subst (λ (t : List ℕ). Installs c.args.catalog.now c.in-Install.procedure t c.args.shard.now c.run_install.new.shard) c.as_slice.ensures c.run_install.ensures.installs

pub returns-in-Install-clause-ok : goal.returns-in-Install-clause-ok
returns-in-Install-clause-ok c = λ db holds hand.
    let catalog = c.args.catalog.now in
    let fits = subst (λ (e : Entry). fits_entry catalog e ≡ true) c.in-Install.is c.requires.fits in
    subst (λ (e : Entry). Ran catalog db e c.run_install.result c.run_install.new.shard) (sym c.in-Install.is)
    (install_ran catalog c.args.shard.now c.run_install.new.shard db holds c.in-Install.client c.in-Install.index c.in-Install.procedure c.in-Install.text fits (installs c) c.run_install.result c.run_install.ensures.outcome c.run_install.ensures.emitted)

pub returns-in-Install-clause-of_catalog : goal.returns-in-Install-clause-of_catalog
returns-in-Install-clause-of_catalog c = install_of c.args.catalog.now c.args.shard.now c.run_install.new.shard c.in-Install.procedure c.in-Install.text (installs c) c.requires.committed.of_catalog

pub returns-in-Install-clause-back : goal.returns-in-Install-clause-back
returns-in-Install-clause-back c = install_back c.args.catalog.now c.args.shard.now c.run_install.new.shard c.in-Install.procedure c.in-Install.text (installs c) c.requires.committed
