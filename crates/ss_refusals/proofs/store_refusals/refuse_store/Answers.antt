use Rattle.std.proofs.Common.{◌≡◌, ℕ, List, sym, subst}
use Rattle.ss_recover.specs.declared.error.RecoverError.{RecoverError}
use Rattle.ss_recover.specs.declared.error.RecoverError.TheVariants as recovery
use Rattle.ss_refusals.specs.declared.status.Status.{Status}
use Rattle.ss_refusals.specs.Sinks.{SinkChange}
use Rattle.ss_refusals.specs.Statuses.{nothing_text}
use Rattle.ss_refusals.specs.StoreRefusals.{TellsRefusal, WritesWhole}
use Rattle.ss_refusals.proofs.store_refusals.refuse_store.Goals as goal

-- an empty disk was told
told_nothing : (w : SinkChange) (error : RecoverError) (ended : Status) (text : List ℕ) → error ≡ recovery.Nothing → text ≡ nothing_text → WritesWhole ended text w → TellsRefusal error ended w
told_nothing w error ended text is same wrote = subst (λ e. TellsRefusal e ended w) (sym is) (subst (λ t. WritesWhole ended t w) same wrote)

pub returns-in-Nothing-clause-told : goal.returns-in-Nothing-clause-told
returns-in-Nothing-clause-told g c = told_nothing _ c.args.error.now c.write_whole.result c.as_bytes.result.now c.in-Nothing.is c.as_bytes.ensures.value c.write_whole.ensures.written
