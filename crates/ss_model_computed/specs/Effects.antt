-- What a statement made, as an effect of the definitions.
use Rattle.std.specs.Prelude.{◌≡◌}
use Rattle.ss_model.specs.Contents.{Contents}
use Rattle.ss_model.specs.Statements.{StatementEffect, Wrote, Staged}
use Rattle.ss_model_computed.specs.declared.contents.Contents.{Contents as HeldContents}
use Rattle.ss_model_computed.specs.declared.effects.Effect.{Effect}
use Rattle.ss_model_computed.specs.declared.effects.Effect.TheVariants.{Wrote as DidWrite, Staged as DidStage}

-- the effect that one of the program is, where these are the contents now: new tables, or rows to be staged in a window
abbrev pub effect_of : Effect → Contents → StatementEffect
effect_of DidWrite s = Wrote s
effect_of (DidStage n rows) s = Staged n rows

-- where rows are to be staged, contents are as before
abbrev pub LeavesContents : Effect → HeldContents → HeldContents → Type 0
LeavesContents DidWrite old new = Unit {0}
LeavesContents (DidStage n rows) old new = new ≡ old
