-- What a `return` does, by itself.
use Rattle.std.specs.Prelude.{◌++◌, Ok}
use Rattle.ss_value.specs.Rows.{Rows}
use Rattle.ss_model.specs.declared.entry.Reason.TheVariants.{ReplyFull}
use Rattle.ss_model.specs.Results.{OrAbort, abort_when}
use Rattle.ss_model.specs.Statements.{Execution}
use Rattle.ss_model.specs.Bodies.{exceeds_row_limit}

-- a `return`: the rows join the reply, where it has room for them
abbrev pub reply_rows : Rows → Execution → OrAbort Execution
reply_rows rows w = abort_when (exceeds_row_limit w.reply rows) ReplyFull (Ok (record w { reply = w.reply ++ rows }))
