-- The program's contents, executions and contexts, as those of the definitions.
use Rattle.std.specs.Option.{option_copied}
use Rattle.ss_model.specs.Contents.{Contents}
use Rattle.ss_model.specs.Statements.{Execution, Context}
use Rattle.ss_model_computed.specs.declared.contents.Contents.{Contents as HeldContents}
use Rattle.ss_model_computed.specs.declared.contents.Execution.{Execution as HeldExecution}
use Rattle.ss_model_computed.specs.declared.contents.Context.{Context as HeldContext}

-- the contents that contents of the program are
abbrev pub contents_of : HeldContents → Contents
contents_of c = record { tables = c.tables; windows = c.windows }

-- the state of an execution that one of the program is
abbrev pub execution_of : HeldExecution → Execution
execution_of w = record {
  contents = contents_of w.contents;
  open_units = w.open_units;
  emitted = w.emitted;
  reply = w.reply;
}

-- the context that one of the program is
abbrev pub context_of : HeldContext → Context
context_of c = record {
  catalog = c.catalog.now;
  procedure = c.procedure;
  args = c.args.now;
  batches = c.batches.now;
  inner = c.inner.now;
  split_value = option_copied c.split_value;
}
