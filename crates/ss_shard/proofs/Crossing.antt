-- A thread may hand a shard on to another.
use denote.Param.Send.{IsSend, sendable}
use Rattle.std.proofs.Crossing.{crosses}
use Rattle.std.proofs.MapsCrossing as maps
use Rattle.ss_index.proofs.Crossing.{indexes_send}
use Rattle.ss_table.proofs.Crossing.{table_send}
use Rattle.ss_undo.proofs.Crossing.{undo_send}
use Rattle.ss_window.proofs.Crossing.{window_send}
use Rattle.ss_shard.specs.contracts.shard.Shard as shard
use Rattle.ss_shard.specs.contracts.sources.Sources as sources

sources_send : IsSend sources.the_row
sources_send = search (crosses, maps.crosses, sendable) depth 60 fits 20000

pub shard_send : IsSend shard.the_row
shard_send = let s = sources_send in let t = table_send in let i = indexes_send in let w = window_send in let u = undo_send in search (sendable, crosses) depth 60 fits 30000
