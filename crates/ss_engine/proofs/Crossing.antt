-- Threads may share an engine: part by part, since one search through all of them runs out of steps.
use denote.Builtin as builtin
use denote.Param.{param}
use denote.Ref.{NamedLft}
use denote.Struct.Field.{shr_ref_field, shr_slice_field, u64-field, u8-field}
use denote.Struct.Tuple.{TupleAt, type_at}
use denote.RattleType.{RattleType}
use denote.Param.Send.{IsSend, IsSync, sendable, shr_send, shr_slice_sync, shr_sync, view_sync}
use denote.Param.SendFields.{declared_send, declared_sync, variants_send}
use Rattle.std.proofs.Common.{List, [], ◌∷◌}
use Rattle.std.proofs.Crossing.{crosses}
use Rattle.std.specs.contracts.alloc.Global as global
use Rattle.std.specs.contracts.impls.GlobalAllocator.TheImpl as allocator
use Rattle.std.specs.contracts.option.Option as option
use Rattle.std.specs.contracts.sync.atomic.AtomicBool as flag
use Rattle.atomic_table.proofs.shared.Shared.TheSendSync as table
use Rattle.atomic_table.proofs.send_lease.SendLease.TheSendSync as lease
use Rattle.atomic_table.specs.contracts.owned.Table as owned
use Rattle.ss_commitlog.proofs.Crossing.{note_send}
use Rattle.ss_commitlog.specs.contracts.token.LogToken as token
use Rattle.ss_hand.proofs.Crossing.{partition_send}
use Rattle.ss_lanes.proofs.Crossing.{hub_sync}
use Rattle.ss_model.proofs.Crossing.{catalog_sync, request_sync}
use Rattle.ss_model.specs.contracts.entry.Request as request
use Rattle.ss_model.specs.declared.life.Life.{Ghosts}
use Rattle.ss_disk.specs.declared.disk.Disk.{Ghosts as DiskGhosts}
use Rattle.ss_receipts.proofs.CallerLemmas.{receipts_sync}
use Rattle.ss_receipts.specs.contracts.receipts.Receipts as receipts
use Rattle.ss_hand.specs.contracts.partition.Partition as partition
use Rattle.ss_hand.specs.contracts.partition.PartitionTagged.TheImpl as tagged
use Rattle.ss_party.specs.contracts.bays.Bays as bays
use Rattle.ss_party.specs.contracts.bays.Bays.TheInside as bays_inside
use Rattle.ss_party.specs.contracts.rule.BayRule as bay_rule
use Rattle.ss_engine.specs.contracts.engine.Engine as engine
use Rattle.ss_engine.specs.contracts.engine.Engine.TheInside as inside

module _ (I : RattleType) (life : Ghosts I.Denot) where
  parts_send : IsSend I → IsSend (option.the_row (partition.the_row I life))
  parts_send s = let b = partition_send I life s in variants_send (option.enum (partition.the_row I life)) (tt, ((search (sendable, crosses) depth 20, tt), tt))

  bays_sync : IsSend I → IsSync (bays.the_row (partition.the_row I life) (tagged.ghosts I life tagged.no_dict))
  bays_sync s =
      let b = partition_send I life s in
      let o = parts_send s in
      view_sync (bays_inside.the_row (partition.the_row I life) (tagged.ghosts I life tagged.no_dict)) _ _ _ _ (declared_sync (bays_inside.the_type (partition.the_row I life) (tagged.ghosts I life tagged.no_dict)) (
        declared_sync (owned.the_type (option.the_row (partition.the_row I life)) builtin.unit builtin.unit (bay_rule.the_row (partition.the_row I life)) global.the_row _ allocator.ghosts) (
          table.the_sync (option.the_row (partition.the_row I life)) builtin.unit builtin.unit (bay_rule.the_row (partition.the_row I life)) _ o,
          (
            search sendable,
            (
              search sendable,
              (search (lease.the_sync, crosses, sendable) depth 20, (search (lease.the_sync, crosses, sendable) depth 20, (search (crosses, sendable) depth 20, tt))),
            ),
          ),
        ),
        (search (sendable, crosses) depth 20, (search (sendable, crosses) depth 60 fits 30000, tt)),
      ))

  pub engine_sync : (N G : RattleType) → IsSend I → IsSync I → IsSync N → IsSync G → IsSync (engine.the_row I N G life)
  engine_sync N G s y n g =
      let a = hub_sync I life s y in
      let b = bays_sync s in
      let c = catalog_sync in
      view_sync (inside.the_row I N G life) _ _ _ _ (declared_sync (inside.the_type I N G life) (
        search (crosses, sendable) depth 40,
        (
          search (crosses, sendable) depth 40,
          (
            search (crosses, sendable) depth 40,
            (search (crosses, sendable) depth 40, (search (crosses, sendable) depth 40, (search (crosses, sendable) depth 40, (search (crosses, sendable) depth 40, tt)))),
          ),
        ),
      ))

-- ---- what the closures of a run hold: of its tuple no fact hangs on a name, and of its references none on how they are written

module _ (I N G R : RattleType) (life : Ghosts I.Denot) (r e : NamedLft) where
  abbrev shared_engine : RattleType
  shared_engine = engine.the_row (param 0 I) (param 1 N) (param 2 G) life

  -- an executor's: the runtime, the heap, the engine, a note, a partition's number, a flag
  abbrev pub executor_holds : NamedLft → List RattleType
  executor_holds f =
      (shr_ref_field r (param 3 R) tt).row ∷ global.the_row ∷ (shr_ref_field e shared_engine tt).row ∷ token.the_row (param 0 I) life ∷ u8-field.row ∷ (shr_ref_field f flag.the_row tt).row ∷ []

  module _ (D : RattleType) (disk : DiskGhosts D.Denot) where
    abbrev shared_receipts : RattleType
    shared_receipts = receipts.the_row (param 0 I) (param 4 D) life disk

    -- the clients': the runtime, the heap, the engine, the receipts, the requests, and where each client begins
    abbrev pub clients_hold : NamedLft → NamedLft → NamedLft → NamedLft → List RattleType
    clients_hold a p q b =
        (shr_ref_field r (param 3 R) tt).row ∷ (shr_ref_field a global.the_row tt).row ∷ (shr_ref_field e shared_engine tt).row ∷ (shr_ref_field p shared_receipts tt).row ∷ (shr_slice_field q request.the_row tt).row ∷ (shr_slice_field b u64-field.row tt).row ∷ []

  module _ (s : IsSend (param 0 I)) (y : IsSync (param 0 I)) (n : IsSync (param 1 N)) (g : IsSync (param 2 G)) (t : IsSync (param 3 R)) where
    pub executor_send : (f : NamedLft) → IsSend (TupleAt [] (executor_holds f))
    executor_send f =
        let k = engine_sync (param 0 I) life (param 1 N) (param 2 G) s y n g in
        let m = note_send (param 0 I) life s in
        declared_send (type_at [] (executor_holds f)) (shr_send _ _ _ t, (search (crosses, sendable) depth 20, (shr_send _ _ _ k, (m, (search sendable, (search (crosses, sendable) depth 20, tt))))))

    pub clients_sync : (D : RattleType) (disk : DiskGhosts D.Denot) → IsSend (param 4 D) → (a p q b : NamedLft) → IsSync (TupleAt [] (clients_hold D disk a p q b))
    clients_sync D disk d a p q b =
        let k = engine_sync (param 0 I) life (param 1 N) (param 2 G) s y n g in
        let l = receipts_sync (param 0 I) (param 4 D) life disk s d in
        let w : IsSync u64-field.row = search (crosses, sendable) depth 20 in
        declared_sync (type_at [] (clients_hold D disk a p q b)) (shr_sync _ _ _ t, (search (crosses, sendable) depth 20, (shr_sync _ _ _ k, (shr_sync _ _ _ l, (shr_slice_sync _ _ _ request_sync, (shr_slice_sync _ _ _ w, tt))))))
