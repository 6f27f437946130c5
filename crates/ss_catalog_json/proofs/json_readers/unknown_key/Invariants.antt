use Rattle.std.proofs.Common.{◌≡◌, map}
use Rattle.serde_json.specs.View.{members_view}
use Rattle.ss_catalog_json.specs.Readings.{unknown_key}
use Rattle.ss_catalog_json.proofs.json_readers.unknown_key.Given as goal

abbrev pub invariant-loop-key : goal.invariant-loop-key
invariant-loop-key l =
    unknown_key (map (λ k. k.now) l.keys) (members_view l.fn.members.entries) ≡ unknown_key (map (λ k. k.now) l.keys) (members_view l.key-iterator)
