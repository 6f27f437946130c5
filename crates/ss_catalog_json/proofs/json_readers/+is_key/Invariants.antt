use Rattle.std.proofs.Common.{length}
use Rattle.ss_catalog_json.proofs.json_readers.+is_key.Given as goal

abbrev pub decreases-is_key : goal.decreases-is_key
decreases-is_key l = length l.keys.now
