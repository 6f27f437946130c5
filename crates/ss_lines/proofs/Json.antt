-- Which bytes are a JSON value.
use Rattle.std.proofs.Common.{◌≡◌, ℕ, List, None, cond, eq-eqb, ap}
use Rattle.std.specs.Str.{IsUtf8}
use Rattle.std.proofs.lemmas.Str.{utf8_valid_len-IsUtf8}
use Rattle.serde_json.specs.Read.{read}
use Rattle.ss_lines.specs.Json.{json_of}

pub json_of-text : (bytes : List ℕ) → IsUtf8 bytes → json_of bytes ≡ read bytes
json_of-text bytes h = ap (λ b. cond b (read bytes) None) (eq-eqb _ _ (utf8_valid_len-IsUtf8 bytes h))
