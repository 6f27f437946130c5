-- Where the first request of each client and index stands.
use Rattle.std.specs.Prelude.{◌≡◌, ◌==◌, ◌&&◌, ◌++◌, ℕ, suc, cond, List, [], ◌∷◌, length, slice_get, Option, Some, None, option_and_then}
use Rattle.std.specs.List.{count_by}
use Rattle.std.specs.declared.cmp.Ordering.{Ordering}
use Rattle.std.specs.Ordering.{nat_cmp, ordering_then, is_eq}
use Rattle.std.specs.BTreeMap.{BTreeMap, get}
use Rattle.serde_json.specs.Data.{Data}
use Rattle.ss_lines.specs.declared.line.Line.{Line}
use Rattle.ss_model.specs.declared.entry.Request.{Request}
use Rattle.ss_report_lines.specs.declared.kind.LineKind.{LineKind}
use Rattle.ss_report_lines.specs.declared.kind.LineKind.TheVariants.{Call, Push, Install}
use Rattle.ss_report_lines.specs.Said.{said}
use Rattle.ss_audit_laws.specs.Shape.{line_kind}
use Rattle.ss_audit.specs.declared.positions.Placed.{Placed}

-- where the first of these stands that is this client's request of this index
abbrev pub first_position : ℕ → ℕ → List Placed → Option ℕ
first_position client index [] = None
first_position client index (p ∷ ps) = cond (client == p.client && index == p.index) (Some p.position) (first_position client index ps)

-- the order of requests in a map
abbrev pub request_cmp : ℕ × ℕ → ℕ × ℕ → Ordering
request_cmp x y = ordering_then (nat_cmp x.0 y.0) (nat_cmp x.1 y.1)

-- where a map has a client's request of this index
abbrev pub position_in : BTreeMap (ℕ × ℕ) ℕ → ℕ → ℕ → Option ℕ
position_in first client index = get request_cmp first (client, index)

-- a map has what another one has, and where this request stands
abbrev pub HasToo : Placed → BTreeMap (ℕ × ℕ) ℕ → BTreeMap (ℕ × ℕ) ℕ → Type 0
HasToo p old new = (q : ℕ × ℕ) → get request_cmp new q ≡ cond (is_eq (request_cmp (p.client, p.index) q)) (Some p.position) (get request_cmp old q)

-- a map has the first position of each of these
abbrev pub Finds : List Placed → BTreeMap (ℕ × ℕ) ℕ → Type 0
Finds requests first = (client index : ℕ) → position_in first client index ≡ first_position client index requests

-- ---- of what

-- the requests of a script, each at its own place in it, where `earlier` are those before these
abbrev pub placed_requests : List Request → List Request → List Placed
placed_requests earlier [] = []
placed_requests earlier (r ∷ rs) =
    record { client = r.client; index = count_by (λ x. x.client == r.client) earlier; position = length earlier } ∷ placed_requests (earlier ++ r ∷ []) rs

-- the client and the index of the request that a line of this kind is about
abbrev pub asked_by : Option LineKind → Option (ℕ × ℕ)
asked_by (Some (Call client index)) = Some (client, index)
asked_by (Some (Push client index)) = Some (client, index)
asked_by (Some (Install client index)) = Some (client, index)
asked_by _ = None

-- these behind the one that stands here, if one does
abbrev pub behind_placed : ℕ → Option (ℕ × ℕ) → List Placed → List Placed
behind_placed position None ps = ps
behind_placed position (Some by) ps = record { client = by.0; index = by.1; position = position } ∷ ps

-- the requests that entries' lines are about, each where its line stands, from this position on
abbrev pub placed_lines : ℕ → List Line → List Placed
placed_lines position [] = []
placed_lines position (l ∷ ls) = behind_placed position (asked_by (line_kind l)) (placed_lines (suc position) ls)

-- what the line at a position says
abbrev pub said_at : List Line → Option ℕ → Option Data
said_at ls o = option_and_then (λ at. option_and_then (λ (l : Line). said l.bytes) (slice_get ls at)) o
