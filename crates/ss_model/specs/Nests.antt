-- Nests: several procedures of a workflow as one.
use Rattle.std.specs.Prelude.{◌≡◌, ◌≤◌, ℕ, suc, ◌+◌, ◌==◌, Bool, true, false, not, ◌&&◌, cond, List, [], ◌∷◌, ◌++◌, map, get_or, length, replicate, slice_get, Option, Some, None, Ok, Err, unwrap_or}
use Rattle.std.specs.List.{filter, flat_map, list_any, list_all, range_with_len}
use Rattle.std.specs.Option.{option_map}
use Rattle.ss_value.specs.Rows.{Rows}
use Rattle.ss_sql_trees.specs.declared.typed.Condition.{Condition}
use Rattle.ss_sql_trees.specs.declared.typed.Joined.{Joined}
use Rattle.ss_sql_trees.specs.declared.typed.Query.{Query}
use Rattle.ss_sql_trees.specs.declared.typed.SourceId.{SourceId}
use Rattle.ss_sql_trees.specs.declared.typed.SourceId.TheVariants.{Batch as FromBatch}
use Rattle.ss_sql_trees.specs.declared.typed.Statement.{Statement}
use Rattle.ss_sql_trees.specs.declared.typed.Statement.TheVariants.{InsertQuery}
use Rattle.ss_model.specs.declared.catalog.Body.{Body}
use Rattle.ss_model.specs.declared.catalog.Catalog.{Catalog}
use Rattle.ss_model.specs.declared.catalog.Inner.{Inner}
use Rattle.ss_model.specs.declared.catalog.Inner.TheVariants.{Sql as InnerSql, AbortIf as InnerAbortIf}
use Rattle.ss_model.specs.declared.catalog.Nest.{Nest}
use Rattle.ss_model.specs.declared.catalog.Procedure.{Procedure}
use Rattle.ss_model.specs.declared.catalog.Step.{Step}
use Rattle.ss_model.specs.declared.catalog.Step.TheVariants.{Sql, AbortIf, ForEach, Emit, Local, Return}
use Rattle.ss_model.specs.declared.catalog.Touch.{Touch}
use Rattle.ss_model.specs.declared.catalog.WindowDef.{WindowDef}
use Rattle.ss_model.specs.declared.entry.Outcome.{Outcome}
use Rattle.ss_model.specs.declared.entry.Outcome.TheVariants.{Done, Aborted}
use Rattle.ss_model.specs.Results.{OrAbort, ◌>>=◌, try_fold, and_behind, map_indexed}
use Rattle.ss_model.specs.Contents.{Contents}
use Rattle.ss_model.specs.Bodies.{owned_batch_windows}
use Rattle.ss_model.specs.Database.{BodyResult, run_procedure}
use Rattle.ss_model.specs.Orders.{procedure_emits, procedure_takes}
use Rattle.ss_model.specs.Settling.{streams_on}
use Rattle.ss_model.specs.CatalogForm.{all_distinct}
use Rattle.ss_model.specs.Accepted.{Accepted}

-- ---- what a nest means: its members, one after another

-- what members have left so far: tables and windows, and a batch per stream
pub record Handed : Type 0 where
  pub contents : Contents
  pub batches : List Rows

-- nothing is left yet
abbrev pub handed_none : Catalog → Contents → Handed
handed_none catalog s = record { contents = s; batches = replicate (length catalog.streams) [] }

-- the batches of a member behind those that were there, stream by stream
abbrev pub joined_batches : List Rows → List Rows → List Rows
joined_batches old new = map_indexed (λ s rows. get_or old s [] ++ rows) new

-- this, where the outcome is not an abort
abbrev pub unless_aborted : Outcome → Handed → OrAbort Handed
unless_aborted (Aborted reason) h = Err reason
unless_aborted _ h = Ok h

-- what a member leaves behind those before it; an abort ends the nest
abbrev pub hand_on : Handed → BodyResult → OrAbort Handed
hand_on h r = unless_aborted r.outcome (record { contents = r.contents; batches = joined_batches h.batches r.emitted })

-- a member runs on what those before it left, and on these batches
abbrev pub run_member : Catalog → ℕ → Option Procedure → (Procedure → List Rows) → Handed → OrAbort Handed
run_member catalog q None batches h = Ok h
run_member catalog q (Some p) batches h = hand_on h (run_procedure catalog q p [] (batches p) h.contents)

-- on each input of a member, the batch that those before it left there
abbrev pub handed_batches : Handed → Procedure → List Rows
handed_batches h p = map (λ s. get_or h.batches s []) p.inputs

-- a member behind others
abbrev pub later_member : Catalog → ℕ → Handed → OrAbort Handed
later_member catalog q h = run_member catalog q (slice_get catalog.procedures q) (handed_batches h) h

-- the members in order: the first takes the batches of the nest, the others what those before them left
abbrev pub run_members : Catalog → List ℕ → List Rows → Contents → OrAbort Handed
run_members catalog [] batches s = Ok (handed_none catalog s)
run_members catalog (q ∷ qs) batches s =
    run_member catalog q (slice_get catalog.procedures q) (λ p. batches) (handed_none catalog s) >>= try_fold (later_member catalog) qs

-- what a nest leaves: all that its members left, or after an abort all as before and no batch
abbrev pub nest_result : Catalog → Contents → OrAbort Handed → BodyResult
nest_result catalog s (Ok h) = record { contents = h.contents; outcome = Done []; emitted = h.batches }
nest_result catalog s (Err r) = record { contents = s; outcome = Aborted r; emitted = replicate (length catalog.streams) [] }

-- the meaning of a nest with these members
abbrev pub run_nest : Catalog → List ℕ → List Rows → Contents → BodyResult
run_nest catalog members batches s = nest_result catalog s (run_members catalog members batches s)

-- ---- positions: in a nest, those of the inputs of its first member, and behind them those of its inner streams

-- where a stream stands in a list, from 0, and the list's length where it does not
abbrev pub position_of : ℕ → List ℕ → ℕ
position_of s [] = 0
position_of s (t ∷ ts) = cond (t == s) 0 (suc (position_of s ts))

-- where the input of this number of a member stands in what the nest reads, and behind all of it where there is no such input
abbrev pub moved_input : List ℕ → List ℕ → ℕ → ℕ
moved_input reads inputs i = get_or (map (λ s. position_of s reads) inputs) i (length reads)

module _ (move : ℕ → ℕ) where
  abbrev pub moved_source : SourceId → SourceId
  moved_source (FromBatch i) = FromBatch (move i)
  moved_source from = from

  abbrev pub moved_join : Joined → Joined
  moved_join j = record j { source = moved_source j.source }

  abbrev pub moved_query : Query → Query
  moved_query q = record q { from = moved_source q.from; joined = option_map moved_join q.joined }

  abbrev pub moved_condition : Condition → Condition
  moved_condition c = record c { query = moved_query c.query }

  abbrev pub moved_statement : Statement → Statement
  moved_statement (InsertQuery target q) = InsertQuery target (moved_query q)
  moved_statement st = st

  abbrev pub moved_inner : Inner → Inner
  moved_inner (InnerSql s) = InnerSql (moved_statement s)
  moved_inner (InnerAbortIf c code) = InnerAbortIf (moved_condition c) code

  -- an emit to one of the inner streams becomes a step on its inner batch
  abbrev pub moved_emit : Bool → ℕ → Query → Step
  moved_emit true s q = Local s q
  moved_emit false s q = Emit s q

  abbrev pub moved_step : List ℕ → Step → Step
  moved_step inner (Sql s) = Sql (moved_statement s)
  moved_step inner (AbortIf c code) = AbortIf (moved_condition c) code
  moved_step inner (ForEach i body) = ForEach (move i) (map moved_inner body)
  moved_step inner (Emit s q) = moved_emit (list_any (λ i. i == s) inner) s (moved_query q)
  moved_step inner (Local s q) = Local s (moved_query q)
  moved_step inner (Return q) = Return (moved_query q)

-- ---- the nest as one procedure

-- whether a member emits to a stream, and whether one takes it
abbrev pub members_emit : Catalog → List ℕ → ℕ → Bool
members_emit catalog members s = list_any (λ q. procedure_emits catalog q s) members

abbrev pub members_take : Catalog → List ℕ → ℕ → Bool
members_take catalog members s = list_any (λ q. procedure_takes catalog q s) members

-- the streams between members, in rising order
abbrev pub inner_streams : Catalog → List ℕ → List ℕ
inner_streams catalog members = filter (λ s. members_emit catalog members s && members_take catalog members s) (range_with_len 0 (length catalog.streams))

-- the body of a member, where the nest reads these streams, of which these are inner ones
abbrev pub moved_body : List ℕ → List ℕ → Option Procedure → List Step
moved_body reads inner None = []
moved_body reads inner (Some p) = map (moved_step (moved_input reads p.inputs) inner) p.body

-- the bodies of members, one behind another
abbrev pub joined_body : Catalog → List ℕ → List ℕ → List ℕ → List Step
joined_body catalog reads inner members = flat_map (λ q. moved_body reads inner (slice_get catalog.procedures q)) members

-- a nest's procedure: its first member with the nest's name, the inner streams, and all bodies
abbrev pub nest_from : Catalog → Nest → List ℕ → Procedure → Procedure
nest_from catalog nest inner first = record {
  name = nest.name;
  kind = first.kind;
  args = first.args;
  inputs = first.inputs;
  inner = inner;
  touch = first.touch;
  body = joined_body catalog (and_behind first.inputs inner) inner nest.members;
}

-- ---- the catalogue with nests

-- the first member
abbrev pub nest_head : Nest → Option ℕ
nest_head nest = slice_get nest.members 0

-- whether a procedure is the first of these, and whether it is another one
abbrev pub is_head : ℕ → List ℕ → Bool
is_head q [] = false
is_head q (m ∷ ms) = m == q

abbrev pub is_tail : ℕ → List ℕ → Bool
is_tail q [] = false
is_tail q (m ∷ ms) = list_any (λ n. n == q) ms

-- where a list has an item for each procedure, by number: what stands in the place of an item is what a nest has that the
-- procedure begins, nothing where it is another member, or else the item itself
abbrev pub item_in_place : {A : Type 0} → (Nest → A → A) → List Nest → ℕ → A → List A
item_in_place of_nest [] q x = x ∷ []
item_in_place of_nest (nest ∷ nests) q x =
    cond (is_head q nest.members) (of_nest nest x ∷ []) (cond (is_tail q nest.members) [] (item_in_place of_nest nests q x))

-- the same of items from this number on
abbrev pub items_in_place : {A : Type 0} → (Nest → A → A) → List Nest → ℕ → List A → List A
items_in_place of_nest nests q [] = []
items_in_place of_nest nests q (x ∷ xs) = item_in_place of_nest nests q x ++ items_in_place of_nest nests (suc q) xs

-- the procedure of a nest, whose first member this is
abbrev pub nest_procedure : Catalog → Nest → Procedure → Procedure
nest_procedure catalog nest first = nest_from catalog nest (inner_streams catalog nest.members) first

-- what stands in the place of a procedure, and of procedures from a number on
abbrev pub in_place : Catalog → List Nest → ℕ → Procedure → List Procedure
in_place catalog nests q p = item_in_place (nest_procedure catalog) nests q p

abbrev pub nested_procedures : Catalog → List Nest → ℕ → List Procedure → List Procedure
nested_procedures catalog nests q ps = items_in_place (nest_procedure catalog) nests q ps

-- the same of the texts of their own bodies: a nest's is empty
abbrev pub text_in_place : List Nest → ℕ → List ℕ → List (List ℕ)
text_in_place nests q text = item_in_place (λ nest own. []) nests q text

abbrev pub nested_texts : List Nest → ℕ → List (List ℕ) → List (List ℕ)
nested_texts nests q texts = items_in_place (λ nest own. []) nests q texts

-- the same of the bodies that may be installed: for a nest none may
abbrev pub nested_spares : List Nest → ℕ → List (List Body) → List (List Body)
nested_spares nests q spares = items_in_place (λ nest bodies. []) nests q spares

-- the procedure that stands for one: the first member of its nest, or else itself
abbrev pub stands_for : List Nest → ℕ → ℕ
stands_for [] q = q
stands_for (nest ∷ nests) q = cond (list_any (λ n. n == q) nest.members) (unwrap_or (nest_head nest) q) (stands_for nests q)

-- the number that a procedure of the catalogue has in the one with nests: how many stand before the one that stands for it
abbrev pub nested_number : List Nest → ℕ → ℕ
nested_number nests q = length (filter (λ n. stands_for nests n == n) (range_with_len 0 (stands_for nests q)))

-- a window of the catalogue in the one with nests: a nest owns those of its members
abbrev pub nested_window : List Nest → WindowDef → WindowDef
nested_window nests d = record d { owner = nested_number nests d.owner }

-- the catalogue with nests, and with this text
abbrev pub nested_catalog : Catalog → List Nest → List ℕ → Catalog
nested_catalog catalog nests text = record catalog {
  windows = map (nested_window nests) catalog.windows;
  procedures = nested_procedures catalog nests 0 catalog.procedures;
  own_texts = nested_texts nests 0 catalog.own_texts;
  spares = nested_spares nests 0 catalog.spares;
  text = text;
}

-- ---- which procedures may be a nest

-- each input of a member is emitted by one of those before it
abbrev pub FedBy : Catalog → List ℕ → Option Procedure → Type 0
FedBy catalog before None = ⊥
FedBy catalog before (Some p) = list_all (members_emit catalog before) p.inputs ≡ true

-- the members behind these take only what those before them emit
abbrev pub EachFed : Catalog → List ℕ → List ℕ → Type 0
EachFed catalog before [] = Unit {0}
EachFed catalog before (q ∷ qs) = FedBy catalog before (slice_get catalog.procedures q) × EachFed catalog (before ++ q ∷ []) qs

-- the touch set of a procedure is this one
abbrev pub touch_of : Catalog → ℕ → Option Touch
touch_of catalog q = option_map (λ p. p.touch) (slice_get catalog.procedures q)

-- the first of these, which takes what comes from outside, and the others, which are fed by those before them
abbrev pub IsClosed : Catalog → List ℕ → Type 0
IsClosed catalog [] = ⊥
IsClosed catalog (q ∷ qs) = EachFed catalog (q ∷ []) qs

-- no member is there twice
abbrev pub numbers_apart : List ℕ → Bool
numbers_apart [] = true
numbers_apart (n ∷ ns) = not (list_any (λ m. m == n) ns) && numbers_apart ns

-- procedures that may be one nest
pub record MayNest (catalog : Catalog) (members : List ℕ) : Type 0 where
  -- from two to eight
  pub several : 2 ≤ length members
  pub few : length members ≤ 8
  -- each is a border or an interior procedure, and none is there twice
  pub streaming : (q : ℕ) → list_any (λ n. n == q) members ≡ true → streams_on catalog q ≡ true
  pub apart : numbers_apart members ≡ true
  -- what comes from outside comes to the first
  pub closed : IsClosed catalog members
  -- a stream between members is no other procedure's
  pub inside : (s q : ℕ) → members_emit catalog members s ≡ true → members_take catalog members s ≡ true → procedure_takes catalog q s ≡ true → list_any (λ n. n == q) members ≡ true
  -- they touch the same
  pub same_touch : (p q : ℕ) → list_any (λ n. n == p) members ≡ true → list_any (λ n. n == q) members ≡ true → touch_of catalog p ≡ touch_of catalog q
  -- none has a window of batches
  pub by_rows : (q : ℕ) → list_any (λ n. n == q) members ≡ true → owned_batch_windows catalog q ≡ []

-- no procedure has inner streams or steps on them: a catalogue as it is written, before its nests are joined
abbrev pub is_plain_step : Step → Bool
is_plain_step (Local s q) = false
is_plain_step _ = true

abbrev pub IsPlain : Catalog → Type 0
IsPlain catalog = (q : ℕ) (p : Procedure) → slice_get catalog.procedures q ≡ Some p → (p.inner ≡ []) × (list_all is_plain_step p.body ≡ true)

-- nests of a plain catalogue: each may be one, and no procedure is in two
pub record AreNests (catalog : Catalog) (nests : List Nest) : Type 0 where
  pub plain : IsPlain catalog
  pub each : (i : ℕ) (nest : Nest) → slice_get nests i ≡ Some nest → MayNest catalog nest.members
  -- a nest's name is no other's, also no procedure's
  pub named : all_distinct (map (λ (nest : Nest). nest.name) nests ++ map (λ (p : Procedure). p.name) catalog.procedures) ≡ true
  pub once : numbers_apart (flat_map (λ (nest : Nest). nest.members) nests) ≡ true

-- law: a nest's run as one procedure is the run of its members, one after another
abbrev pub NestsRunAsMembers : Type 0
NestsRunAsMembers =
    (catalog : Catalog) → Accepted catalog → (nests : List Nest) (text : List ℕ) → AreNests catalog nests →
    (i : ℕ) (nest : Nest) → slice_get nests i ≡ Some nest → (head : ℕ) (first : Procedure) → nest_head nest ≡ Some head → slice_get catalog.procedures head ≡ Some first →
    (batches : List Rows) (s : Contents) → length batches ≡ length first.inputs →
    run_procedure (nested_catalog catalog nests text) (nested_number nests head) (nest_procedure catalog nest first) [] batches s
    ≡ run_nest catalog nest.members batches s

-- law: in the catalogue with nests the number of a nest is that of its procedure
abbrev pub NestsStandThere : Type 0
NestsStandThere =
    (catalog : Catalog) → (nests : List Nest) (text : List ℕ) → AreNests catalog nests →
    (i : ℕ) (nest : Nest) → slice_get nests i ≡ Some nest → (head : ℕ) (first : Procedure) → nest_head nest ≡ Some head → slice_get catalog.procedures head ≡ Some first →
    slice_get (nested_catalog catalog nests text).procedures (nested_number nests head) ≡ Some (nest_procedure catalog nest first)

-- law: a catalogue with nests is accepted
abbrev pub NestedIsAccepted : Type 0
NestedIsAccepted =
    (catalog : Catalog) → Accepted catalog → (nests : List Nest) (text : List ℕ) → AreNests catalog nests → Accepted (nested_catalog catalog nests text)
