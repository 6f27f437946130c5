-- A catalogue is accepted with whatever bodies may stand in it.
use Rattle.std.proofs.Common.{◌≡◌, ◌∙◌, ℕ, zero, suc, cond, List, length, slice_get, refl, sym}
use Rattle.ss_value.specs.Rows.{Row}
use Rattle.ss_model.specs.declared.catalog.Body.{Body}
use Rattle.ss_model.specs.declared.catalog.Catalog.{Catalog}
use Rattle.ss_model.specs.declared.catalog.Procedure.{Procedure}
use Rattle.ss_model.specs.Accepted.{Accepted, AcceptedStructure, StreamsEndWell}
use Rattle.ss_model.specs.AcceptedBodies.{OtherBodies}
use Rattle.ss_model.specs.Claims.{UsesOnly}
use Rattle.ss_model.specs.Database.{is_border}
use Rattle.ss_model.specs.Feeds.{BatchesGoForward, Reaches, at_once, through}
use Rattle.ss_model.specs.Orders.{procedure_has}
use Rattle.ss_model.specs.Partitions.{local_claims}
use Rattle.ss_model.specs.Settling.{border_stream, border_stream_from, emitting_procedure, first_input}
use Rattle.ss_model.specs.SparesAside.{with_spares}

module _ (catalog : Catalog) (spares : List (List Body)) where
  abbrev other : Catalog
  other = with_spares catalog spares

  uses_too : (q : ℕ) (p : Procedure) (args : Row) → UsesOnly (local_claims catalog q p) catalog q args p → UsesOnly (local_claims other q p) other q args p
  uses_too q p args k = record { steps = k.steps; owned = k.owned; triggers = k.triggers }

  reaches_back : (n m : ℕ) → Reaches other n m → Reaches catalog n m
  reaches_back n m (at_once e) = at_once e
  reaches_back n m (through {m = k} e r) = through {m = k} e (reaches_back k m r)

  forward : BatchesGoForward catalog → BatchesGoForward other
  forward h n m b c r = h n m b c (reaches_back n m r)

  border_from_same : (depth q : ℕ) → border_stream_from depth other q ≡ border_stream_from depth catalog q
  border_from_same zero q = refl
  border_from_same (suc depth) q =
      λ i. cond (procedure_has (λ p. is_border p.kind) (slice_get catalog.procedures q)) (first_input catalog q) (border_from_same depth (emitting_procedure catalog (first_input catalog q)) i)

  border_same : (q : ℕ) → border_stream other q ≡ border_stream catalog q
  border_same q = border_from_same (length catalog.procedures) q

  streams_too : StreamsEndWell catalog → StreamsEndWell other
  streams_too k = record {
    wired = record { one_emitter = k.wired.one_emitter; border_free = k.wired.border_free; emits_there = k.wired.emits_there; border_there = k.wired.border_there };
    inner = record { filled = k.inner.filled; one_nest = k.inner.one_nest; not_emitted = k.inner.not_emitted; not_taken = k.inner.not_taken };
    fed = k.fed;
    taken = k.taken;
    one_consumer = k.one_consumer;
    no_trigger = k.no_trigger;
    one_workflow = λ p q s t e. border_same p ∙ k.one_workflow p q s t e ∙ sym (border_same q);
  }

  structure_too : AcceptedStructure catalog → AcceptedStructure other
  structure_too k = record {
    no_arg = k.no_arg;
    somewhere = k.somewhere;
    keyed = k.keyed;
    owned = k.owned;
    streams = streams_too k.streams;
    levels = record { level = k.levels.level; level_rises = k.levels.level_rises };
    ranks = record { rank = k.ranks.rank; ranked = k.ranks.ranked; rank_within = k.ranks.rank_within };
    batches_forward = forward k.batches_forward;
  }

  pub accepted_with : Accepted catalog → OtherBodies other → Accepted other
  accepted_with accepted others = record {
    form = accepted.form;
    typed = accepted.typed;
    in_scope = accepted.in_scope;
    call_steps = accepted.call_steps;
    uses = λ q p is. let k = accepted.uses q p is in record { local = λ args. uses_too q p args (k.local args); limited = k.limited };
    spares = others;
    structure = structure_too accepted.structure;
  }
