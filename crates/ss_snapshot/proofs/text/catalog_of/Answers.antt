use Rattle.std.proofs.Common.{◌≡◌, ◌∙◌, refl, sym, subst, IsUtf8}
use Rattle.serde_json.specs.View.{view}
use Rattle.ss_snapshot.specs.Foreign.{RefusesText}
use Rattle.ss_nest.proofs.CallerLemmas.{nested_from}
use Rattle.ss_snapshot.proofs.BothSpares.{no_spares}
use Rattle.ss_snapshot.proofs.CommonBytes.{other, not_other}
use Rattle.ss_snapshot.proofs.OneAnswer.{told, another_text}
use Rattle.ss_snapshot.proofs.text.catalog_of.Goals as goal

pub returns-in-Err-clause-refused : goal.returns-in-Err-clause-refused
returns-in-Err-clause-refused c =
    subst (RefusesText c.args.text.now) (sym c.refusal.ensures)
    (told c.a_nested_value_has_one_answer.ensures.either c.args.text.now (view c.in_ok-value.value) c.in-Err.refused (c.in_ok-value.ensures.ok).1 c.in-Err.ensures.refused)

pub returns-then-ne-clause-refused : goal.returns-then-ne-clause-refused
returns-then-ne-clause-refused c = (
  another_text c.a_nested_value_has_one_answer.ensures.catalog c.args.text.now (view c.in_ok-value.value) c.in-Ok.catalog (c.in_ok-value.ensures.ok).1 c.in-Ok.ensures.ok
      (λ same. other c.ne.result c.as_slice.result.now c.args.text.now c.ne.ensures c.if-ne.true (c.as_slice.ensures ∙ same)),
  refl,
)

pub returns-clause-own : goal.returns-clause-own
returns-clause-own c =
    let same : c.as_slice.result.now ≡ c.args.text.now = not_other c.ne.result c.as_slice.result.now c.args.text.now c.ne.ensures c.if-ne.false in
    record {
      utf8 = subst IsUtf8 (sym (sym c.as_slice.ensures ∙ same)) (c.in_ok-value.ensures.ok).0;
      value = view c.in_ok-value.value;
      reads = nested_from (view c.in_ok-value.value) c.in-Ok.catalog c.in-Ok.ensures.ok;
      spares = no_spares (view c.in_ok-value.value) c.in-Ok.catalog c.in-Ok.ensures.ok;
    }

pub returns-clause-text : goal.returns-clause-text
returns-clause-text c = sym c.as_slice.ensures ∙ not_other c.ne.result c.as_slice.result.now c.args.text.now c.ne.ensures c.if-ne.false
