use Rattle.std.proofs.Common.{◌≡◌, ◌∙◌, ◌+◌, ◌++◌, [], ◌∷◌, List, ℕ, take, sym, ap, subst, arith}
use Rattle.std.specs.List.{flat_map}
use Rattle.std.proofs.lemmas.List.{take_more, flat_map_more}
use Rattle.std.proofs.lemmas.List.Elements.{All-more}
use Rattle.ss_value.specs.declared.value.Value.{Value}
use Rattle.ss_record.specs.Spelling.{value_bytes}
use Rattle.ss_record.specs.Bounds.{IsTypedValue}
use Rattle.ss_record.proofs.write.push_row.Goals as goal

pub loop-value-preserved : goal.loop-value-preserved
loop-value-preserved c =
    let values = c.as_slice-value-items.result.now in
    let i = c.loop-value.value-index in
    let value = c.value-item.result in
    let taken : take (i + 1) values ≡ take i values ++ value ∷ [] = take_more values i value c.loop-value-test.true ∙ ap (λ (v : Value). take i values ++ v ∷ []) (sym c.value-item.is) in
    record {
      spelled = c.in_ok-push_value.ensures.spelled ∙ ap (λ (l : List ℕ). l ++ value_bytes value) c.loop-value.invariant.spelled
          ∙ flat_map_more value_bytes c.push.new.self.items (take i values) value ∙ ap (λ (l : List Value). c.push.new.self.items ++ flat_map value_bytes l) (sym taken);
      long = omega (arith, c.in_ok-push_value.ensures.long, c.loop-value.invariant.long);
      typed = All-more IsTypedValue values i value c.loop-value-test.true c.loop-value.invariant.typed (subst IsTypedValue c.value-item.is c.in_ok-push_value.ensures.typed);
    }
