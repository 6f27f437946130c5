use Rattle.std.proofs.Common.{◌≡◌, ◌∙◌, ℕ, true, ap, sym, subst, List, None, is_some}
use Rattle.std.specs.FinMap as finite
use Rattle.std.specs.Global.{Vec}
use Rattle.std.specs.Prelude.{IsTrue}
use Rattle.ss_value.specs.Words.{is_name}
use Rattle.ss_model.specs.Database.{NextNumbers}
use Rattle.ss_shard.specs.Sources.{number_of, AreNames}
use Rattle.ss_shard.proofs.Numbers.{key_bytes, numbers_of, number_at, get_number, none_there, none_risen, now_stands, named_too}
use Rattle.ss_shard.proofs.sources.Sources.add.Goals as goal

pub returns-then-contains_key-clause-ok : goal.returns-then-contains_key-clause-ok
returns-then-contains_key-clause-ok c =
    let entries = c.self.inside.numbers.entries in
    ap (λ (ns : NextNumbers). is_some (finite.get ns c.args.source.now)) (sym c.self.view_is)
    ∙ ap is_some (get_number key_bytes entries c.args.source.now)
    ∙ ap (λ (q : List ℕ). is_some (number_at key_bytes entries q)) (sym c.as_bytes.ensures.bytes)
    ∙ sym c.contains_key.ensures
    ∙ c.if-contains_key.true

pub returns-clause-same : goal.returns-clause-same
returns-clause-same c = λ name.
    let entries = c.self.inside.numbers.entries in
    let key = c.in_ok-name.name in
    let spelled : key.items ≡ c.as_bytes.result.now = c.in_ok-name.ensures.items ∙ c.as_bytes-2.ensures.bytes ∙ sym c.as_bytes.ensures.bytes in
    let none : number_at key_bytes entries key.items ≡ None = ap (number_at key_bytes entries) spelled ∙ none_there (number_at key_bytes entries c.as_bytes.result.now) (sym c.contains_key.ensures ∙ c.if-contains_key.false) in
    none_risen key_bytes entries c.insert.new.self.entries key none c.in_ok-insert.ensures.entries name
    ∙ ap (λ (ns : NextNumbers). number_of ns name) c.self.view_is

pub returns-clause-ok : goal.returns-clause-ok
returns-clause-ok c =
    let key = c.in_ok-name.name in
    subst (λ (q : List ℕ). is_some (finite.get (numbers_of key_bytes c.insert.new.self.entries) q) ≡ true) (c.in_ok-name.ensures.items ∙ c.as_bytes-2.ensures.bytes)
    (now_stands key_bytes c.self.inside.numbers.entries c.insert.new.self.entries key c.in_ok-insert.ensures.entries)

-- the map had no memory for it, and is as it was
pub invariant_of-self : goal.invariant_of-self
invariant_of-self c = subst (λ (es : List (Vec ℕ × ℕ)). AreNames (numbers_of key_bytes es)) (sym c.in_err-insert.ensures.err) c.self.invariant

pub invariant_of-self-2 : goal.invariant_of-self-2
invariant_of-self-2 c =
    let key = c.in_ok-name.name in
    let spelled : key.items ≡ c.args.source.now = c.in_ok-name.ensures.items ∙ c.as_bytes-2.ensures.bytes in
    named_too key_bytes c.self.inside.numbers.entries c.insert.new.self.entries key (subst (λ (q : List ℕ). IsTrue (is_name q)) (sym spelled) c.as_bytes-2.ensures.name) c.self.invariant c.in_ok-insert.ensures.entries
