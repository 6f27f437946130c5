use Rattle.std.proofs.Common.{◌≡◌, ◌∙◌, [], ◌∷◌, subst, sym, arith, rules}
use Rattle.std.proofs.lemmas.List.{nil_from_length}
use Rattle.ss_value.specs.Rows.{Rows}
use Rattle.ss_snapshot.proofs.Puts.{ArePut, all_final, can_commit, none_put, one_goes, one_put}
use Rattle.ss_snapshot.proofs.reading.tables.put_rows.Goals as goal

pub put_row-requires-clause-keyed : goal.put_row-requires-clause-keyed
put_row-requires-clause-keyed c =
    let items : c.loop-row.row-iterator.rest.items ≡ c.in-Some.row ∷ c.next.new.self.rest.items = search rules in
    let are : ArePut c.args.whole.now c.loop-row.whole c.args.number c.args.rows (c.in-Some.row ∷ c.next.new.self.rest.items) =
    subst (λ (rest : Rows). ArePut c.args.whole.now c.loop-row.whole c.args.number c.args.rows rest) items c.loop-row.invariant in
    are.keyed.0

pub put_row-requires-clause-goes : goal.put_row-requires-clause-goes
put_row-requires-clause-goes c =
    let items : c.loop-row.row-iterator.rest.items ≡ c.in-Some.row ∷ c.next.new.self.rest.items = search rules in
    one_goes c.requires.0 c.args.whole.now c.loop-row.whole c.args.number c.args.rows c.in-Some.row c.next.new.self.rest.items c.requires.1
    (subst (λ (rest : Rows). ArePut c.args.whole.now c.loop-row.whole c.args.number c.args.rows rest) items c.loop-row.invariant)

pub loop-row-preserved : goal.loop-row-preserved
loop-row-preserved c =
    let items : c.loop-row.row-iterator.rest.items ≡ c.in-Some.row ∷ c.next.new.self.rest.items = search rules in
    one_put c.args.whole.now c.loop-row.whole c.put_row.new.whole c.args.number c.args.rows c.in-Some.row c.next.new.self.rest.items
    (subst (λ (rest : Rows). ArePut c.args.whole.now c.loop-row.whole c.args.number c.args.rows rest) items c.loop-row.invariant)
    c.put_row.ensures.changed c.in_ok-put_row.ensures.put

pub loop-row-init : goal.loop-row-init
loop-row-init c =
    let items : c.into_iter-row-iterator.result.rest.items ≡ c.args.rows = c.into_iter-row-iterator.ensures.into_iter_gives.0 ∙ c.into_vec-row-items.ensures in
    subst (λ (rest : Rows). ArePut c.args.whole.now c.args.whole.now c.args.number c.args.rows rest) (sym items) (none_put c.requires.0 c.args.whole.now c.args.number c.args.rows c.requires.1)

pub commit-requires : goal.commit-requires
commit-requires c =
    (c.args.whole.now, can_commit c.requires.0 c.args.whole.now c.loop-row.whole c.args.number c.args.rows c.loop-row.row-iterator.rest.items c.requires.1 c.loop-row.invariant)

pub returns-clause-put : goal.returns-clause-put
returns-clause-put c =
    let rest = c.loop-row.row-iterator.rest in
    let none : rest.items ≡ [] = nil_from_length rest.items (omega (arith, rest.ok.0, c.in-None.ensures.steps.0)) in
    λ catalog may.
    all_final catalog c.args.whole.now c.loop-row.whole c.commit.new.self c.args.number c.args.rows may
    (subst (λ (left : Rows). ArePut c.args.whole.now c.loop-row.whole c.args.number c.args.rows left) none c.loop-row.invariant)
    c.commit.ensures.tables c.commit.ensures.number c.commit.ensures.dealt c.commit.ensures.committed
