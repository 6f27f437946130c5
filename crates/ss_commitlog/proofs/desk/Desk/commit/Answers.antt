use Rattle.std.proofs.Common.{◌≡◌, ◌<◌, ◌∙◌, ap, sym, subst, List, [], ◌∷◌, ◌++◌, length, arith}
use Rattle.ss_model.specs.declared.catalog.Catalog.{Catalog}
use Rattle.ss_model.specs.declared.entry.Emitted.{Emitted}
use Rattle.ss_model.specs.declared.entry.Listed.{Listed}
use Rattle.ss_model.specs.Accepted.{Accepted}
use Rattle.ss_model.specs.Database.{Applied, Database}
use Rattle.ss_model.specs.Replays.{after}
use Rattle.ss_flow.specs.Advances.{Advances, FollowAll, HasRoom}
use Rattle.ss_flow.specs.Follows.{AreOfStreams}
use Rattle.ss_commitlog.specs.Meaning.{listed_of}
use Rattle.ss_commitlog.specs.Tokens.{roles_of}
use Rattle.ss_commitlog.proofs.Desks.{has_streams, right_now, legal_now, moves, counts_move, desk_after}
use Rattle.ss_commitlog.proofs.desk.Desk.commit.Goals as goal

pub reserve-requires : goal.reserve-requires
reserve-requires g c =
    subst (AreOfStreams (length c.self.inside.streams.streams)) (sym c.as_slice.ensures)
    (has_streams _ _ _ _ _ _ _ _ _ _ _ _ _ _ c.self.invariant c.args.marks.now c.args.listed c.args.emitted c.requires.right)

pub add_marks-requires-clause-more : goal.add_marks-requires-clause-more
add_marks-requires-clause-more g c all =
    let gives = right_now _ _ _ _ _ _ _ _ _ _ _ _ _ _ c.self.invariant c.args.marks.now c.args.listed c.args.emitted c.requires.right all in
    let count : c.len-count.result ≡ length c.self.inside.list.items = c.len-count.ensures in
    let low : length c.self.inside.list.items < g.I.Life.limit = let h = c.if-count-self.false in let most = c.self.invariant.bounds.limit_is in omega arith in
    legal_now _ _ _ _ _ _ _ _ _ _ _ _ _ _ c.self.invariant c.args.marks.now c.args.listed c.args.emitted gives c.requires.covers c.requires.client low

pub advance-requires-clause-accepted : goal.advance-requires-clause-accepted
advance-requires-clause-accepted g c = subst Accepted (sym c.requires.catalog) c.self.invariant.opening.accepted

pub advance-requires-clause-advances : goal.advance-requires-clause-advances
advance-requires-clause-advances g c =
    let known = c.self.inside.seat.me.0.now.known in
    let gives = right_now _ _ _ _ _ _ _ _ _ _ _ _ _ _ c.self.invariant c.args.marks.now c.args.listed c.args.emitted c.requires.right c.add_marks.ensures.marks.1 in
    subst (λ (k : Catalog). (db : Database) × (a : Applied) × Advances k db c.args.listed.entry a c.args.emitted c.reserve.new.streams.streams) (sym c.requires.catalog)
    (after g.I.Life.catalog g.I.Life.opening (listed_of known), gives.0, moves _ _ _ _ _ _ _ _ _ _ _ _ _ _ c.self.invariant c.args.listed c.args.emitted gives c.reserve.new.streams.streams c.reserve.ensures.unchanged.1)

pub advance-requires-clause-room : goal.advance-requires-clause-room
advance-requires-clause-room g c = subst (λ (em : List Emitted). HasRoom c.reserve.new.streams em) c.as_slice.ensures c.in-Ok.ensures.streams

pub count_batch-requires : goal.count_batch-requires
count_batch-requires g c =
    let gives = right_now _ _ _ _ _ _ _ _ _ _ _ _ _ _ c.self.invariant c.args.marks.now c.args.listed c.args.emitted c.requires.right c.add_marks.ensures.marks.1 in
    counts_move _ _ _ _ _ _ _ _ _ _ _ _ _ _ c.self.invariant c.args.listed c.args.emitted gives

pub invariant_of-self-2 : goal.invariant_of-self-2
invariant_of-self-2 g c =
    let gives = right_now _ _ _ _ _ _ _ _ _ _ _ _ _ _ c.self.invariant c.args.marks.now c.args.listed c.args.emitted c.requires.right c.add_marks.ensures.marks.1 in
    let count : c.len-count.result ≡ length c.self.inside.list.items = c.len-count.ensures in
    let low : length c.self.inside.list.items < g.I.Life.limit = let h = c.if-count-self.false in let most = c.self.invariant.bounds.limit_is in omega arith in
    let legal = legal_now _ _ _ _ _ _ _ _ _ _ _ _ _ _ c.self.invariant c.args.marks.now c.args.listed c.args.emitted gives c.requires.covers c.requires.client low in
    desk_after _ _ _ _ _ _ _ _ _ _ _ _ _ _ c.self.invariant c.args.listed c.args.emitted gives (roles_of c.args.marks.now) c.add.new.self.items c.reserve.new.streams.streams c.advance.new.streams.streams c.count_batch.new.counts c.add_marks.new.seat
    (c.add.ensures.items ∙ ap (λ (l : List Listed). l ++ c.args.listed ∷ []) c.reserve.ensures.unchanged.0)
    c.add_marks.ensures.table c.add_marks.ensures.log legal c.reserve.ensures.unchanged.1
    (subst (λ (k : Catalog). FollowAll k c.args.listed.entry c.args.emitted c.reserve.new.streams.streams c.advance.new.streams.streams) c.requires.catalog c.advance.ensures)
    c.count_batch.ensures
