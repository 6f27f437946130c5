use Rattle.std.proofs.Common.{◌≡◌, ◌<◌, suc, List, ◌∷◌, length, refl, sym, subst, slice_set}
use Rattle.ss_table.specs.declared.part.Part.{Part}
use Rattle.ss_table.specs.TableValue.{key_of}
use Rattle.ss_table.specs.Parts.{key_home, IsPart}
use Rattle.ss_table.proofs.Wide.{each_at}
use Rattle.ss_table.proofs.Own.{has_there, free_in_part}
use Rattle.ss_table.proofs.Inserted.{Tried, tried, home_is}
use Rattle.ss_table.proofs.table.Table.put_new.Goals as goal

pub unreachable-requires : goal.unreachable-requires
unreachable-requires c =
    let t = c.self.inside in
    let within : c.in-Some.at < length t.others = subst (λ l. c.in-Some.at < length l) c.as_slice.ensures c.in-Some.ensures.some.1 in
    let no = c.in-None-get_mut.ensures.within.1 within in
    cc

pub put_new-requires : goal.put_new-requires
put_new-requires c =
    let t = c.self.inside in
    let h = c.args.self.now in
    let key = t.first.rows.key in
    let fs : List Part = t.first ∷ t.others in
    let home : key_home t.route fs (key_of t.first.rows.key c.args.row) ≡ 0 = home_is t.limit t.route t.first t.others c.as_slice.result.now h c.self.view_is c.args.number c.args.row 0 c.as_slice.ensures c.requires.own c.in-None.ensures.none in
    record { below = (each_at (IsPart t.first.rows.key) fs 0 t.first c.self.invariant.each refl).below; has_key = has_there t.limit t.route t.first.rows.key fs c.self.invariant h c.self.view_is c.args.row c.requires.has_key c.requires.free 0 home t.first refl; free = free_in_part t.limit t.route t.first.rows.key fs c.self.invariant h c.self.view_is c.args.row c.requires.has_key c.requires.free 0 home t.first refl }

pub invariant_of-self : goal.invariant_of-self
invariant_of-self c =
    let t = c.self.inside in
    let h = c.args.self.now in
    let key = t.first.rows.key in
    let fs : List Part = t.first ∷ t.others in
    let home : key_home t.route fs (key_of t.first.rows.key c.args.row) ≡ 0 = home_is t.limit t.route t.first t.others c.as_slice.result.now h c.self.view_is c.args.number c.args.row 0 c.as_slice.ensures c.requires.own c.in-None.ensures.none in
    let both = tried t.limit t.route t.first.rows.key fs c.self.invariant h c.self.view_is c.args.row c.requires.has_key c.requires.free 0 home t.first refl c.put_new.new.self c.put_new.ensures.number c.put_new.result c.put_new.ensures.ok c.put_new.ensures.err in
    let b : Tried t.limit t.route c.put_new.new.self.rows.key (c.put_new.new.self ∷ t.others) h c.args.row c.put_new.result = subst (λ k. Tried t.limit t.route k (c.put_new.new.self ∷ t.others) h c.args.row c.put_new.result) (sym both.0) both.1 in
    b.kept

pub returns-in-None-clause-ok : goal.returns-in-None-clause-ok
returns-in-None-clause-ok c =
    let t = c.self.inside in
    let h = c.args.self.now in
    let key = t.first.rows.key in
    let fs : List Part = t.first ∷ t.others in
    let home : key_home t.route fs (key_of t.first.rows.key c.args.row) ≡ 0 = home_is t.limit t.route t.first t.others c.as_slice.result.now h c.self.view_is c.args.number c.args.row 0 c.as_slice.ensures c.requires.own c.in-None.ensures.none in
    let both = tried t.limit t.route t.first.rows.key fs c.self.invariant h c.self.view_is c.args.row c.requires.has_key c.requires.free 0 home t.first refl c.put_new.new.self c.put_new.ensures.number c.put_new.result c.put_new.ensures.ok c.put_new.ensures.err in
    let b : Tried t.limit t.route c.put_new.new.self.rows.key (c.put_new.new.self ∷ t.others) h c.args.row c.put_new.result = subst (λ k. Tried t.limit t.route k (c.put_new.new.self ∷ t.others) h c.args.row c.put_new.result) (sym both.0) both.1 in
    b.ok

pub returns-in-None-clause-fresh : goal.returns-in-None-clause-fresh
returns-in-None-clause-fresh c =
    let t = c.self.inside in
    let h = c.args.self.now in
    let key = t.first.rows.key in
    let fs : List Part = t.first ∷ t.others in
    let home : key_home t.route fs (key_of t.first.rows.key c.args.row) ≡ 0 = home_is t.limit t.route t.first t.others c.as_slice.result.now h c.self.view_is c.args.number c.args.row 0 c.as_slice.ensures c.requires.own c.in-None.ensures.none in
    let both = tried t.limit t.route t.first.rows.key fs c.self.invariant h c.self.view_is c.args.row c.requires.has_key c.requires.free 0 home t.first refl c.put_new.new.self c.put_new.ensures.number c.put_new.result c.put_new.ensures.ok c.put_new.ensures.err in
    let b : Tried t.limit t.route c.put_new.new.self.rows.key (c.put_new.new.self ∷ t.others) h c.args.row c.put_new.result = subst (λ k. Tried t.limit t.route k (c.put_new.new.self ∷ t.others) h c.args.row c.put_new.result) (sym both.0) both.1 in
    b.fresh

pub returns-in-None-clause-step : goal.returns-in-None-clause-step
returns-in-None-clause-step c =
    let t = c.self.inside in
    let h = c.args.self.now in
    let key = t.first.rows.key in
    let fs : List Part = t.first ∷ t.others in
    let home : key_home t.route fs (key_of t.first.rows.key c.args.row) ≡ 0 = home_is t.limit t.route t.first t.others c.as_slice.result.now h c.self.view_is c.args.number c.args.row 0 c.as_slice.ensures c.requires.own c.in-None.ensures.none in
    let both = tried t.limit t.route t.first.rows.key fs c.self.invariant h c.self.view_is c.args.row c.requires.has_key c.requires.free 0 home t.first refl c.put_new.new.self c.put_new.ensures.number c.put_new.result c.put_new.ensures.ok c.put_new.ensures.err in
    let b : Tried t.limit t.route c.put_new.new.self.rows.key (c.put_new.new.self ∷ t.others) h c.args.row c.put_new.result = subst (λ k. Tried t.limit t.route k (c.put_new.new.self ∷ t.others) h c.args.row c.put_new.result) (sym both.0) both.1 in
    b.step

pub returns-in-None-clause-err : goal.returns-in-None-clause-err
returns-in-None-clause-err c =
    let t = c.self.inside in
    let h = c.args.self.now in
    let key = t.first.rows.key in
    let fs : List Part = t.first ∷ t.others in
    let home : key_home t.route fs (key_of t.first.rows.key c.args.row) ≡ 0 = home_is t.limit t.route t.first t.others c.as_slice.result.now h c.self.view_is c.args.number c.args.row 0 c.as_slice.ensures c.requires.own c.in-None.ensures.none in
    let both = tried t.limit t.route t.first.rows.key fs c.self.invariant h c.self.view_is c.args.row c.requires.has_key c.requires.free 0 home t.first refl c.put_new.new.self c.put_new.ensures.number c.put_new.result c.put_new.ensures.ok c.put_new.ensures.err in
    let b : Tried t.limit t.route c.put_new.new.self.rows.key (c.put_new.new.self ∷ t.others) h c.args.row c.put_new.result = subst (λ k. Tried t.limit t.route k (c.put_new.new.self ∷ t.others) h c.args.row c.put_new.result) (sym both.0) both.1 in
    b.err

pub put_new-requires-in-Some-get_mut : goal.put_new-requires-in-Some-get_mut
put_new-requires-in-Some-get_mut c =
    let t = c.self.inside in
    let h = c.args.self.now in
    let key = t.first.rows.key in
    let fs : List Part = t.first ∷ t.others in
    let home : key_home t.route fs (key_of t.first.rows.key c.args.row) ≡ (suc c.in-Some.at) = home_is t.limit t.route t.first t.others c.as_slice.result.now h c.self.view_is c.args.number c.args.row (suc c.in-Some.at) c.as_slice.ensures c.requires.own c.in-Some.ensures.some.0 in
    record { below = (each_at (IsPart t.first.rows.key) fs (suc c.in-Some.at) c.in-Some-get_mut.part.now c.self.invariant.each c.in-Some-get_mut.ensures.item).below; has_key = has_there t.limit t.route t.first.rows.key fs c.self.invariant h c.self.view_is c.args.row c.requires.has_key c.requires.free (suc c.in-Some.at) home c.in-Some-get_mut.part.now c.in-Some-get_mut.ensures.item; free = free_in_part t.limit t.route t.first.rows.key fs c.self.invariant h c.self.view_is c.args.row c.requires.has_key c.requires.free (suc c.in-Some.at) home c.in-Some-get_mut.part.now c.in-Some-get_mut.ensures.item }

pub invariant_of-self-in-Some : goal.invariant_of-self-in-Some
invariant_of-self-in-Some c =
    let t = c.self.inside in
    let h = c.args.self.now in
    let key = t.first.rows.key in
    let fs : List Part = t.first ∷ t.others in
    let home : key_home t.route fs (key_of t.first.rows.key c.args.row) ≡ (suc c.in-Some.at) = home_is t.limit t.route t.first t.others c.as_slice.result.now h c.self.view_is c.args.number c.args.row (suc c.in-Some.at) c.as_slice.ensures c.requires.own c.in-Some.ensures.some.0 in
    let both = tried t.limit t.route t.first.rows.key fs c.self.invariant h c.self.view_is c.args.row c.requires.has_key c.requires.free (suc c.in-Some.at) home c.in-Some-get_mut.part.now c.in-Some-get_mut.ensures.item c.put_new-in-Some-get_mut.new.self c.put_new-in-Some-get_mut.ensures.number c.put_new-in-Some-get_mut.result c.put_new-in-Some-get_mut.ensures.ok c.put_new-in-Some-get_mut.ensures.err in
    let b = both.1 in
    b.kept

pub returns-in-Some-get_mut-clause-ok : goal.returns-in-Some-get_mut-clause-ok
returns-in-Some-get_mut-clause-ok c =
    let t = c.self.inside in
    let h = c.args.self.now in
    let key = t.first.rows.key in
    let fs : List Part = t.first ∷ t.others in
    let home : key_home t.route fs (key_of t.first.rows.key c.args.row) ≡ (suc c.in-Some.at) = home_is t.limit t.route t.first t.others c.as_slice.result.now h c.self.view_is c.args.number c.args.row (suc c.in-Some.at) c.as_slice.ensures c.requires.own c.in-Some.ensures.some.0 in
    let both = tried t.limit t.route t.first.rows.key fs c.self.invariant h c.self.view_is c.args.row c.requires.has_key c.requires.free (suc c.in-Some.at) home c.in-Some-get_mut.part.now c.in-Some-get_mut.ensures.item c.put_new-in-Some-get_mut.new.self c.put_new-in-Some-get_mut.ensures.number c.put_new-in-Some-get_mut.result c.put_new-in-Some-get_mut.ensures.ok c.put_new-in-Some-get_mut.ensures.err in
    let b = both.1 in
    b.ok

pub returns-in-Some-get_mut-clause-fresh : goal.returns-in-Some-get_mut-clause-fresh
returns-in-Some-get_mut-clause-fresh c =
    let t = c.self.inside in
    let h = c.args.self.now in
    let key = t.first.rows.key in
    let fs : List Part = t.first ∷ t.others in
    let home : key_home t.route fs (key_of t.first.rows.key c.args.row) ≡ (suc c.in-Some.at) = home_is t.limit t.route t.first t.others c.as_slice.result.now h c.self.view_is c.args.number c.args.row (suc c.in-Some.at) c.as_slice.ensures c.requires.own c.in-Some.ensures.some.0 in
    let both = tried t.limit t.route t.first.rows.key fs c.self.invariant h c.self.view_is c.args.row c.requires.has_key c.requires.free (suc c.in-Some.at) home c.in-Some-get_mut.part.now c.in-Some-get_mut.ensures.item c.put_new-in-Some-get_mut.new.self c.put_new-in-Some-get_mut.ensures.number c.put_new-in-Some-get_mut.result c.put_new-in-Some-get_mut.ensures.ok c.put_new-in-Some-get_mut.ensures.err in
    let b = both.1 in
    b.fresh

pub returns-in-Some-get_mut-clause-step : goal.returns-in-Some-get_mut-clause-step
returns-in-Some-get_mut-clause-step c =
    let t = c.self.inside in
    let h = c.args.self.now in
    let key = t.first.rows.key in
    let fs : List Part = t.first ∷ t.others in
    let home : key_home t.route fs (key_of t.first.rows.key c.args.row) ≡ (suc c.in-Some.at) = home_is t.limit t.route t.first t.others c.as_slice.result.now h c.self.view_is c.args.number c.args.row (suc c.in-Some.at) c.as_slice.ensures c.requires.own c.in-Some.ensures.some.0 in
    let both = tried t.limit t.route t.first.rows.key fs c.self.invariant h c.self.view_is c.args.row c.requires.has_key c.requires.free (suc c.in-Some.at) home c.in-Some-get_mut.part.now c.in-Some-get_mut.ensures.item c.put_new-in-Some-get_mut.new.self c.put_new-in-Some-get_mut.ensures.number c.put_new-in-Some-get_mut.result c.put_new-in-Some-get_mut.ensures.ok c.put_new-in-Some-get_mut.ensures.err in
    let b = both.1 in
    b.step

pub returns-in-Some-get_mut-clause-err : goal.returns-in-Some-get_mut-clause-err
returns-in-Some-get_mut-clause-err c =
    let t = c.self.inside in
    let h = c.args.self.now in
    let key = t.first.rows.key in
    let fs : List Part = t.first ∷ t.others in
    let home : key_home t.route fs (key_of t.first.rows.key c.args.row) ≡ (suc c.in-Some.at) = home_is t.limit t.route t.first t.others c.as_slice.result.now h c.self.view_is c.args.number c.args.row (suc c.in-Some.at) c.as_slice.ensures c.requires.own c.in-Some.ensures.some.0 in
    let both = tried t.limit t.route t.first.rows.key fs c.self.invariant h c.self.view_is c.args.row c.requires.has_key c.requires.free (suc c.in-Some.at) home c.in-Some-get_mut.part.now c.in-Some-get_mut.ensures.item c.put_new-in-Some-get_mut.new.self c.put_new-in-Some-get_mut.ensures.number c.put_new-in-Some-get_mut.result c.put_new-in-Some-get_mut.ensures.ok c.put_new-in-Some-get_mut.ensures.err in
    let b = both.1 in
    b.err
