use Rattle.std.proofs.Common.{◌≡◌, ◌∙◌, ◌++◌, List, [], ◌∷◌, ℕ, zero, suc, ◌<◌, ◌^◌, Some, length, refl, ap, subst, arith}
use Rattle.std.specs.Prelude.{slice_get}
use Rattle.ss_model_kept.proofs.CallerLemmas.{length-map_index}
use Rattle.ss_model.specs.declared.catalog.Procedure.{Procedure}
use Rattle.ss_model.specs.Database.{own_bodies, own_text}
use Rattle.ss_model.specs.Results.{map_indexed}
use Rattle.ss_standing.specs.Image.{text_bytes}
use Rattle.ss_snapshot.proofs.Pieces.{spelled_none, spelled_found, spelled_all}
use Rattle.ss_snapshot.proofs.kept.push_bodies.Goals as goal

own_at : (own : ℕ → List ℕ) (ps : List Procedure) (i : ℕ) → i < length ps → slice_get (map_indexed (λ q p. own q) ps) i ≡ Some (own i)
own_at own [] i there = absurd (omega (arith, there))
own_at own (p ∷ ps) zero there = refl
own_at own (p ∷ ps) (suc i) there = own_at (λ q. own (suc q)) ps i (omega (arith, there))

pub loop-procedure-init : goal.loop-procedure-init
loop-procedure-init c = spelled_none text_bytes (λ (text : List ℕ). length text < 2 ^ 32) c.args.out.now.items

pub loop-procedure-preserved : goal.loop-procedure-preserved
loop-procedure-preserved c =
    let catalog = c.args.catalog.now in
    let i = c.loop-procedure.procedure in
    let there : i < length catalog.procedures = omega (arith, c.loop-procedure-test.true) in
    let lent = c.own_text.ensures in
    spelled_found text_bytes (λ (text : List ℕ). length text < 2 ^ 32) c.args.out.now.items (own_bodies catalog) i (own_text catalog i) c.loop-procedure.out.items c.push_text.new.out.items
    (own_at (own_text catalog) catalog.procedures i there) c.loop-procedure.invariant
    (c.in_ok-push_text.ensures.spelled ∙ ap (λ (t : List ℕ). c.loop-procedure.out.items ++ text_bytes t) lent)
    (subst (λ (t : List ℕ). length t < 2 ^ 32) lent c.in_ok-push_text.ensures.short)

pub returns : goal.returns
returns c =
    let catalog = c.args.catalog.now in
    let all = spelled_all text_bytes (λ (text : List ℕ). length text < 2 ^ 32) c.args.out.now.items (own_bodies catalog) c.loop-procedure.procedure c.loop-procedure.out.items
    (omega (arith, c.loop-procedure-test.false, length-map_index (λ q (p : Procedure). own_text catalog q) catalog.procedures)) c.loop-procedure.invariant in
    record { spelled = all.spelled; fits = all.fits }
