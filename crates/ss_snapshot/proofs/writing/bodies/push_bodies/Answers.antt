use Rattle.std.proofs.Common.{◌≡◌, ◌∙◌, ◌++◌, List, [], ℕ, ◌<◌, ◌^◌, Some, length, get_or, ap, subst, arith}
use Rattle.std.specs.Prelude.{slice_get}
use Rattle.std.proofs.lemmas.Option.{slice_get-get_or}
use Rattle.ss_model_kept.proofs.CallerLemmas.{get_or-map_index, length-map_index}
use Rattle.ss_shard.specs.Bodies.{text_numbered, texts_of}
use Rattle.ss_standing.specs.Image.{text_bytes}
use Rattle.ss_snapshot.proofs.Pieces.{spelled_none, spelled_found, spelled_all}
use Rattle.ss_snapshot.proofs.writing.bodies.push_bodies.Goals as goal

pub loop-procedure-init : goal.loop-procedure-init
loop-procedure-init c = spelled_none text_bytes (λ (text : List ℕ). length text < 2 ^ 32) c.args.out.now.items

pub loop-procedure-preserved : goal.loop-procedure-preserved
loop-procedure-preserved c =
    let f = text_numbered c.args.catalog.now in
    let numbers = c.args.whole.now.bodies in
    let texts = texts_of c.args.catalog.now numbers in
    let i = c.loop-procedure.procedure in
    let there : i < length numbers = omega (arith, c.in_ok-count.ensures, ap (λ (l : List ℕ). length l) c.bodies.ensures) in
    let text = f i (get_or numbers i 0) in
    let lent = c.body_text.ensures.here in
    let here : slice_get texts i ≡ Some text =
    slice_get-get_or texts i [] (omega (arith, there, length-map_index f numbers)) ∙ ap (λ (t : List ℕ). Some t) (get_or-map_index f numbers i 0 [] there) in
    spelled_found text_bytes (λ (text : List ℕ). length text < 2 ^ 32) c.args.out.now.items texts i text c.loop-procedure.out.items c.push_text.new.out.items here c.loop-procedure.invariant
    (c.in_ok-push_text.ensures.spelled ∙ ap (λ (t : List ℕ). c.loop-procedure.out.items ++ text_bytes t) lent)
    (subst (λ (t : List ℕ). length t < 2 ^ 32) lent c.in_ok-push_text.ensures.short)

pub returns : goal.returns
returns c =
    let f = text_numbered c.args.catalog.now in
    let numbers = c.args.whole.now.bodies in
    let all = spelled_all text_bytes (λ (text : List ℕ). length text < 2 ^ 32) c.args.out.now.items (texts_of c.args.catalog.now numbers) c.loop-procedure.procedure c.loop-procedure.out.items
    (omega (arith, c.loop-procedure-test.false, c.in_ok-count.ensures, length-map_index f numbers, ap (λ (l : List ℕ). length l) c.bodies.ensures)) c.loop-procedure.invariant in
    record { spelled = all.spelled; fits = all.fits }
