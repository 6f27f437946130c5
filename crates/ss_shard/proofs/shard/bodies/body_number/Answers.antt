use Rattle.std.proofs.Common.{◌≡◌, ◌∙◌, ◌<◌, List, true, false, Some, ap, arith, get_or, length, refl, slice_get, subst, sym}
use Rattle.std.proofs.lemmas.Option.{slice_get_read}
use Rattle.std.specs.Str.{bytes_eq}
use Rattle.ss_model.specs.declared.catalog.Body.{Body}
use Rattle.ss_model.specs.Database.{own_text, spare_bodies}
use Rattle.ss_shard.proofs.Bodies.{none_has, none_more, spare_named}
use Rattle.ss_shard.proofs.shard.bodies.body_number.Goals as goal

pub returns-then-is_same_text-2-clause-some : goal.returns-then-is_same_text-2-clause-some
returns-then-is_same_text-2-clause-some c =
    let catalog = c.args.catalog.now in
    let q = c.args.procedure in
    let text = c.args.text.now in
    let own = c.own_text.ensures ∙ ap (own_text catalog) c.from.ensures in
    let other : bytes_eq (own_text catalog q) text ≡ false = ap (λ t. bytes_eq t text) (sym own) ∙ sym c.is_same_text.ensures ∙ c.if-is_same_text.false in
    let item = c.index-spares-place.result in
    let spares = c.spares_of-spares.ensures ∙ ap (spare_bodies catalog) c.from-2.ensures in
    let within : c.loop-place.place < length (spare_bodies catalog q) = subst (λ (bs : List Body). c.loop-place.place < length bs) spares c.loop-place-test.true in
    let at : slice_get (spare_bodies catalog q) c.loop-place.place ≡ Some item =
    slice_get_read (spare_bodies catalog q) (length (spare_bodies catalog q)) c.loop-place.place item refl within
    (subst (λ (bs : List Body). item ≡ get_or bs c.loop-place.place item) spares c.index-spares-place.is) in
    let is : bytes_eq item.text text ≡ true = ap (λ t. bytes_eq t text) (sym c.as_slice.ensures) ∙ sym c.is_same_text-in-loop-place.ensures ∙ c.if-is_same_text-2.true in
    spare_named text catalog q other c.loop-place.place item c.loop-place.invariant at is

pub loop-place-preserved : goal.loop-place-preserved
loop-place-preserved c =
    let catalog = c.args.catalog.now in
    let q = c.args.procedure in
    let text = c.args.text.now in
    let item = c.index-spares-place.result in
    let spares = c.spares_of-spares.ensures ∙ ap (spare_bodies catalog) c.from-2.ensures in
    let within : c.loop-place.place < length (spare_bodies catalog q) = subst (λ (bs : List Body). c.loop-place.place < length bs) spares c.loop-place-test.true in
    let at : slice_get (spare_bodies catalog q) c.loop-place.place ≡ Some item =
    slice_get_read (spare_bodies catalog q) (length (spare_bodies catalog q)) c.loop-place.place item refl within
    (subst (λ (bs : List Body). item ≡ get_or bs c.loop-place.place item) spares c.index-spares-place.is) in
    let fails : bytes_eq item.text text ≡ false = ap (λ t. bytes_eq t text) (sym c.as_slice.ensures) ∙ sym c.is_same_text-in-loop-place.ensures ∙ c.if-is_same_text-2.false in
    none_more text (spare_bodies catalog q) c.loop-place.place item c.loop-place.invariant at fails

pub returns-clause-there : goal.returns-clause-there
returns-clause-there c =
    let catalog = c.args.catalog.now in
    let q = c.args.procedure in
    let text = c.args.text.now in
    let own = c.own_text.ensures ∙ ap (own_text catalog) c.from.ensures in
    let other : bytes_eq (own_text catalog q) text ≡ false = ap (λ t. bytes_eq t text) (sym own) ∙ sym c.is_same_text.ensures ∙ c.if-is_same_text.false in
    let spares = c.spares_of-spares.ensures ∙ ap (spare_bodies catalog) c.from-2.ensures in
    let long = ap length spares in
    let past = c.loop-place-test.false in
    none_has text catalog q other (λ i b there below. c.loop-place.invariant i b there (omega (arith, below, past, long)))
