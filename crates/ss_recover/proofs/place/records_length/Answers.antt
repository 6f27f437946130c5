use Rattle.std.proofs.Common.{◌∙◌, ◌+◌, ℕ, List, drop, length, All, ap, arith, length-append, subst}
use Rattle.std.proofs.lemmas.List.{drop-map}
use Rattle.std.proofs.lemmas.List.Elements.{All-drop, All-head}
use Rattle.ss_lemmas.proofs.LoopItem.{next}
use Rattle.ss_model.specs.declared.entry.Entry.{Entry}
use Rattle.ss_model.specs.declared.entry.Listed.{Listed}
use Rattle.ss_record.specs.Bounds.{IsRecordable}
use Rattle.ss_record.specs.Spelling.{record_bytes, records}
use Rattle.ss_standing.specs.Standing.{listed_entries}
use Rattle.ss_recover.proofs.place.records_length.Goals as goal

pub record_of-requires : goal.record_of-requires
record_of-requires c =
    let i = c.loop-listed.listed-index in
    let list = c.args.list.now in
    let here = next list i c.listed-item.result c.loop-listed-test.true c.listed-item.is in
    All-head IsRecordable c.listed-item.result.entry (listed_entries (drop (i + 1) list))
    (subst (λ (es : List Entry). All IsRecordable es) (drop-map (λ (l : Listed). l.entry) i list ∙ ap (λ (l : List Listed). listed_entries l) here) (All-drop IsRecordable i (listed_entries list) c.requires))

pub loop-listed-preserved : goal.loop-listed-preserved
loop-listed-preserved c =
    let i = c.loop-listed.listed-index in
    let list = c.args.list.now in
    let e = c.listed-item.result.entry in
    let rest = listed_entries (drop (i + 1) list) in
    let here = ap (λ (l : List Listed). length (records (listed_entries l))) (next list i c.listed-item.result c.loop-listed-test.true c.listed-item.is) in
    let spelled = ap (λ (bytes : List ℕ). length bytes) c.in_ok-record.ensures.spelled in
    omega (arith, c.loop-listed.invariant, here, length-append (record_bytes e) (records rest), spelled, c.len.ensures, c.in-Some.ensures.1)
