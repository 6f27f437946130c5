use Rattle.std.proofs.Common.{◌∙◌, List, ap, sym, subst, IsUtf8}
use Rattle.std.proofs.lemmas.Result.{err_from_is_err_and}
use Rattle.serde_json.specs.View.{view}
use Rattle.ss_model.specs.declared.catalog.Catalog.{Catalog}
use Rattle.ss_model.specs.declared.catalog.Nest.{Nest}
use Rattle.ss_model.specs.Nests.{nested_catalog}
use Rattle.ss_nest.proofs.Joining.{plain_unspared, reads_joined, accepted_joined}
use Rattle.ss_nest.proofs.Refusing.{is_read_of}
use Rattle.ss_nest.proofs.read.read_joined.Goals as goal

pub join_catalog-requires : goal.join_catalog-requires
join_catalog-requires c = plain_unspared (view c.args.value) c.in_ok-plain.plain c.in_ok-plain.ensures.ok

pub returns : goal.returns
returns c =
    let d = view c.args.value in
    let plain = c.in_ok-plain.plain in
    let was = is_read_of d c.read_nests-read.result c.read_nests-read.ensures.ok c.read_nests-read.ensures.refused in
    let right = c.in_ok-nests.ensures.ok d c.in_ok-plain.ensures.ok was in
    let made = c.in_ok-joined.joined in
    let is = c.in_ok-joined.ensures ∙ ap (λ (ns : List Nest). nested_catalog plain ns c.in_ok-text.text) c.as_slice.ensures in
    record {
      ok = reads_joined d plain c.in_ok-nests.nests c.in_ok-text.text right made is c.in_ok-text.ensures.compact c.in_ok-text.ensures.text;
      accepted = accepted_joined d plain c.in_ok-nests.nests c.in_ok-text.text right made is c.in_ok-plain.ensures.accepted c.nested_is_accepted.ensures;
      utf8 = subst IsUtf8 (sym (ap (λ (k : Catalog). k.text) is)) c.in_ok-text.ensures.utf8;
      refused = tt;
    }

pub returns-in_err-nests-clause-refused : goal.returns-in_err-nests-clause-refused
returns-in_err-nests-clause-refused c =
    let d = view c.args.value in
    let was = is_read_of d c.read_nests-read.result c.read_nests-read.ensures.ok c.read_nests-read.ensures.refused in
    let told = err_from_is_err_and c.from_residual-in_err-nests.result c.from_residual-in_err-nests.ensures.1 in
    rw (told.1, told.2) (c.in_err-nests.ensures.refused d c.in_ok-plain.ensures.ok was)
