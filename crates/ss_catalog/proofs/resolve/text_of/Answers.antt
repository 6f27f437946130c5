use Rattle.std.proofs.Common.{◌∙◌, ap, sym, subst, IsUtf8}
use Rattle.std.proofs.lemmas.Str.{IsUtf8-string_bytes}
use Rattle.ss_catalog.proofs.resolve.text_of.Goals as goal

pub returns-in-Ok-clause-utf8 : goal.returns-in-Ok-clause-utf8
returns-in-Ok-clause-utf8 c = subst IsUtf8 (sym (c.from_vec.ensures ∙ ap (λ v. v.items) c.into_bytes.ensures.value)) (IsUtf8-string_bytes c.in-Ok.text)
