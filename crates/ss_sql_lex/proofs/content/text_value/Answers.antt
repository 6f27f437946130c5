use Rattle.std.proofs.Common.{◌≡◌, ◌<◌, ◌≤◌, length, ap, ◌∙◌, sym, arith, subst, refl}
use Rattle.std.specs.Str.{IsUtf8}
use Rattle.ss_sql_lex.specs.Content.{up_to_quote, text_of}
use Rattle.ss_sql_lex.proofs.Quotes.{value_of}
use Rattle.ss_sql_lex.proofs.content.text_value.Goals as goal

pub unreachable-requires : goal.unreachable-requires
unreachable-requires c =
    let v = value_of c.args.own.now c.requires.spelled c.requires.utf8 in
    let is : c.as_slice.result.now ≡ text_of c.args.own.now = c.as_slice.ensures.value ∙ c.in_ok-value.ensures ∙ ap up_to_quote c.split_at.ensures.back in
    let short : length c.as_slice.result.now ≤ 255 = rw is v.0 in
    let reported = rw (c.in-Err-TextTooLong.is, c.in-Err-TextTooLong.field-0-is) at c.text_of.ensures.too_long in
    let long : 255 < length c.as_slice.result.now = reported.0 refl in
    omega arith

pub unreachable-requires-in-Err-NotUtf8 : goal.unreachable-requires-in-Err-NotUtf8
unreachable-requires-in-Err-NotUtf8 c =
    let v = value_of c.args.own.now c.requires.spelled c.requires.utf8 in
    let is : c.as_slice.result.now ≡ text_of c.args.own.now = c.as_slice.ensures.value ∙ c.in_ok-value.ensures ∙ ap up_to_quote c.split_at.ensures.back in
    let utf8 = subst IsUtf8 (sym is) v.1 in
    let reported = rw (c.in-Err-NotUtf8.is, c.in-Err-NotUtf8.field-0-is) at c.text_of.ensures.not_utf8 in
    (reported refl).1 utf8
