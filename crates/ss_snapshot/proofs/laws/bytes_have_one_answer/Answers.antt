use Rattle.ss_snapshot.proofs.OneAnswer.{one_kept, image_or_foreign, one_offset}
use Rattle.ss_snapshot.proofs.laws.bytes_have_one_answer.Goals as goal

pub returns-clause-kept : goal.returns-clause-kept
returns-clause-kept c = one_kept c.a_nested_value_has_one_answer.ensures.catalog c.an_image_tells_what_is_kept.ensures

pub returns-clause-either : goal.returns-clause-either
returns-clause-either c = image_or_foreign c.a_nested_value_has_one_answer.ensures.catalog c.images_are_exact.ensures.again c.spares_aside.ensures c.a_nested_body_has_one_answer.ensures.stands

pub returns-clause-offset : goal.returns-clause-offset
returns-clause-offset c = one_offset
