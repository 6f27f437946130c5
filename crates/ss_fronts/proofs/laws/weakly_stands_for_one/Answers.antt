use Rattle.ss_fronts.proofs.OneThing.{one_thing}
use Rattle.ss_fronts.proofs.laws.weakly_stands_for_one.Goals as goal

pub returns : goal.returns
returns c = one_thing c.files_stand_for_one_thing.ensures.files c.an_image_tells_what_is_kept.ensures c.kept_carries.ensures c.kept_carries_weak.ensures c.weak_lists_exist.ensures
    c.entries_tell_a_list.ensures
