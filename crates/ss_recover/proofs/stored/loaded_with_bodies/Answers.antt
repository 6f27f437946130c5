use Rattle.std.proofs.Common.{subst}
use Rattle.ss_recover.specs.Loading.{AreNamed, HasMore}
use Rattle.ss_recover.proofs.Grown.{read_more, whole_more}
use Rattle.ss_recover.proofs.MoreBodies.{are_named_still, more_on}
use Rattle.ss_recover.proofs.stored.loaded_with_bodies.Goals as goal

-- the catalogue has more bodies than the image
has_more : (c : goal.In_ok-fill_given) → HasMore c.in_ok-catalog.catalog c.fill_given.new.catalog
has_more c = let first = c.in_ok-fill_installs.ensures in let second = c.in_ok-fill_given.ensures in
    more_on c.in_ok-catalog.catalog c.fill_installs.new.catalog c.fill_given.new.catalog first.more second.more

pub returns-clause-image : goal.returns-clause-image
returns-clause-image c =
    let loaded = c.args.loaded.now in
    read_more c.in_ok-catalog.catalog c.fill_given.new.catalog (has_more c) loaded.bodies loaded.image loaded.first c.args.partitions c.in_ok-catalog.database c.in_ok-catalog.ensures.image

pub returns-clause-named : goal.returns-clause-named
returns-clause-named c =
    let first = c.in_ok-fill_installs.ensures in
    let second = c.in_ok-fill_given.ensures in
    are_named_still c.fill_installs.new.catalog c.fill_given.new.catalog second.more c.args.loaded.now.entries
    (subst (AreNamed c.fill_installs.new.catalog) c.as_slice.ensures first.named)

pub returns-clause-is_whole : goal.returns-clause-is_whole
returns-clause-is_whole c =
    let loaded = c.args.loaded.now in
    whole_more c.in_ok-catalog.catalog c.fill_given.new.catalog (has_more c) loaded.bodies loaded.image loaded.first c.args.partitions c.in_ok-catalog.database c.in_ok-catalog.ensures.image
    c.in_ok-catalog.ensures.is_whole
