use Rattle.ss_snapshot.proofs.ReadImages.{all_accepted, all_found, all_read_as, all_whole}
use Rattle.ss_snapshot.proofs.image.read_image.Goals as goal

pub returns-clause-image : goal.returns-clause-image
returns-clause-image c =
    all_read_as c.args.bodies c.args.bytes.now c.args.first c.images_are_exact.ensures.stand c.catalog_and_database_in.result c.catalog_and_database_in.ensures.read

pub returns-clause-accepted : goal.returns-clause-accepted
returns-clause-accepted c = all_accepted c.args.bodies c.args.bytes.now c.args.first c.catalog_and_database_in.result c.catalog_and_database_in.ensures.read

pub returns-clause-is_whole : goal.returns-clause-is_whole
returns-clause-is_whole c =
    all_whole c.args.bodies c.args.bytes.now c.args.first c.images_are_exact.ensures.stand c.args.partitions c.catalog_and_database_in.result c.catalog_and_database_in.ensures.read
    c.catalog_and_database_in.ensures.whole

pub returns-clause-again : goal.returns-clause-again
returns-clause-again c =
    all_found c.args.bodies c.args.bytes.now c.args.first c.images_are_exact.ensures.stand c.bytes_have_one_answer.ensures.kept c.bytes_have_one_answer.ensures.either
    c.catalog_and_database_in.result c.catalog_and_database_in.ensures.read c.catalog_and_database_in.ensures.refused
