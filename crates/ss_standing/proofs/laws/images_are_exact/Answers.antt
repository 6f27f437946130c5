use Rattle.ss_standing.proofs.ImageExact.{kept_exact}
use Rattle.ss_standing.proofs.Checkpoints.{images_are_read, read_images_stand}
use Rattle.ss_standing.proofs.laws.images_are_exact.Goals as goal

pub returns-clause-exact : goal.returns-clause-exact
returns-clause-exact c = kept_exact

pub returns-clause-stand : goal.returns-clause-stand
returns-clause-stand c = read_images_stand

pub returns-clause-again : goal.returns-clause-again
returns-clause-again c = images_are_read
