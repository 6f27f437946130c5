use Rattle.ss_standing.proofs.ImageTells.{image_tells}
use Rattle.ss_standing.proofs.laws.an_image_tells_what_is_kept.Goals as goal

pub returns : goal.returns
returns c = image_tells
