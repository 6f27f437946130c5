use Rattle.ss_catalog_laws.proofs.OutlineRead.{outline_read}
use Rattle.ss_catalog_laws.proofs.Once.{outline_once}
use Rattle.ss_catalog_laws.proofs.Known.{outline_known}
use Rattle.ss_catalog_laws.proofs.Within.{outline_within}
use Rattle.ss_catalog_laws.proofs.Forms.{catalog_form}
use Rattle.ss_catalog_laws.proofs.resolved_has_form.Goals as goal

pub returns : goal.returns
returns c = λ d o catalog read twice unknown over resolves. catalog_form o catalog (outline_read d o read) (outline_once o twice) (outline_known o unknown) (outline_within o over) resolves
