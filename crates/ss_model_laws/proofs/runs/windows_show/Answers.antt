use Rattle.ss_model_laws.proofs.Slides.{window_shows}
use Rattle.ss_model_laws.proofs.runs.windows_show.Goals as goal

pub returns : goal.returns
returns c = λ d positive fits. window_shows d positive fits
