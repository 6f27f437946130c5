use Rattle.ss_words.proofs.Reading.{one_spelling}
use Rattle.ss_words.proofs.laws.words_have_one_spelling.Goals as goal

pub returns : goal.returns
returns c = one_spelling
