use Rattle.ss_voter.proofs.VoterHas.{voter_numbers}
use Rattle.ss_voter.proofs.laws.voter_has_numbers.Goals as goal

pub returns : goal.returns
returns c = voter_numbers
