use Rattle.pattern_translation.proofs.WitnessMatches.{witness_matches}
use Rattle.pattern_translation.proofs.laws.witnesses_match.Goals as goal

pub returns : goal.returns
returns c = witness_matches
