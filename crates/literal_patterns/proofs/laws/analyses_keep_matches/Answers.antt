use Rattle.literal_patterns.proofs.MatchLaws.{keeps_matches}
use Rattle.literal_patterns.proofs.laws.analyses_keep_matches.Goals as goal

pub returns : goal.returns
returns c = keeps_matches
