-- What an analysis in memory says, and a literal pattern that is kept: their texts, as code points.
use Rattle.std.specs.Prelude.{map, ◌≡◌}
use Rattle.std.specs.Str.{chars}
use Rattle.std.specs.String.{string_bytes}
use Rattle.std.specs.Cow.{cow_str_bytes}
use Rattle.pattern_model.specs.Literals.{Analysis}
use Rattle.literal_patterns.specs.declared.literal_pattern.LiteralPattern.{LiteralPattern}
use Rattle.literal_patterns.specs.declared.literal_pattern.LiteralPattern.TheVariants as kept
use Rattle.literal_patterns.specs.declared.pattern_analysis.PatternAnalysis.{PatternAnalysis}
use Rattle.literal_patterns.specs.declared.pattern_analysis.PatternAnalysis.TheVariants.{Prefix, Exact, Alternation, NoWhitespace}

abbrev pub analysis_of : PatternAnalysis → Analysis
analysis_of (Prefix t) = Analysis.prefix (chars (cow_str_bytes t))
analysis_of (Exact t) = Analysis.exact (chars (cow_str_bytes t))
analysis_of (Alternation ts) = Analysis.alternation (map (λ t. chars (string_bytes t)) ts.items)
analysis_of NoWhitespace = Analysis.no_whitespace

abbrev pub kept_of : LiteralPattern → Analysis
kept_of (kept.Prefix t) = Analysis.prefix (chars (string_bytes t))
kept_of (kept.Exact t) = Analysis.exact (chars (string_bytes t))
kept_of (kept.Alternation ts) = Analysis.alternation (map (λ t. chars (string_bytes t)) ts.items)
kept_of kept.NoWhitespace = Analysis.no_whitespace
