pub mod RunLaws
pub mod AlternativeLaws
pub mod HitLaws
pub mod MatchLaws
pub mod SortLaws
pub mod DecidedPatterns
pub mod DecidedHits
