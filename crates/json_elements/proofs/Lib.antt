pub mod RestLaws
pub mod ZeroLaws
pub mod HashLaws
pub mod DecimalLaws
pub mod FrameLaws
pub mod SameNumbers
pub mod UniqueLaws
