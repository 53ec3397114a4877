pub mod ValueLaws
pub mod TextLaws
pub mod EquivalenceLaws
pub mod IdentityLaws
pub mod ConformanceLaws
