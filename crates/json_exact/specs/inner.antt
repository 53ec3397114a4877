-- What a user need not believe: what the code keeps of a number while it reads it, the reading as it is computed, and the
-- fields of a `Decimal` and of a `Number`. The files beside this folder say what the answers are.
pub mod LeadingDigits
pub mod LeadingDigitsLaws
pub mod Reading
pub mod LiteralParts
pub mod SignificantDigits
pub mod SignificantGroups
pub mod DecimalFields
pub mod NumberFields
pub mod DecimalInverseLaws
pub mod NumberInverseLaws
