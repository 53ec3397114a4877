mod BitLaws
mod ByteLaws
mod ListLaws
pub mod GivesLaws
pub mod ValueLaws
pub mod AllowedLaws
mod WeightLaws
pub mod ShapeLaws
pub mod RisingLaws
pub mod WalkLaws
mod MeasureLaws
pub mod PlaceLaws
pub mod EqualityLaws
pub mod BuildingLaws
