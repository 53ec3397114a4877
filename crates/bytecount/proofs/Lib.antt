pub mod CharLaws
pub mod CountLaws
pub mod TallyLaws
pub mod LaneMarkLaws
pub mod BytewiseLaws
pub mod WordMarkLaws
pub mod WordTallyLaws
