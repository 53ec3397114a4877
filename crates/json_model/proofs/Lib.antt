pub mod KindLaws
pub mod KeyOrderLaws
pub mod DecimalLaws
