pub mod NeighbourLaws
pub mod RowLaws
pub mod RunLaws
pub mod MeasureLaws
