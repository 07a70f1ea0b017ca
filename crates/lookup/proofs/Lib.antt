pub mod RecordLaws
pub mod FillLaws
pub mod WalkLaws
pub mod BisectLaws
pub mod FloorLaws
pub mod SortedLaws
pub mod StepLaws
pub mod Cases
