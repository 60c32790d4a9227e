pub mod BitLaws
pub mod LowestLaws
pub mod MiniLaws
pub mod GatherLaws
