pub mod PartLaws
pub mod FindLaws
