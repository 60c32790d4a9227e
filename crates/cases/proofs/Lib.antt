pub mod BatchLaws
pub mod SetLaws
