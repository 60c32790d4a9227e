pub mod PairLaws
pub mod FillLaws
pub mod OpenLaws
pub mod CallLaws
