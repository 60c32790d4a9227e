pub mod FlagLaws
pub mod PageLaws
pub mod SelectLaws
pub mod LookupLaws
pub mod HitLaws
