pub mod WalkLaws
pub mod SpotLaws
pub mod AnswerLaws
pub mod OnceLaws
pub mod CallLaws
