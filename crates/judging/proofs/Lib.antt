pub mod TableLaws
pub mod HeadLaws
pub mod EntryLaws
pub mod ContentLaws
pub mod JudgeLaws
