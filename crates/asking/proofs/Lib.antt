pub mod IndexLaws
pub mod MemberLaws
