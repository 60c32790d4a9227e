pub mod BlockLaws
pub mod PutLaws
pub mod FileLaws
pub mod CallLaws
