pub mod Set
pub mod Layout
pub mod Reading
pub mod Answers
