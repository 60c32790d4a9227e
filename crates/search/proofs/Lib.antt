pub mod PlaceLaws
pub mod SearchLaws
pub mod TurnLaws
