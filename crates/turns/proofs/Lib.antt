pub mod OutputLaws
pub mod PieceLaws
pub mod PlainLaws
pub mod PutLaws
pub mod RunLaws
pub mod StillLaws
pub mod TurnLaws
