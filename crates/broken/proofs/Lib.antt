pub mod DueLaws
pub mod KidsLaws
pub mod SeekLaws
pub mod LeafLaws
pub mod StartLaws
pub mod PositionLaws
pub mod EntryLaws
