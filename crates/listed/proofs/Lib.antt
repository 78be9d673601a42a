pub mod CallLaws
pub mod ShallowLaws
pub mod FreeLaws
pub mod FillLaws
pub mod TreeLaws
pub mod NoneLaws
