pub mod GoodLaws
pub mod LateLaws
pub mod ReadLaws
pub mod ReplyLaws
pub mod SplitLaws
