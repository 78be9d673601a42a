pub mod ScanLaws
pub mod OffsetLaws
pub mod LineLaws
pub mod ReadBack
