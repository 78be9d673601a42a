pub mod Form
pub mod Tag
