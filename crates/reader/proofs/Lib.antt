pub mod ReaderLaws
pub mod DeclReads
pub mod CheckLaws
pub mod TableLaws
