pub mod WriteLaws
pub mod PrintLaws
pub mod PrintDecls
pub mod NodeLaws
pub mod AnswerLaws
pub mod EntryLaws
pub mod FitLaws
