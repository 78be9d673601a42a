pub mod HeadLaws
pub mod RoundLaws
