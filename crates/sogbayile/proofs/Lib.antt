pub mod CodeLaws
pub mod ShortLaws
pub mod RunLaws
pub mod OfferLaws
