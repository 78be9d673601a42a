pub mod OfferLaws
pub mod RefusalLaws
