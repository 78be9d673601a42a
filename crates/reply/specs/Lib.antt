pub mod Reply
pub mod Split
pub mod Internal
