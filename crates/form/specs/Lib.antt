pub mod Decode
pub mod Lists
pub mod Break
pub mod Refusal
pub mod Answer
pub mod Internal
