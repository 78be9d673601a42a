pub mod Output
pub mod Turn
pub mod Run
pub mod Internal
