pub mod BindLaws
pub mod LiftLaws
pub mod DanglingLaws
