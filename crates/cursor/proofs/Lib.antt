pub mod DeclaredLaws
