pub mod FallLaws
pub mod PruneTree
pub mod FallTree
pub mod PruneLaws
