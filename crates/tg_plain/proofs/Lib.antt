pub mod LineLaws
pub mod ReadingLaws
pub mod PastLaws
