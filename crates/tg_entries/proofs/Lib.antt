pub mod CountLaws
pub mod OpeningLaws
pub mod PieceLaws
pub mod ReadLaws
pub mod SumLaws
