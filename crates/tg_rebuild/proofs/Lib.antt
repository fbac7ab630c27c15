pub mod BareLaws
pub mod LineLaws
pub mod RaisingLaws
pub mod EdgeLaws
