pub mod RightLaws
pub mod RightBits
pub mod RightNames
pub mod RightText
