pub mod TextLaws
pub mod SupposedLaws
pub mod OptionLaws
pub mod VerdictLaws
