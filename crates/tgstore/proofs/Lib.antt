pub mod WordLaws
pub mod ServingLaws
pub mod StrictLaws
pub mod ResumedLaws
pub mod KeptLaws
