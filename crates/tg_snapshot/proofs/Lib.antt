pub mod ShownLaws
pub mod RisingLaws
pub mod FaultLaws
pub mod GraphLaws
pub mod OneForm
pub mod AcceptedLaws
