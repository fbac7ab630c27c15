pub mod RightSums
pub mod ChangeLaws
pub mod ActorLaws
pub mod LostLaws
