pub mod DecisionLaws
mod FaultLaws
mod IndexLaws
mod ReceiverLaws
pub mod LookingLaws
pub mod SubjectNames
