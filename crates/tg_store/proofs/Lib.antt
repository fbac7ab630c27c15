mod Apart
mod AnswerLaws
pub mod BlockLaws
mod CollectLaws
mod MakingLaws
mod DifferenceLaws
mod HeldLaws
mod SeeingLaws
mod HoldingLaws
pub mod HistoryLaws
pub mod OriginLaws
mod ReadLaws
pub mod RoomLaws
pub mod StandLaws
mod ReachingLaws
mod PictureLaws
mod SavedLaws
mod LeaveLaws
mod FillLaws
mod ParkGraph
mod ParkLaws
mod UnparkGraph
mod UnparkLaws
mod HandLaws
mod WithdrawLaws
mod LeftLaws
pub mod BatchLaws
mod AuditLaws
mod AgainLaws
