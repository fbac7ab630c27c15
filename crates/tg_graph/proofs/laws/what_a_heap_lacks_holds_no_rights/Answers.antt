use Rattle.tg_graph.proofs.StandingLaws.{OnlyNamedHold-content_of}
use Rattle.tg_graph.proofs.laws.what_a_heap_lacks_holds_no_rights.Goals as goal

pub returns : goal.returns
returns c = OnlyNamedHold-content_of
