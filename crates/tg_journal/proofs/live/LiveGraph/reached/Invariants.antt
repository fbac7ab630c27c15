use Rattle.std.proofs.Common.{◌-◌, length}
use Rattle.tg_journal.specs.Live.{graph_kept}
use Rattle.tg_journal.proofs.ReachedLaws.{Searches, known}
use Rattle.tg_journal.proofs.live.LiveGraph.reached.Given as goal

abbrev pub invariant-loop-next : goal.invariant-loop-next
invariant-loop-next l = Searches (graph_kept l.self) l.names.keys l.next

abbrev pub decreases-loop-next : goal.decreases-loop-next
decreases-loop-next l = length (known l.self.subjects l.self.made) - l.next
