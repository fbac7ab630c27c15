use Rattle.tg_store.proofs.SeeingLaws.{NoneBefore}
use Rattle.tg_store.proofs.store.law.law_among.Given as goal

-- none of the vertices before this one has the name
abbrev pub invariant-loop-vertex : goal.invariant-loop-vertex
invariant-loop-vertex g l = NoneBefore l.vertices l.name l.vertex-index
