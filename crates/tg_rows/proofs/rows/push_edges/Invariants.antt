use Rattle.std.proofs.Common.{◌≡◌, ◌++◌, take}
use Rattle.tg_rows.specs.Rows.{edges_in}
use Rattle.tg_rows.proofs.rows.push_edges.Given as goal

abbrev pub invariant-loop-word : goal.invariant-loop-word
invariant-loop-word l = l.edges.items ≡ l.initial.edges.items ++ edges_in l.spaces.spaces (take l.word-index l.words)
