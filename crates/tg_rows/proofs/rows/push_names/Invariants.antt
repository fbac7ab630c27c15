use Rattle.std.proofs.Common.{◌≡◌, ◌++◌, map, take}
use Rattle.tg_rows.specs.Index.{name_referred}
use Rattle.tg_rows.proofs.rows.push_names.Given as goal

abbrev pub invariant-loop-word : goal.invariant-loop-word
invariant-loop-word l = l.names.items ≡ l.initial.names.items ++ map (name_referred l.spaces.spaces) (take l.word-index l.words)
