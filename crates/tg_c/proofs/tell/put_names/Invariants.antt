use Rattle.std.proofs.Common.{◌≡◌, ◌++◌, take, drop}
use Rattle.tg_subjects.specs.Subjects.{names_of}
use Rattle.tg_c.proofs.tell.put_names.Given as goal

abbrev pub invariant-loop-i : goal.invariant-loop-i
invariant-loop-i l = l.out ≡ take l.i (names_of l.subjects) ++ drop l.i l.fn.out
