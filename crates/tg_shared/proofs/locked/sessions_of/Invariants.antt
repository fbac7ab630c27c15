use Rattle.std.proofs.Common.{◌≡◌, ◌<◌, ◌≤◌, ◌+◌, ℕ, [], length, take}
use Rattle.std.specs.Prelude.{slice_index_or}
use Rattle.std.specs.List.{All}
use Rattle.tg_subjects.specs.Subjects.{names_of}
use Rattle.tg_subjects.specs.declared.subject.Subject.{Subject}
use Rattle.tg_shared.specs.Sessions.{AreFresh}
use Rattle.tg_shared.proofs.locked.sessions_of.Given as goal

-- a session for each subject so far, each with a part of what was there, and with a pass
abbrev pub invariant-loop-subject : goal.invariant-loop-subject
invariant-loop-subject g l = record {
  fresh : AreFresh (names_of (take l.subject-index l.fn.subjects)) l.sessions.items;
  parts : l.rest.parts + l.subject-index ≡ l.fn.rest.parts;
  amount : l.rest.amount ≡ 0;
  none_noted : l.roll.signed ≡ [];
  later : (j : ℕ) (d : Subject) → l.subject-index ≤ j → j < length l.fn.subjects → l.roll.below ≤ (slice_index_or l.fn.subjects j d).name;
  most : (made : ℕ) → All (λ s. s.name < made) l.fn.subjects → l.roll.below ≤ made;
}
