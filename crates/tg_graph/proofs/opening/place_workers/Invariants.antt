use Rattle.std.proofs.Common.{◌≡◌, ◌++◌, ◌+◌, ◌≤◌, ℕ, length}
use Rattle.std.specs.List.{range_with_len}
use Rattle.tg_word.specs.Word.{nursery_space}
use Rattle.tg_subjects.specs.Subjects.{names_of, nurseries_of, subject_places}
use Rattle.tg_space.specs.SpaceTable.{IsSpaceTable, used_of}
use Rattle.tg_graph.specs.Heap.{AreAtHome}
use Rattle.tg_graph.specs.Opened.{IsOpened, no_labels}
use Rattle.tg_graph.proofs.opening.place_workers.Given as goal

abbrev pub invariant-loop-draft : goal.invariant-loop-draft
invariant-loop-draft g l = record {
  left : l.yielded ++ l.draft-iterator.rest.items ≡ l.fn.drafts.items;
  opened : IsOpened l.cells.spaces l.cells.payloads (subject_places l.subjects) (length l.fn.drafts.items) l.initial.cells.spaces.limits no_labels l.yielded;
  names : names_of l.subjects ≡ range_with_len 0 (length l.yielded);
  numbers : nurseries_of l.subjects ≡ range_with_len 0 (length l.yielded);
  home : AreAtHome l.subjects;
  count : length l.subjects ≡ length l.yielded;
  table : IsSpaceTable l.cells.spaces;
  used : (x : ℕ) → used_of l.cells.spaces (nursery_space x) ≤ 1;
  unused : (x : ℕ) → length l.yielded ≤ x → used_of l.cells.spaces (nursery_space x) ≡ 0;
  spare : length l.fn.drafts.items ≤ l.cells.payloads.spare + length l.yielded;
  remembered : l.cells.remembered ≡ l.initial.cells.remembered;
}
