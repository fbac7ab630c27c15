use Rattle.std.proofs.Common.{◌≡◌, ◌++◌, take, drop, map}
use Rattle.tg_subjects.specs.Subjects.{AreSubjects, names_of, nurseries_of, subject_places}
use Rattle.tg_space.specs.Targets.{from_space}
use Rattle.tg_space.specs.Collection.{new_place}
use Rattle.tg_space.specs.Numbering.{followed_place}
use Rattle.tg_graph.proofs.settle.follow_subjects.Given as goal

abbrev pub invariant-loop-at : goal.invariant-loop-at
invariant-loop-at l = record {
  subjects : AreSubjects l.subjects;
  names : names_of l.subjects ≡ names_of l.fn.subjects;
  nurseries : nurseries_of l.subjects ≡ nurseries_of l.fn.subjects;
  places : subject_places l.subjects ≡ map (followed_place (from_space l.moves.kind) l.moves.numbering.now.starts (new_place l.moves.forward.now.words)) (take l.at (subject_places l.fn.subjects)) ++ drop l.at (subject_places l.fn.subjects);
}
