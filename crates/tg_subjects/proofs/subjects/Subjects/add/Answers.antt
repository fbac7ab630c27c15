use Rattle.std.proofs.Common.{◌≤◌, ◌*◌, ◌%◌, ◌^◌, ℕ, List, bit_or, sym, subst}
use Rattle.tg_word.specs.declared.TheConstants.{MAX_NURSERIES}
use Rattle.tg_subjects.specs.declared.subject.Subject.{Subject}
use Rattle.tg_subjects.specs.Subjects.{AreSubjects, IsLeastFree, MarksHeld, nurseries_of}
use Rattle.tg_subjects.proofs.HeldLaws.{marks_more}
use Rattle.tg_subjects.proofs.TableLaws.{subjects_push}
use Rattle.tg_subjects.proofs.subjects.Subjects.add.Goals as goal

free : (c : goal.After-self-1) → IsLeastFree c.self.inside.items.items c.free_nursery-nursery.result
free c = rw c.self.view_is c.free_nursery-nursery.ensures

are_more : (c : goal.After-self-1) → AreSubjects c.push_reserved.new.self.items
are_more c =
    let s : Subject = record { name = c.args.name; nursery = c.free_nursery-nursery.result; place = c.args.place } in
    rw c.push_reserved.ensures.items (subjects_push c.self.inside.items.items s c.self.invariant.0 (free c) (rw (← c.self.view_is) at c.requires.above))

pub invariant_of-self : goal.invariant_of-self
invariant_of-self c =
    let s : Subject = record { name = c.args.name; nursery = c.free_nursery-nursery.result; place = c.args.place } in (
      are_more c,
      subst (λ (n : ℕ). MAX_NURSERIES ≤ n) (sym c.push_reserved.ensures.capacity) c.self.invariant.1,
      subst (λ (l : List Subject). MarksHeld (bit_or c.self.inside.held (1 * 2 ^ c.free_nursery-nursery.result % 2 ^ 64)) (nurseries_of l)) (sym c.push_reserved.ensures.items)
          (marks_more c.self.inside.items.items s c.self.inside.held (free c).few c.self.invariant.2),
    )

pub returns-clause-subjects : goal.returns-clause-subjects
returns-clause-subjects c = are_more c
