use Rattle.std.proofs.Common.{◌≡◌, ◌≢◌, ◌∙◌, ◌≤◌, ◌<◌, ◌*◌, ◌%◌, ◌^◌, List, ℕ, ap, bit_and, subst, sym, w64}
use Rattle.std.specs.Int.{bit_not}
use Rattle.std.specs.List.{All}
use Rattle.tg_word.specs.declared.TheConstants.{MAX_NURSERIES}
use Rattle.tg_subjects.specs.declared.subject.Subject.{Subject}
use Rattle.tg_subjects.specs.Subjects.{AreSubjects, IsAt, MarksHeld, nurseries_of, without}
use Rattle.tg_subjects.proofs.HeldLaws.{marks_less}
use Rattle.tg_subjects.proofs.TableLaws.{keeps_all, subjects_without, without_at}
use Rattle.tg_subjects.proofs.subjects.Subjects.retire.Goals as goal

there : (c : goal.After-self-1) → IsAt c.self.inside.items.items c.args.name c.in-Some.at
there c = rw c.self.view_is (rw c.as_slice.ensures.value at c.in-Some.ensures.there)

taken : (c : goal.After-self-1) → c.remove-retired.new.self.items ≡ without c.args.self.now c.args.name
taken c =
    c.remove-retired.ensures.by_index.2 ∙ without_at c.self.inside.items.items c.args.name c.in-Some.at c.self.invariant.0.rising (there c).inside (there c).named ∙ ap (λ l. without l c.args.name) c.self.view_is

are_left : (c : goal.After-self-1) → AreSubjects c.remove-retired.new.self.items
are_left c = subst AreSubjects (sym (taken c)) (subjects_without c.args.self.now c.args.name c.as_slice.ensures.subjects)

marks_left : (c : goal.After-self-1) → MarksHeld (bit_and c.self.inside.held (bit_not w64 (1 * 2 ^ c.remove-retired.result.nursery % 2 ^ 64))) (nurseries_of c.remove-retired.new.self.items)
marks_left c =
    let inside = (there c).inside in
    let within : c.remove-retired.result.nursery < MAX_NURSERIES =
    subst (λ (s : Subject). s.nursery < MAX_NURSERIES) (sym c.remove-retired.ensures.value) (c.self.invariant.0.nurseries c.in-Some.at c.remove-retired.result inside) in
    subst (λ (l : List Subject). MarksHeld (bit_and c.self.inside.held (bit_not w64 (1 * 2 ^ c.remove-retired.result.nursery % 2 ^ 64))) (nurseries_of l)) (sym c.remove-retired.ensures.items)
    (marks_less c.self.inside.items.items c.in-Some.at c.remove-retired.result c.self.inside.held inside c.remove-retired.ensures.value c.self.invariant.0 within c.self.invariant.2)

pub invariant_of-self : goal.invariant_of-self
invariant_of-self c = (are_left c, subst (λ (n : ℕ). MAX_NURSERIES ≤ n) (sym c.remove-retired.ensures.capacity) c.self.invariant.1, marks_left c)

pub returns-in-Some : goal.returns-in-Some
returns-in-Some c = record { without = taken c; subjects = are_left c }

pub returns-in_default-clause-without : goal.returns-in_default-clause-without
returns-in_default-clause-without c = sym (keeps_all c.args.self.now c.args.name (subst (λ (l : List Subject). All (λ s. s.name ≢ c.args.name) l) c.as_slice.ensures.value (c.position.ensures.none c.in_default.is)))
