use Rattle.std.proofs.Common.{◌≡◌, ◌≢◌, ◌<◌, ◌∙◌, ◌+◌, ℕ, List, length, get_or, ap, sym, subst, arith, ⊎_elim, [], ◌++◌, ◌∷◌, refl}
use Rattle.std.specs.List.{range_with_len}
use Rattle.std.proofs.lemmas.Bool.{cases_eq}
use Rattle.std.proofs.lemmas.List.{append-nil, append_assoc, length-append, length-map, length_push, get_or-set_other}
use Rattle.std.proofs.lemmas.List.Elements.{All-nil}
use Rattle.tg_model.specs.declared.value.Value.{Value}
use Rattle.tg_word.specs.Word.{nursery_space}
use Rattle.tg_word.specs.declared.Place.{Place}
use Rattle.tg_subjects.specs.Subjects.{names_of, nurseries_of, subject_places}
use Rattle.tg_subjects.specs.declared.subject.Subject.{Subject}
use Rattle.tg_space.specs.SpaceTable.{used_of}
use Rattle.tg_graph.specs.Heap.{AreAtHome}
use Rattle.tg_graph.specs.Opened.{IsOpened, no_labels}
use Rattle.tg_graph.proofs.OpenedSubjects.{more_at_home, names_more, next_above, next_free, nurseries_more, places_more}
use Rattle.tg_graph.proofs.Openings.{nothing_opened, one_more_opened, used_more}
use Rattle.tg_graph.proofs.opening.place_workers.Goals as goal

-- nothing is left, so what came is all
all_came : (yielded rest items : List Value) → yielded ++ rest ≡ items → length rest ≡ 0 → yielded ≡ items
all_came yielded [] items left none = sym (append-nil yielded) ∙ left
all_came yielded (x ∷ rest) items left none = absurd (omega (arith, none))

-- one that comes next is past those that came
next_inside : (yielded rest more items : List Value) (x : Value) → yielded ++ rest ≡ items → rest ≡ x ∷ more → length yielded < length items
next_inside yielded rest more items x left next =
    let all = ap (λ (l : List Value). length l) left in
    let long = ap (λ (l : List Value). length l) next in
    omega (arith, all, long, length-append yielded rest)

pub place_vertex-place-requires : goal.place_vertex-place-requires
place_vertex-place-requires g c =
    let before = c.loop-draft.invariant in
    let inside = next_inside c.loop-draft.yielded c.loop-draft.draft-iterator.rest.items c.next.new.self.rest.items c.args.drafts.items c.in-Some.draft before.left c.in-Some.ensures.steps.0 in
    let few = c.requires.few in
    let count = before.count in
    let name = c.len-name.ensures.number in
    record {
      table = before.table;
      graph = before.opened.graph;
      fresh = λ named. let low = (before.opened.content.names c.len-name.result).0 named in let counted = length-map c.loop-draft.subjects (λ (s : Subject). s.place) in omega (arith, low, counted, name);
      few = omega (arith, few, count, name, inside);
      nursery = let spaces = before.opened.spaces in omega (arith, spaces, few, count, name, inside);
      left = let none = before.unused c.len-name.result (omega (arith, count, name)) in let some = before.opened.blocks c.len-name.result (omega (arith, count, name, inside)) in omega (arith, none, some);
      spare = let spare = before.spare in omega (arith, spare, inside);
    }

pub loop-draft-init : goal.loop-draft-init
loop-draft-init g c =
    let t = c.args.cells.now.spaces in
    let payloads = c.args.cells.now.payloads in
    let workers = length c.args.drafts.items in
    record {
      left = c.into_iter-draft-iterator.ensures.into_iter_gives.0;
      opened = subst (λ (subjects : List Subject). IsOpened t payloads (subject_places subjects) workers t.limits no_labels []) (sym c.requires.subjects)
          (nothing_opened t payloads workers t.limits c.requires.few c.requires.blocks c.requires.blocks.table c.requires.payloads);
      names = ap names_of c.requires.subjects;
      numbers = ap nurseries_of c.requires.subjects;
      home = subst AreAtHome (sym c.requires.subjects) (All-nil (λ (x : Subject). x.place.space ≡ nursery_space x.nursery));
      count = ap (λ (subjects : List Subject). length subjects) c.requires.subjects;
      table = c.requires.blocks.table;
      used = λ x. let e = c.requires.blocks.unused (nursery_space x) in omega arith;
      unused = λ x high. c.requires.blocks.unused (nursery_space x);
      spare = let e = c.requires.spare in omega arith;
      remembered = refl;
    }

pub loop-draft-preserved : goal.loop-draft-preserved
loop-draft-preserved g c =
    let before = c.loop-draft.invariant in
    let step = c.place_vertex-place.ensures in
    let t = c.loop-draft.cells.spaces in
    let after = c.place_vertex-place.new.self.spaces in
    let subjects = c.loop-draft.subjects in
    let place = c.place_vertex-place.result in
    let name = c.len-name.result in
    let x : Subject = record { name = name; nursery = c.add.result; place = place } in
    let added : c.add.new.self ≡ subjects ++ x ∷ [] = c.add.ensures.added in
    let yielded = c.loop-draft.yielded in
    let draft = c.in-Some.draft in
    let long : length (yielded ++ draft ∷ []) ≡ length yielded + 1 = length_push yielded draft in
    let count = before.count in
    let named : name ≡ length yielded = omega (arith, c.len-name.ensures.number, count) in
    let counted : length (subject_places subjects) ≡ length subjects = length-map subjects (λ (s : Subject). s.place) in
    let numbered : c.add.result ≡ length yielded = next_free subjects (length yielded) c.add.result before.numbers c.add.ensures.nursery in
    let used_is = λ (x : ℕ). ap (λ (us : List ℕ). get_or us (nursery_space x) 0) step.used in
    let other = λ (x : ℕ) (ne : nursery_space x ≢ nursery_space name). used_is x ∙ get_or-set_other t.used (nursery_space name) (nursery_space x) (used_of t (nursery_space name) + 1) 0 ne in
    record {
      left = append_assoc yielded (draft ∷ []) c.next.new.self.rest.items ∙ ap (λ (l : List Value). yielded ++ l) (sym c.in-Some.ensures.steps.0) ∙ before.left;
      opened = one_more_opened t after c.loop-draft.cells.payloads c.place_vertex-place.new.self.payloads (subject_places subjects) (subject_places c.add.new.self) (length c.args.drafts.items) c.args.cells.now.spaces.limits yielded draft place name
          before.opened (counted ∙ count) (omega (arith, named, counted, count)) step.placed step.vertex step.blocks (ap subject_places added ∙ places_more subjects x);
      names = ap names_of added ∙ names_more subjects x (length yielded) before.names named ∙ ap (range_with_len 0) (sym long);
      numbers = ap nurseries_of added ∙ nurseries_more subjects x (length yielded) before.numbers numbered ∙ ap (range_with_len 0) (sym long);
      home = subst AreAtHome (sym added) (more_at_home subjects x before.home (ap (λ (p : Place). p.space) step.next ∙ ap nursery_space (named ∙ sym numbered)));
      count = ap (λ (all : List Subject). length all) added ∙ length_push subjects x ∙ ap (λ (n : ℕ). n + 1) count ∙ sym long;
      table = step.table;
      used = λ x. ⊎_elim
          (λ same. let e = used_is x in let more = used_more t.used (nursery_space name) (nursery_space x) in let none = before.unused x (omega (arith, same, named)) in omega (arith, e, more, none))
          (λ ne. let e = other x ne in let few = before.used x in omega (arith, e, few))
          (cases_eq (nursery_space x) (nursery_space name));
      unused = λ x high. let ne : nursery_space x ≢ nursery_space name = λ same. omega (arith, same, high, long, named) in other x ne ∙ before.unused x (omega (arith, high, long));
      spare = let a = before.spare in let b = step.spare_left in omega (arith, a, b, long);
      remembered = step.notes ∙ before.remembered;
    }

pub add-requires : goal.add-requires
add-requires g c =
    let before = c.loop-draft.invariant in
    let inside = next_inside c.loop-draft.yielded c.loop-draft.draft-iterator.rest.items c.next.new.self.rest.items c.args.drafts.items c.in-Some.draft before.left c.in-Some.ensures.steps.0 in
    record {
      few = let few = c.requires.few in let count = before.count in omega (arith, few, count, inside);
      above = next_above c.loop-draft.subjects (length c.loop-draft.yielded) c.len-name.result before.names (c.len-name.ensures.number ∙ before.count);
    }

pub returns : goal.returns
returns g c =
    let done = c.loop-draft.invariant in
    let all = all_came c.loop-draft.yielded c.loop-draft.draft-iterator.rest.items c.args.drafts.items done.left (sym c.loop-draft.draft-iterator.rest.ok.0 ∙ c.in-None.ensures.steps.0) in
    let ranged = ap (λ (vs : List Value). range_with_len 0 (length vs)) all in
    record {
      opened = subst (λ (vs : List Value). IsOpened c.loop-draft.cells.spaces c.loop-draft.cells.payloads (subject_places c.loop-draft.subjects) (length c.args.drafts.items) c.args.cells.now.spaces.limits no_labels vs) all done.opened;
      names = done.names ∙ ranged;
      numbers = done.numbers ∙ ranged;
      nurseries = done.home;
      unused = done.used;
      remembered = done.remembered;
    }
