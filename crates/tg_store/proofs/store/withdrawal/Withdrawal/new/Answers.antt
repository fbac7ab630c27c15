use Rattle.std.proofs.Common.{◌≡◌, ◌∙◌, ◌==◌, ◌++◌, ◌∷◌, ◌+◌, ◌≤◌, [], ℕ, List, not, get_or, length, take, sym, ap, subst, arith}
use Rattle.std.specs.List.{All, list_any}
use Rattle.std.proofs.lemmas.List.{map-append, map_more, take_all}
use Rattle.std.proofs.lemmas.List.Elements.{All-nil, All-push}
use Rattle.tg_word.specs.declared.Place.{Place}
use Rattle.tg_subjects.specs.Subjects.{names_of}
use Rattle.tg_subjects.specs.declared.subject.Subject.{Subject}
use Rattle.tg_rows.specs.Rows.{IsVertexAt}
use Rattle.tg_graph.specs.Heap.{subject_names}
use Rattle.tg_store.specs.Inner.Reaching.{names_found}
use Rattle.tg_store.specs.Withdrawing.{givers_among}
use Rattle.tg_store.proofs.LeftLaws.{givers-push, givers-same}
use Rattle.tg_store.proofs.store.withdrawal.Withdrawal.new.Goals as goal
use Rattle.tg_store.proofs.store.withdrawal.Withdrawal.new.Goals.{then-not-contains+in_ok-push, else-not-contains}

abbrev nobody : Subject
nobody = record { name = 0; nursery = 0; place = record { space = 0; block = 0; cell = 0 } }

pub loop-subject-init : goal.loop-subject-init
loop-subject-init g c =
    let h = c.args.heap.now.table.spaces in
    record {
      names = ap names_found c.new-givers.ensures.items;
      placed = subst (All (λ (v : ℕ × Place). IsVertexAt h v.0 v.1)) (sym c.new-givers.ensures.items) (All-nil (λ (v : ℕ × Place). IsVertexAt h v.0 v.1));
    }

pub loop-subject-preserved : goal.loop-subject-preserved
loop-subject-preserved g c =
    let h = c.args.heap.now.table.spaces in
    let keep = c.args.keep.now in
    let subjects = c.subjects-subject-items.result.now in
    let told = c.subjects-subject-items.ensures in
    let i = c.loop-subject.subject-index in
    let one = get_or subjects i nobody in
    let vertices : All (λ (s : Subject). IsVertexAt h s.name s.place) subjects = subst (All (λ (s : Subject). IsVertexAt h s.name s.place)) (sym told.subjects) told.well_formed.vertices in
    let vertex : IsVertexAt h one.name one.place = vertices i nobody c.loop-subject-test.true in
    let before = names_of (take i subjects) in
    let more : before ++ one.name ∷ [] ≡ names_of (take (i + 1) subjects) = sym (map_more (λ (s : Subject). s.name) subjects i nobody c.loop-subject-test.true) in
    let was = c.loop-subject.invariant in
    let givers = c.loop-subject.givers.items in
    let is_kept : list_any (λ k. k == one.name) keep ≡ c.contains.result = sym c.contains.ensures.value in
    elim c.if-not-contains.branch [
      | then-not-contains+in_ok-push w ↦ record {
        names =
            ap (λ v. names_found v.items) w.givers-is ∙ ap names_found w.in_ok-push.ensures.items ∙ map-append (λ (v : ℕ × Place). v.0) givers ((one.name, one.place) ∷ [])
            ∙ ap (λ (xs : List ℕ). xs ++ one.name ∷ []) was.names
            ∙ sym (givers-push keep before one.name (ap not (is_kept ∙ w.if-not-contains.true))) ∙ ap (λ (xs : List ℕ). givers_among xs keep) more;
        placed = subst (All (λ (v : ℕ × Place). IsVertexAt h v.0 v.1)) (sym (ap (λ v. v.items) w.givers-is ∙ w.in_ok-push.ensures.items))
            (All-push (λ (v : ℕ × Place). IsVertexAt h v.0 v.1) givers (one.name, one.place) was.placed vertex);
      }
      | else-not-contains w ↦ record {
        names = ap (λ v. names_found v.items) w.givers-is ∙ was.names ∙ sym (givers-same keep before one.name (ap not (is_kept ∙ w.if-not-contains.false))) ∙ ap (λ (xs : List ℕ). givers_among xs keep) more;
        placed = subst (λ v. All (λ (x : ℕ × Place). IsVertexAt h x.0 x.1) v.items) (sym w.givers-is) was.placed;
      }
    ]

pub returns-clause-givers : goal.returns-clause-givers
returns-clause-givers g c =
    let subjects = c.subjects-subject-items.result.now in
    let i = c.loop-subject.subject-index in
    let past : length subjects ≤ i = omega (arith, c.loop-subject-test.false) in
    let all : names_of (take i subjects) ≡ subject_names c.args.heap.now = ap names_of (take_all i subjects past ∙ c.subjects-subject-items.ensures.subjects) in
    c.loop-subject.invariant.names ∙ ap (λ (xs : List ℕ). givers_among xs c.args.keep.now) all
