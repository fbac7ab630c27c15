use Rattle.std.proofs.Common.{◌≡◌, ◌≤◌, ◌<◌, ◌+◌, ◌∙◌, List, [], ◌∷◌, ℕ, length, map, ap, refl, sym, subst, arith}
use Rattle.std.specs.List.{All}
use Rattle.std.proofs.lemmas.List.{length-map}
use Rattle.std.proofs.lemmas.List.Elements.{All-cons, All-head, All-nil, All-tail, Contains-get_or}
use Rattle.tg_subjects.specs.declared.subject.Subject.{Subject}
use Rattle.tg_subjects.specs.Subjects.{names_of}
use Rattle.tg_model.specs.Graph.{IsSound}
use Rattle.tg_journal.specs.declared.entry.Entry.{Entry}
use Rattle.tg_store.specs.Store.{StoreState, IsFaithful, graph_of_store}
use Rattle.tg_store.proofs.StandLaws.{made_of, sound_of}
use Rattle.tg_shared.specs.Sessions.{SessionState, SharedStart, AreFresh, sessions_made, subjects_at}
use Rattle.tg_shared.proofs.Balances.{active_made, goes_on_start, sessions_start, within_word}
use Rattle.tg_shared.proofs.Knowing.{rolled_start}
use Rattle.tg_shared.proofs.locked.Locked.open.Goals as goal

pub returns-clause-sessions : goal.returns-clause-sessions
returns-clause-sessions g c =
    let ss : List SessionState = c.in-Ok.sessions.items in
    λ graph stands. subst (λ (l : List ℕ). AreFresh l ss) (c.subjects.ensures.names graph stands) c.in-Ok.ensures.fresh

-- the names of the subjects are names of vertices
mapped_each : {X Y : Type 0} (f : X → Y) (P : Y → Type 0) (xs : List X) → All P (map f xs) → All (λ x. P (f x)) xs
mapped_each f P [] h = All-nil (λ x. P (f x))
mapped_each f P (x ∷ xs) h = All-cons (λ x. P (f x)) x xs (All-head P (f x) (map f xs) h) (mapped_each f P xs (All-tail P (f x) (map f xs) h))

names_low : (s : StoreState) (subjects : List Subject) → IsFaithful s → names_of subjects ≡ (graph_of_store s).subjects → All (λ x. x.name < (graph_of_store s).made) subjects
names_low s subjects faithful names =
    let sound : IsSound (graph_of_store s) = sound_of s faithful in
    let low : All (λ n. n < (graph_of_store s).made) (graph_of_store s).subjects = λ i d inside. sound.subjects_made _ (Contains-get_or (graph_of_store s).subjects i d inside) in
    mapped_each (λ (x : Subject). x.name) (λ n. n < (graph_of_store s).made) subjects (subst (All (λ n. n < (graph_of_store s).made)) (sym names) low)

at_most : (subjects active made : ℕ) → subjects ≡ active → active ≤ made → subjects ≤ made
at_most subjects active made same low = omega arith

none_yet : (first total : ℕ) → total ≡ 0 → first ≡ first + total
none_yet first total none = omega arith

cut_up : (made subjects left whole parts : ℕ) → made ≡ subjects → left + subjects ≡ whole → whole ≡ parts → made + left ≡ parts
cut_up made subjects left whole parts same held all = omega arith

few_enough : (subjects made limit parts : ℕ) → subjects ≤ made → made ≤ limit → parts ≡ limit + 1 → subjects < parts
few_enough subjects made limit parts low within are = omega arith

pub sessions_of-requires : goal.sessions_of-requires
sessions_of-requires g c =
    let faithful = c.journal.ensures.faithful in
    let names : length c.subjects.result.now ≡ length (graph_of_store c.args.store).subjects = sym (length-map c.subjects.result.now (λ (s : Subject). s.name)) ∙ ap (λ (l : List ℕ). length l) (c.subjects.ensures.names (graph_of_store c.args.store) refl) in
    let low : length c.subjects.result.now ≤ (graph_of_store c.args.store).made = at_most (length c.subjects.result.now) (length (graph_of_store c.args.store).subjects) (graph_of_store c.args.store).made names (active_made c.args.store faithful) in
    let within = made_of c.args.store faithful in
    let parts : c.open-book.result.1.parts ≡ c.args.store.opening.plan.limit + 1 = c.open-book.ensures.parts ∙ (sym c.requires.shareable.parts.0 ∙ c.requires.shareable.parts.1) in
    record {
      parts = (few_enough (length c.subjects.result.now) (graph_of_store c.args.store).made c.args.store.opening.plan.limit c.open-book.result.1.parts low within parts, c.open-book.ensures.amount, within_word c.args.store.opening.plan.limit g.L.Ledger.parts faithful.origin.plan.limits.1 (sym c.requires.shareable.parts.0 ∙ c.requires.shareable.parts.1));
      rising = c.subjects.ensures.well_formed;
      none_yet = c.open-roll.ensures.roll;
    }

pub invariant_of-locked : goal.invariant_of-locked
invariant_of-locked g c =
    let ss : List SessionState = c.in-Ok.sessions.items in
    let start : SharedStart = g.L.Round.start in
    let faithful = c.journal.ensures.faithful in
    let names : length c.subjects.result.now ≡ length (graph_of_store c.args.store).subjects = sym (length-map c.subjects.result.now (λ (s : Subject). s.name)) ∙ ap (λ (l : List ℕ). length l) (c.subjects.ensures.names (graph_of_store c.args.store) refl) in
    let each : length (map (λ (s : SessionState). s.worker) ss) ≡ length c.subjects.result.now = ap (λ (l : List ℕ). length l) c.in-Ok.ensures.fresh.0 ∙ length-map c.subjects.result.now (λ (s : Subject). s.name) in
    let number : c.len.result ≡ length c.subjects.result.now = c.len.ensures ∙ c.in-Ok.sessions.ok.0 ∙ sym (length-map ss (λ (s : SessionState). s.worker)) ∙ each in
    let total : c.open-book.result.0.total ≡ 0 = c.open-book.ensures.total in
    let parts : c.open-book.result.1.parts ≡ g.L.Ledger.parts = c.open-book.ensures.parts in
    let left : c.sessions_of.new.rest.parts + length c.subjects.result.now ≡ c.open-book.result.1.parts = c.in-Ok.ensures.rest.0 in
    let entries : c.journal.result.now.entries ≡ c.args.store.entries = c.journal.ensures.entries in
    let shared : length c.args.store.entries ≡ length start.entries = ap (λ (s : SharedStart). length s.entries) c.requires.shareable.start in
    let first : c.len-start.result ≡ length start.entries = c.len-start.ensures ∙ (ap (λ (es : List Entry). length es) entries ∙ shared) in
    let at_start : length (graph_of_store c.args.store).subjects ≡ length (subjects_at start) = ap (λ (s : SharedStart). length (subjects_at s)) c.requires.shareable.start in
    let made : sessions_made start c.args.store.entries ≡ length (subjects_at start) =
    ap (sessions_made start) (ap (λ (s : SharedStart). s.entries) c.requires.shareable.start) ∙ sessions_start start in (
      (
        record {
          counted = shared ∙ none_yet (length start.entries) c.open-book.result.0.total total;
          cut = cut_up c.len.result (length c.subjects.result.now) c.sessions_of.new.rest.parts c.open-book.result.1.parts g.L.Ledger.parts number left parts;
          enough = sym c.requires.shareable.parts.0 ∙ c.requires.shareable.parts.1;
          made = at_most c.len.result (length (graph_of_store c.args.store).subjects) (graph_of_store c.args.store).made (number ∙ names) (active_made c.args.store faithful);
        },
        first,
        (c.in-Ok.ensures.rest.1, c.new-handed.ensures.0 ∙ c.start.ensures.start ∙ c.journal-2.ensures.start),
        goes_on_start start c.args.store c.requires.shareable.start c.journal.ensures.within,
        number ∙ names ∙ at_start ∙ sym made,
      ),
      rolled_start start c.args.store c.sessions_of.new.roll (ap (λ (s : SharedStart). s.entries) c.requires.shareable.start) c.in-Ok.ensures.roll.0
          (c.in-Ok.ensures.roll.1 (graph_of_store c.args.store).made (names_low c.args.store c.subjects.result.now faithful (c.subjects.ensures.names (graph_of_store c.args.store) refl))),
    )
