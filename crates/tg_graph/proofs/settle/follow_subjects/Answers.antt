-- The subjects before the loop's are where their objects were copied to, and the others are still where they were.
use Rattle.std.proofs.Common.{◌≡◌, ℕ, ◌<◌, ◌≤◌, List, ◌++◌, length, get_or, set, drop, map, sym, ap, subst, arith, ◌∙◌}
use Rattle.std.proofs.lemmas.List.{append-nil, drop_all, get_or-map, get_or_default, length-map, take_all}
use Rattle.std.proofs.lemmas.List.Edits.{map_over_more}
use Rattle.tg_word.specs.declared.Place.{Place}
use Rattle.tg_subjects.specs.Subjects.{names_of, subject_places}
use Rattle.tg_subjects.specs.declared.subject.Subject.{Subject}
use Rattle.tg_space.specs.Targets.{from_space}
use Rattle.tg_space.specs.Collection.{new_place}
use Rattle.tg_space.specs.Numbering.{IsNumbered, followed_place}
use Rattle.tg_rows.proofs.Members.{still_at}
use Rattle.tg_graph.proofs.settle.follow_subjects.Goals as goal

-- as many subjects as before
as_many : (xs ys : List Subject) → names_of ys ≡ names_of xs → length ys ≡ length xs
as_many xs ys same = sym (length-map ys (λ (x : Subject). x.name)) ∙ ap (λ (ns : List ℕ). length ns) same ∙ length-map xs (λ (x : Subject). x.name)

-- what an index past the end would read
abbrev nobody : Subject
nobody = record { name = 0; nursery = 0; place = record { space = 0; block = 0; cell = 0 } }

pub loop-at-preserved : goal.loop-at-preserved
loop-at-preserved c =
    let f = followed_place (from_space c.args.moves.kind) c.args.moves.numbering.now.starts (new_place c.args.moves.forward.now.words) in
    let before = c.loop-at.invariant in
    let xs = subject_places c.args.subjects.now in
    let subjects = c.loop-at.subjects in
    let ys = subject_places subjects in
    let i = c.loop-at.at in
    let p = (get_or c.as_slice.result.now i nobody).place in
    let many = as_many c.args.subjects.now subjects before.names in
    let long = length-map c.args.subjects.now (λ (x : Subject). x.place) in
    let inside : i < length xs = let low = c.loop-at-test.true in let count = c.len-at-end.ensures.number in omega (arith, low, count, long) in
    let low : i < length subjects = omega (arith, inside, many, long) in
    let within : i < length ys = let same = length-map subjects (λ (x : Subject). x.place) in omega (arith, low, same) in
    let read : p ≡ get_or ys i nobody.place = ap (λ (ss : List Subject). (get_or ss i nobody).place) c.as_slice.ensures.value ∙ sym (get_or-map (λ (x : Subject). x.place) subjects i nobody nobody.place low) in
    record {
      subjects = c.set_place.ensures.subjects;
      names = c.set_place.ensures.names ∙ before.names;
      nurseries = c.set_place.ensures.nurseries ∙ before.nurseries;
      places = c.set_place.ensures.places ∙ ap (λ (place : Place). set ys i place) c.place.ensures ∙ map_over_more f xs ys i p inside before.places (read ∙ get_or_default ys i nobody.place p within);
    }

pub place-requires : goal.place-requires
place-requires c =
    let starts = c.args.moves.numbering.now.starts in
    let words = length c.args.moves.forward.now.words in
    let f = followed_place (from_space c.args.moves.kind) starts (new_place c.args.moves.forward.now.words) in
    let before = c.loop-at.invariant in
    let xs = subject_places c.args.subjects.now in
    let subjects = c.loop-at.subjects in
    let i = c.loop-at.at in
    let many = as_many c.args.subjects.now subjects before.names in
    let long = length-map c.args.subjects.now (λ (x : Subject). x.place) in
    let inside : i < length xs = let low = c.loop-at-test.true in let count = c.len-at-end.ensures.number in omega (arith, low, count, long) in
    let low : i < length subjects = omega (arith, inside, many, long) in
    let here : (get_or subjects i nobody).place ≡ get_or xs i nobody.place =
    sym (get_or-map (λ (x : Subject). x.place) subjects i nobody nobody.place low) ∙ still_at Place f xs (subject_places subjects) i nobody.place before.places inside in
    subst (λ (ss : List Subject). IsNumbered starts words (get_or ss i nobody).place) (sym c.as_slice.ensures.value) (subst (IsNumbered starts words) (sym here) (c.requires i nobody.place inside))

pub returns : goal.returns
returns c =
    let f = followed_place (from_space c.args.moves.kind) c.args.moves.numbering.now.starts (new_place c.args.moves.forward.now.words) in
    let xs = subject_places c.args.subjects.now in
    let i = c.loop-at.at in
    let past : length xs ≤ i = let same = length-map c.args.subjects.now (λ (x : Subject). x.place) in let end = c.loop-at-test.false in let count = c.len-at-end.ensures.number in omega arith in
    let done = c.loop-at.invariant in
    record {
      names = done.names;
      nurseries = done.nurseries;
      places_are = done.places
          ∙ ap (λ (zs : List Place). map f zs ++ drop i xs) (take_all i xs past)
          ∙ ap (λ (zs : List Place). map f xs ++ zs) (drop_all i xs past)
          ∙ append-nil (map f xs);
      subjects = done.subjects;
    }
