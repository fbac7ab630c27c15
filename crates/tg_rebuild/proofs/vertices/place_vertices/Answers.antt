use Rattle.std.proofs.Common.{◌∙◌, ◌+◌, inl, ℕ, List, ap, sym, subst, length, arith, rules}
use Rattle.std.specs.List.{Contains}
use Rattle.std.proofs.lemmas.List.{length_push}
use Rattle.tg_word.specs.declared.Place.{Place}
use Rattle.tg_subjects.specs.Subjects.{names_of}
use Rattle.tg_subjects.specs.declared.subject.Subject.{Subject}
use Rattle.tg_rebuild.proofs.EdgeLaws.{kept_both, kept_self, place_more}
use Rattle.tg_rebuild.proofs.vertices.place_vertices.Goals as goal

pub loop-at-init : goal.loop-at-init
loop-at-init g c = record {
  made = record { base = c.requires.raised.base; named = λ x named. inl (c.requires.raised.named x named) };
  long = search rules;
  placed = λ k d q low. absurd (omega (arith, low));
  kept = kept_self c.args.heap.now;
}

pub place_one-requires : goal.place_one-requires
place_one-requires g c =
    let within = ap length c.vertices-vertices.ensures in
    record {
      made = c.loop-at.invariant.made;
      inside = omega (arith, c.loop-at-test.true, within);
      holder = subst (λ (subjects : List Subject). Contains (names_of subjects) c.args.scaffold.holder) (sym c.loop-at.invariant.kept.subjects) c.requires.holder;
      zero = c.loop-at.invariant.kept.vertices 0 c.args.scaffold.zero c.requires.zero;
    }

pub loop-at-preserved : goal.loop-at-preserved
loop-at-preserved g c =
    let was = c.loop-at.invariant in
    let placed = c.in_ok-place.ensures.placed in
    let place : Place = c.in_ok-place.place in
    let more = c.in_ok-push.ensures.items in
    record {
      made = placed.made;
      long = ap length more ∙ length_push c.loop-at.places.items place ∙ ap (λ (n : ℕ). n + 1) was.long;
      placed = place_more c.args.snapshot.now.vertices c.loop-at.heap.table.spaces c.place_one.new.heap.table.spaces c.loop-at.at c.loop-at.places.items _ place more was.long was.placed placed.kept.vertices c.in_ok-place.ensures.vertex;
      kept = kept_both c.args.heap.now c.loop-at.heap c.place_one.new.heap was.kept placed.kept;
    }

pub returns-clause-placed : goal.returns-clause-placed
returns-clause-placed g c =
    let within = ap length c.vertices-vertices.ensures in
    let end = c.loop-at-test.false in
    let top = c.loop-at.auto.at-end in
    let long = c.loop-at.invariant.long in
    record {
      long = omega (arith, within, end, top, long);
      each = λ k d q low. c.loop-at.invariant.placed k d q (omega (arith, low, within, end));
    }
