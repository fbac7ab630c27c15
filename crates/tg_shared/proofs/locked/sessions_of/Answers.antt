use Rattle.std.proofs.Common.{◌≡◌, ◌<◌, ◌≤◌, ◌+◌, ◌∙◌, ◌++◌, ◌∷◌, [], ℕ, List, take, arith, refl, sym, ap}
use Rattle.std.specs.Prelude.{slice_index_or}
use Rattle.std.proofs.lemmas.List.{get_or_default, map_more}
use Rattle.tg_subjects.specs.Subjects.{names_of}
use Rattle.tg_subjects.specs.declared.subject.Subject.{Subject}
use Rattle.tg_passes.specs.declared.signed.Maker.TheVariants.{Session}
use Rattle.tg_passes.specs.declared.signed.Signed.{Signed}
use Rattle.tg_passes.specs.Passes.{PassState, entries_by, fresh_pass}
use Rattle.tg_shared.proofs.Fresh.{fresh_push}
use Rattle.tg_shared.proofs.locked.sessions_of.Goals as goal

next_low : (below name next : ℕ) → below ≡ name + 1 → name < next → below ≤ next
next_low below name next is low = omega arith

next_most : (below name made : ℕ) → below ≡ name + 1 → name < made → below ≤ made
next_most below name made is low = omega arith

-- a pass that is made when there is no entry
fresh_none : (pass : PassState) (worker : ℕ) (all : List Signed) → pass ≡ fresh_pass (Session worker) all → all ≡ [] → (pass.maker ≡ Session worker) × (pass.made ≡ []) × (entries_by (Session worker) pass.seen ≡ [])
fresh_none pass worker all is none = (ap (λ (p : PassState). p.maker) is, ap (λ (p : PassState). p.made) is, ap (λ (p : PassState). entries_by (Session worker) p.seen) is ∙ ap (entries_by (Session worker)) none)

pub split_off-share-requires : goal.split_off-share-requires
split_off-share-requires g c = record {
  has_parts = omega (arith, c.loop-subject.invariant.parts, c.loop-subject-test.true, c.requires.parts.0);
  has_amount = omega (arith, c.loop-subject.invariant.amount);
  left_backed = λ _. sym c.loop-subject.invariant.amount;
  given_backed = λ _. refl;
}

pub new-requires : goal.new-requires
new-requires g c = record {
  share = (c.split_off-share.ensures.parts, c.split_off-share.ensures.amount, c.requires.parts.2);
  pass = fresh_none _ _ _ c.issue-pass.ensures.pass c.loop-subject.invariant.none_noted;
}

pub issue-pass-requires : goal.issue-pass-requires
issue-pass-requires g c = c.loop-subject.invariant.later c.loop-subject.subject-index _ (omega arith) c.loop-subject-test.true

pub loop-subject-preserved : goal.loop-subject-preserved
loop-subject-preserved g c =
    let ss = c.loop-subject.sessions.items in
    let s = c.new.result in
    let i = c.loop-subject.subject-index in
    let items = c.in_ok-push.ensures.items in
    let more = map_more (λ (x : Subject). x.name) c.args.subjects.now i _ c.loop-subject-test.true ∙ ap (λ (n : ℕ). names_of (take i c.args.subjects.now) ++ n ∷ []) (sym c.new.ensures.worker) in
    record {
      fresh = rw (items, more) (fresh_push (names_of (take i c.args.subjects.now)) s.worker ss s c.loop-subject.invariant.fresh refl c.new.ensures.fresh);
      parts = omega (arith, c.split_off-share.ensures.parts_left, c.loop-subject.invariant.parts);
      amount = omega (arith, c.split_off-share.ensures.amount_left, c.loop-subject.invariant.amount);
      none_noted = c.issue-pass.ensures.signed ∙ c.loop-subject.invariant.none_noted;
      later = λ j d from inside. next_low c.issue-pass.new.self.below (slice_index_or c.args.subjects.now i d).name (slice_index_or c.args.subjects.now j d).name
          (c.issue-pass.ensures.below ∙ ap (λ (x : Subject). x.name + 1) (get_or_default c.args.subjects.now i _ d c.loop-subject-test.true)) (c.requires.rising.rising i j d (omega arith) inside);
      most = λ made low. let here = low i _ c.loop-subject-test.true in next_most _ _ made c.issue-pass.ensures.below here;
    }
