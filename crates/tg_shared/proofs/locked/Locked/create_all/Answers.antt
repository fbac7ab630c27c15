-- Each vertex that is made is one more of the batch.
use Rattle.std.proofs.Common.{◌≡◌, ◌+◌, ◌<◌, ◌∙◌, ◌++◌, ◌∷◌, [], ℕ, List, add-zero, ap, arith, drop, length, refl, reverse, sym}
use Rattle.std.proofs.lemmas.List.{length-reverse, length_push, reverse-append, reverse-reverse}
use Rattle.tg_model.specs.declared.value.Value.{Value}
use Rattle.tg_store.specs.Store.{graph_of_store}
use Rattle.tg_shared.proofs.Adding.{adds_none, numbers_kept}
use Rattle.tg_shared.proofs.Creations.{makes_one, next_of, stops_making}
use Rattle.tg_shared.proofs.locked.Locked.create_all.Goals as goal

inside_of : (values rest popped : List Value) (done : ℕ) (x : Value) → done + length popped ≡ length values → popped ≡ rest ++ x ∷ [] → (done < length values) × (done + 1 + length rest ≡ length values)
inside_of values rest popped done x count is =
    let long = ap (λ (l : List Value). length l) is in
    let more = length_push rest x in
    (omega (arith, count, long, more), omega (arith, count, long, more))

add_one : (first done : ℕ) → first + done + 1 ≡ first + (done + 1)
add_one first done = omega arith

none_yet : (now all : ℕ) → now ≡ all → 0 + now ≡ all
none_yet now all is = omega arith

-- the draft that was popped is the next one
head_of : (values rest popped : List Value) (done : ℕ) (x : Value) → reverse popped ≡ drop done values → popped ≡ rest ++ x ∷ [] → drop done values ≡ x ∷ reverse rest
head_of values rest popped done x left is = sym left ∙ ap (λ (l : List Value). reverse l) is ∙ reverse-append rest (x ∷ [])

pub loop-draft-init : goal.loop-draft-init
loop-draft-init g c = record {
  added = adds_none c.args.self.now c.args.session.now;
  made = sym (add-zero (graph_of_store c.args.self.now.store).made);
  left = ap (λ (l : List Value). reverse l) c.reverse.ensures.items ∙ reverse-reverse c.args.drafts.now.items;
  count = none_yet _ _ (ap (λ (l : List Value). length l) c.reverse.ensures.items ∙ length-reverse c.args.drafts.now.items);
  numbers = record { sessions = refl; entered = refl };
}

pub loop-draft-preserved : goal.loop-draft-preserved
loop-draft-preserved g c =
    let values : List Value = c.args.drafts.now.items in
    let popped : List Value = c.loop-draft.drafts.items in
    let rest : List Value = c.pop.new.self.items in
    let at = c.loop-draft.invariant in
    let first = (graph_of_store c.args.self.now.store).made in
    let inside = inside_of values rest popped c.loop-draft.done c.in-Some.draft at.count c.in-Some.ensures.items in
    let next = next_of values (reverse rest) c.loop-draft.done c.in-Some.draft (head_of values rest popped c.loop-draft.done c.in-Some.draft at.left c.in-Some.ensures.items) inside.0 in
    let told = c.in_default-create_next.ensures in
    record {
      added = makes_one c.args.label values c.args.self.now c.loop-draft.self c.create_next.new.self c.args.session.now c.loop-draft.session c.create_next.new.session c.loop-draft.done first _ c.in-Some.draft next.2 (omega (arith, inside.0)) (told.name ∙ at.made) at.added told.made;
      made = told.next ∙ ap (λ (n : ℕ). n + 1) at.made ∙ add_one first c.loop-draft.done;
      left = sym next.1;
      count = inside.1;
      numbers = numbers_kept c.args.self.now c.loop-draft.self c.create_next.new.self at.numbers told.numbers;
    }

pub returns-in-Err-clause-stopped : goal.returns-in-Err-clause-stopped
returns-in-Err-clause-stopped g c =
    let values : List Value = c.args.drafts.now.items in
    let popped : List Value = c.loop-draft.drafts.items in
    let rest : List Value = c.pop.new.self.items in
    let at = c.loop-draft.invariant in
    let x : Value = c.in-Some.draft in
    let inside = inside_of values rest popped c.loop-draft.done x at.count c.in-Some.ensures.items in
    let head : drop c.loop-draft.done values ≡ x ∷ reverse rest = head_of values rest popped c.loop-draft.done x at.left c.in-Some.ensures.items in
    let next = next_of values (reverse rest) c.loop-draft.done x head inside.0 in
    let left : c.reverse-in-Err.new.self.items ≡ drop c.loop-draft.done values =
    c.reverse-in-Err.ensures.items ∙ ap (λ (l : List Value). reverse l) c.push_reserved.ensures.items ∙ ap (λ (v : Value). reverse (rest ++ v ∷ [])) c.in-Err.ensures.handed_back ∙ reverse-append rest (x ∷ []) ∙ sym head in
    stops_making c.args.label values c.reverse-in-Err.new.self.items c.args.self.now c.loop-draft.self c.create_next.new.self c.args.session.now c.loop-draft.session c.create_next.new.session c.loop-draft.done (graph_of_store c.args.self.now.store).made x _ next.0 left
    at.added c.in-Err.ensures.refused c.in-Err.ensures.reason
