-- Each vertex that is made and paid for is one more of the batch.
use Rattle.std.proofs.Common.{◌≡◌, ◌+◌, ◌<◌, ◌∙◌, ◌++◌, ◌∷◌, [], ℕ, List, add-zero, ap, arith, drop, length, refl, reverse, subst, sym}
use Rattle.std.proofs.lemmas.List.{length-reverse, length_push, reverse-append, reverse-reverse}
use Rattle.tg_model.specs.declared.value.Value.{Value}
use Rattle.tg_store.specs.Store.{graph_of_store}
use Rattle.tg_shares.proofs.SeenCreates.{adds_none, makes_one, next_of, stops_making}
use Rattle.tg_shares.specs.Creating.{LacksVertex}
use Rattle.tg_shares.specs.Shares.{entries_alone}
use Rattle.tg_shares.proofs.Creations.{lacks_vertex, pays_more}
use Rattle.tg_shares.proofs.metered.Metered.create_all.Goals as goal

inside_of : (values rest popped : List Value) (done : ℕ) (x : Value) → done + length popped ≡ length values → popped ≡ rest ++ x ∷ [] → (done < length values) × (done + 1 + length rest ≡ length values)
inside_of values rest popped done x count is =
    let long = ap (λ (l : List Value). length l) is in
    let more = length_push rest x in
    (omega (arith, count, long, more), omega (arith, count, long, more))

add_one : (first done : ℕ) → first + done + 1 ≡ first + (done + 1)
add_one first done = omega arith

none_yet : (now all : ℕ) → now ≡ all → 0 + now ≡ all
none_yet now all is = omega arith

-- the draft that was popped is the next one
head_of : (values rest popped : List Value) (done : ℕ) (x : Value) → reverse popped ≡ drop done values → popped ≡ rest ++ x ∷ [] → drop done values ≡ x ∷ reverse rest
head_of values rest popped done x left is = sym left ∙ ap (λ (l : List Value). reverse l) is ∙ reverse-append rest (x ∷ [])

-- and put back, it is so again
back_of : (values rest popped : List Value) (done : ℕ) (x y : Value) → reverse popped ≡ drop done values → popped ≡ rest ++ x ∷ [] → y ≡ x → reverse (rest ++ y ∷ []) ≡ drop done values
back_of values rest popped done x y left is same = ap (λ (v : Value). reverse (rest ++ v ∷ [])) same ∙ ap (λ (l : List Value). reverse l) (sym is) ∙ left

pub loop-draft-init : goal.loop-draft-init
loop-draft-init g c = record {
  added = adds_none c.args.self.now.locked c.args.client.now.session;
  made = sym (add-zero (graph_of_store c.args.self.now.locked.store).made);
  left = ap (λ (l : List Value). reverse l) c.reverse.ensures.items ∙ reverse-reverse c.args.drafts.now.items;
  count = none_yet _ _ (ap (λ (l : List Value). length l) c.reverse.ensures.items ∙ length-reverse c.args.drafts.now.items);
  paid = record { vertices = add-zero c.args.client.now.purse.vertices; entries = add-zero c.args.client.now.purse.entries };
}

pub loop-draft-preserved : goal.loop-draft-preserved
loop-draft-preserved g c =
    let values : List Value = c.args.drafts.now.items in
    let popped : List Value = c.loop-draft.drafts.items in
    let rest : List Value = c.pop.new.self.items in
    let at = c.loop-draft.invariant in
    let first = (graph_of_store c.args.self.now.locked.store).made in
    let inside = inside_of values rest popped c.loop-draft.done c.in-Some.draft at.count c.in-Some.ensures.items in
    let next = next_of values (reverse rest) c.loop-draft.done c.in-Some.draft (head_of values rest popped c.loop-draft.done c.in-Some.draft at.left c.in-Some.ensures.items) inside.0 in
    let told = c.in_default-create_next.ensures in
    record {
      added = makes_one c.args.label values c.args.self.now.locked c.loop-draft.self.locked c.create_next.new.self.locked c.args.client.now.session c.loop-draft.client.session c.create_next.new.client.session c.loop-draft.done first _ c.in-Some.draft next.2 (omega (arith, inside.0)) (told.name ∙ at.made) at.added told.made;
      made = told.next ∙ ap (λ (n : ℕ). n + 1) at.made ∙ add_one first c.loop-draft.done;
      left = sym next.1;
      count = inside.1;
      paid = pays_more c.loop-draft.done c.args.client.now.purse c.loop-draft.client.purse c.create_next.new.client.purse at.paid told.paid.paid;
    }

pub returns-in-Err-clause-stopped : goal.returns-in-Err-clause-stopped
returns-in-Err-clause-stopped g c =
    let values : List Value = c.args.drafts.now.items in
    let popped : List Value = c.loop-draft.drafts.items in
    let rest : List Value = c.pop.new.self.items in
    let at = c.loop-draft.invariant in
    let x : Value = c.in-Some.draft in
    let inside = inside_of values rest popped c.loop-draft.done x at.count c.in-Some.ensures.items in
    let none : c.none.result ≡ entries_alone 0 = λ i. record { vertices = c.none.ensures.0 i; entries = c.none.ensures.1 i } in
    let lacking : LacksVertex c.worker-worker.result c.loop-draft.client.purse c.in-Err.why =
    lacks_vertex {T = Unit {0}} c.worker-worker.result c.loop-draft.client.purse c.none.result c.in-Err.why none c.in-Err.ensures.named c.in-Err.ensures.lacks in
    record {
      place = inside.0;
      left_is = c.put_back.ensures ∙ back_of values rest popped c.loop-draft.done x x at.left c.in-Some.ensures.items refl;
      made = record { first = (graph_of_store c.args.self.now.locked.store).made; added = at.added };
      lacking = subst (λ (n : ℕ). LacksVertex n c.loop-draft.client.purse c.in-Err.why) (c.worker-worker.ensures ∙ at.added.receipts.0) lacking;
    }

pub returns-in-Err-create_next-clause-stopped : goal.returns-in-Err-create_next-clause-stopped
returns-in-Err-create_next-clause-stopped g c =
    let values : List Value = c.args.drafts.now.items in
    let popped : List Value = c.loop-draft.drafts.items in
    let rest : List Value = c.pop.new.self.items in
    let at = c.loop-draft.invariant in
    let x : Value = c.in-Some.draft in
    let inside = inside_of values rest popped c.loop-draft.done x at.count c.in-Some.ensures.items in
    let head : drop c.loop-draft.done values ≡ x ∷ reverse rest = head_of values rest popped c.loop-draft.done x at.left c.in-Some.ensures.items in
    let next = next_of values (reverse rest) c.loop-draft.done x head inside.0 in
    let told = c.in-Err-create_next.ensures in
    stops_making c.args.label values c.put_back-in-Err-create_next.new.drafts.items c.args.self.now.locked c.loop-draft.self.locked c.create_next.new.self.locked c.args.client.now.session c.loop-draft.client.session c.create_next.new.client.session c.loop-draft.done
    (graph_of_store c.args.self.now.locked.store).made x _ next.0 (c.put_back-in-Err-create_next.ensures ∙ back_of values rest popped c.loop-draft.done x _ at.left c.in-Some.ensures.items told.handed_back) at.added told.refused told.reason
