use Rattle.std.proofs.Common.{◌≡◌, ◌∙◌, sym, subst, ap, refl, Result, Ok, Err, Some, None, ℕ, List, Option, length}
use Rattle.std.proofs.lemmas.Result.{err_from_is_err_and}
use Rattle.tg_rights.specs.declared.Right.{Right}
use Rattle.tg_graph.specs.Shown.{shown_in}
use Rattle.tg_c.specs.declared.place.StorePlace.{StorePlace}
use Rattle.tg_c.specs.declared.refusal.CallRefusal.{CallRefusal}
use Rattle.tg_c.specs.declared.refusal.CallRefusal.TheVariants as refusal
use Rattle.tg_c.specs.Calls.{IsCall, IsShown}
use Rattle.tg_rights.specs.RightSet.{right_of_bit}
use Rattle.tg_c.specs.Ending.{AreToldHolders, AsksHolders}
use Rattle.tg_c.proofs.CallLaws.{served_as}
use Rattle.tg_c.proofs.ending.who_holds.Goals as goal

or_else : Right → Option Right → Right
or_else other None = other
or_else other (Some right) = right

-- the store in an open place was asked for the right of these bits
asked_of : (old new : StorePlace) (bits name : ℕ) (right : Right) (tells : Result (List ℕ) CallRefusal → Type 0) → Some right ≡ right_of_bit bits
    → IsCall (λ why. why) (AreToldHolders right name) old new tells → AsksHolders old new bits name tells
unfolding or_else
asked_of old new bits name right tells is call = record {
  asked = λ asked same. subst (λ r. IsCall (λ why. why) (AreToldHolders r name) old new tells) (ap (or_else right) (is ∙ same)) call;
  bad_rights = λ none. let no : ⊥ = cc (none, is) in absurd no;
}

pub returns-in_err-holders : goal.returns-in_err-holders
returns-in_err-holders c =
    let given = err_from_is_err_and c.from_residual.result c.from_residual.ensures.1 in
    let store = c.deref.result.now.store in
    asked_of c.args.place.now c.put.new.self c.args.right c.args.name c.in-Some.right (IsShown c.args.into.now c.args.into.now c.from_residual.result) c.in-Some.ensures
    (served_as (λ why. why) (AreToldHolders c.in-Some.right c.args.name) c.args.place.now c.put.new.self (IsShown c.args.into.now c.args.into.now c.from_residual.result) store store (Err refusal.OutOfMemory)
    c.in-Some-take.ensures.taken.0 c.put.ensures.open (sym (ap (λ s. s.store) (c.deref.ensures ∙ c.in-Some-take.ensures.taken.1))) (ap (λ s. s.store) (c.put.ensures.opened ∙ sym c.deref.ensures))
    (given.1 ∙ ap Err given.2, refl) (record { same = refl; holders = λ g stands. tt; wanting = refl }))

pub returns : goal.returns
returns c =
    let store = c.deref.result.now.store in
    let names = c.in_ok-holders.holders.items in
    asked_of c.args.place.now c.put.new.self c.args.right c.args.name c.in-Some.right (IsShown c.args.into.now c.put_numbers.new.out (Ok (length c.as_slice-names.result.now))) c.in-Some.ensures
    (served_as (λ why. why) (AreToldHolders c.in-Some.right c.args.name) c.args.place.now c.put.new.self (IsShown c.args.into.now c.put_numbers.new.out (Ok (length c.as_slice-names.result.now))) store store (Ok names)
    c.in-Some-take.ensures.taken.0 c.put.ensures.open (sym (ap (λ s. s.store) (c.deref.ensures ∙ c.in-Some-take.ensures.taken.1))) (ap (λ s. s.store) (c.put.ensures.opened ∙ sym c.deref.ensures))
    (ap (λ xs. Ok (length xs)) c.as_slice-names.ensures.value, c.put_numbers.ensures ∙ ap (λ xs. shown_in xs c.args.into.now) c.as_slice-names.ensures.value)
    (record { same = refl; holders = λ g stands. c.in_ok-holders.ensures g stands; wanting = tt }))
