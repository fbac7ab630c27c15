use Rattle.std.proofs.Common.{◌∙◌, sym, ap, refl, Ok, Err, length}
use Rattle.std.proofs.lemmas.Result.{err_from_is_err_and}
use Rattle.tg_c.specs.declared.refusal.CallRefusal.TheVariants as refusal
use Rattle.tg_c.specs.Ending.{AreEdgesShown, AreToldEdgesTo}
use Rattle.tg_c.specs.Forms.{edges_shown_in}
use Rattle.tg_c.proofs.CallLaws.{served_as}
use Rattle.tg_c.proofs.ending.edges_to.Goals as goal

pub returns-in_err-found : goal.returns-in_err-found
returns-in_err-found c =
    let given = err_from_is_err_and c.from_residual.result c.from_residual.ensures.1 in
    let store = c.deref.result.now.store in
    served_as (λ why. why) (AreToldEdgesTo c.args.name) c.args.place.now c.put.new.self (AreEdgesShown c.args.into.now c.args.into.now c.from_residual.result) store store (Err refusal.OutOfMemory)
    c.in-Some.ensures.taken.0 c.put.ensures.open (sym (ap (λ s. s.store) (c.deref.ensures ∙ c.in-Some.ensures.taken.1))) (ap (λ s. s.store) (c.put.ensures.opened ∙ sym c.deref.ensures))
    (given.1 ∙ ap Err given.2, refl) (record { same = refl; edges = λ g stands. tt; wanting = refl })

pub returns : goal.returns
returns c =
    let store = c.deref.result.now.store in
    let edges = c.in_ok-found.found.items in
    served_as (λ why. why) (AreToldEdgesTo c.args.name) c.args.place.now c.put.new.self (AreEdgesShown c.args.into.now c.put_edges.new.out (Ok (length c.as_slice-edges.result.now))) store store (Ok edges)
    c.in-Some.ensures.taken.0 c.put.ensures.open (sym (ap (λ s. s.store) (c.deref.ensures ∙ c.in-Some.ensures.taken.1))) (ap (λ s. s.store) (c.put.ensures.opened ∙ sym c.deref.ensures))
    (ap (λ xs. Ok (length xs)) c.as_slice-edges.ensures.value, c.put_edges.ensures ∙ ap (λ xs. edges_shown_in xs c.args.into.now) c.as_slice-edges.ensures.value)
    (record { same = refl; edges = λ g stands. c.in_ok-found.ensures g stands; wanting = tt })
