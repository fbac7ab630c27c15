use Rattle.std.proofs.Common.{◌≡◌, ◌∙◌, ◌++◌, ◌∷◌, ◌+◌, [], List, ap, map, sym, take, arith}
use Rattle.std.proofs.lemmas.List.{append_assoc, map_more, take_all}
use Rattle.tg_model.specs.declared.command.Command.{Command}
use Rattle.tg_journal.specs.declared.entry.Entry.{Entry}
use Rattle.tg_store.specs.Counts.{refusal_told}
use Rattle.tg_store.specs.Handing.{done_by}
use Rattle.tg_store.specs.Unparking.{taking}
use Rattle.tg_store.proofs.unparking.enter_takes.Goals as goal

-- an entry after those that were entered
one_more : (old now done : List Entry) (e : Entry) → now ≡ old ++ done → now ++ e ∷ [] ≡ old ++ (done ++ e ∷ [])
one_more old now done e is = ap (λ es. es ++ e ∷ []) is ∙ append_assoc old done (e ∷ [])

pub loop-edge-preserved : goal.loop-edge-preserved
loop-edge-preserved c =
    let p = c.args.parking.now in
    let es = c.args.row.now in
    let i = c.loop-edge.edge-index in
    let e = c.edge-item.result in
    let done = map (taking p) (take i es) in
    let invariant = c.loop-edge.invariant in
    let more : map (taking p) (take (i + 1) es) ≡ done ++ taking p e ∷ [] = map_more (taking p) es i e c.loop-edge-test.true ∙ ap (λ d. done ++ taking p d ∷ []) (sym c.edge-item.is) in
    let entry : c.done_by.result ≡ taking p e = c.done_by.ensures ∙ ap (λ (k : Command). done_by p.user k) c.take.ensures in
    let old = c.args.journal.now.entries in
    record {
      entries = c.push.ensures.entries ∙ ap (λ (n : Entry). c.loop-edge.journal.entries ++ n ∷ []) entry ∙ one_more old c.loop-edge.journal.entries done (taking p e) invariant.entries ∙ ap (λ xs. old ++ xs) (sym more);
      start = c.push.ensures.start ∙ invariant.start;
      spare = omega (arith, c.push.ensures.spare, invariant.spare);
    }

pub push-requires : goal.push-requires
push-requires c = record { room = omega (arith, c.requires.room, c.loop-edge.invariant.spare, c.loop-edge-test.true); told = ap (λ (n : Entry). refusal_told n.reply) c.done_by.ensures }

pub returns-clause-entries : goal.returns-clause-entries
returns-clause-entries c = c.loop-edge.invariant.entries ∙ ap (λ xs. c.args.journal.now.entries ++ map (taking c.args.parking.now) xs) (take_all c.loop-edge.edge-index c.args.row.now (omega (arith, c.loop-edge-test.false)))
