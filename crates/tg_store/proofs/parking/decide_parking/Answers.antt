-- The grant that is decided is the host's.
use Rattle.std.proofs.Common.{◌≡◌, ◌∙◌, ◌++◌, ◌∷◌, [], ap, refl, sym}
use Rattle.tg_model.specs.declared.command.Command.{Command}
use Rattle.tg_model.specs.declared.command.Deed.TheVariants.{Plain}
use Rattle.tg_model.specs.Rules.{denial_of}
use Rattle.tg_graph.specs.Heap.{content_of}
use Rattle.tg_store.specs.declared.parking.Parking.{Parking}
use Rattle.tg_store.specs.Parking.{key_of}
use Rattle.tg_store.specs.Inner.Parking.{parking_of}
use Rattle.tg_store.proofs.parking.decide_parking.Goals as goal

pub serve_parking-requires-clause-served : goal.serve_parking-requires-clause-served
serve_parking-requires-clause-served g c =
    let content = content_of c.args.heap.now in
    let s = c.args.sides.now in
    let key : c.key-key.result ≡ key_of (parking_of s) = c.key-key.ensures ∙ ap (λ (p : Parking). key_of p) c.parking-parking.ensures in
    ap (λ (k : Command). denial_of content.label content.value s.host.name k) (sym key) ∙ sym c.in-Ok.ensures.denial

pub returns-in-Err-clause-comes : goal.returns-in-Err-clause-comes
returns-in-Err-clause-comes g c =
    let content = content_of c.args.heap.now in
    let s = c.args.sides.now in
    let key : c.key-key.result ≡ key_of (parking_of s) = c.key-key.ensures ∙ ap (λ (p : Parking). key_of p) c.parking-parking.ensures in
    record {
      denied = ap (λ (k : Command). denial_of content.label content.value s.host.name k) (sym key) ∙ sym c.in-Err.ensures.denial;
      entry = c.deny.ensures.entered.entries ∙ (λ i. c.args.journal.now.entries ++ (record { worker = s.host.name; deed = Plain (key i); reply = c.deny.ensures.reply i }) ∷ []);
      heap = refl;
    }
