use Rattle.std.proofs.Common.{◌∙◌, ◌≤◌, [], None, ap, length, refl, subst}
use Rattle.tg_store.specs.Store.{StoreState}
use Rattle.tg_lasting.proofs.KeepingPartLaws.{part_ready, part_room, part_served, ran_upto}
use Rattle.tg_lasting.proofs.part.serve_part.Goals as goal

pub keep_part-requires : goal.keep_part-requires
keep_part-requires g c =
    let old = c.args.on.now in
    let w = g.W.Watch.refused in
    let run = c.reply_to-replied in
    let place = c.len-place.ensures ∙ ap length (c.journal.ensures.entries ∙ ap (λ (s : StoreState). s.entries) c.store.ensures) in
    let W : StoreState → Type 0 = λ s. s.handed ≤ length s.entries in
    record {
      upto = ran_upto g.D.Disk old.run run.new.run old.file c.len-place.result c.args.chunk.now (w c.args.watch.now) (w run.new.watch) run.result.outcome run.ensures.ran.ran.0 run.result.replies.items run.ensures.ran.ran.1 c.requires.script.kept place run.ensures.held (subst W c.store.ensures c.journal.ensures.within);
      met = run.ensures.ran.met;
      read = run.ensures.ran.read;
    }

pub returns-clause-served : goal.returns-clause-served
returns-clause-served g c = λ before took.
    let old = c.args.on.now in
    let w = g.W.Watch.refused in
    let run = c.reply_to-replied in
    let kept = c.keep_part in
    let place = c.len-place.ensures ∙ ap length (c.journal.ensures.entries ∙ ap (λ (s : StoreState). s.entries) c.store.ensures) in
    part_served g.D.Disk c.len-place.result old (record old { run = run.new.run; reason = c.reason_if_bad-on.result }) kept.new.on c.args.chunk.now before (w c.args.watch.now) (w run.new.watch) run.result (g.K.Sink.taken kept.new.sink) c.requires.script.kept refl place run.ensures.ran.ran.0 run.ensures.ran.ran.1
    kept.result (kept.ensures.kept before took)

pub returns-clause-script : goal.returns-clause-script
returns-clause-script g c =
    let old = c.args.on.now in
    let w = g.W.Watch.refused in
    let run = c.reply_to-replied in
    let kept = c.keep_part in
    let place = c.len-place.ensures ∙ ap length (c.journal.ensures.entries ∙ ap (λ (s : StoreState). s.entries) c.store.ensures) in
    part_ready g.D.Disk c.len-place.result old (record old { run = run.new.run; reason = c.reason_if_bad-on.result }) kept.new.on c.args.chunk.now [] (w c.args.watch.now) (w run.new.watch) run.result None c.requires.script.kept refl place run.ensures.ran.ran.0 run.ensures.ran.ran.1 kept.result kept.ensures.done

pub returns-clause-room : goal.returns-clause-room
returns-clause-room g c =
    let old = c.args.on.now in
    let w = g.W.Watch.refused in
    let run = c.reply_to-replied in
    let kept = c.keep_part in
    let place = c.len-place.ensures ∙ ap length (c.journal.ensures.entries ∙ ap (λ (s : StoreState). s.entries) c.store.ensures) in
    part_room g.D.Disk c.len-place.result old (record old { run = run.new.run; reason = c.reason_if_bad-on.result }) kept.new.on c.args.chunk.now [] (w c.args.watch.now) (w run.new.watch) run.result None c.requires.script.kept refl place run.ensures.ran.ran.0 run.ensures.ran.ran.1 kept.result kept.ensures.done
