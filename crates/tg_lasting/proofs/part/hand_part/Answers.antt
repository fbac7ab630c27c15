use Rattle.std.proofs.Common.{◌≡◌, ◌∙◌, List, ap, false, length, refl, rules, subst, true, ℕ}
use Rattle.std.specs.Prelude.{is_ok}
use Rattle.tg_store.specs.Store.{StoreState}
use Rattle.tg_lasting.specs.Answering.{TakesReplies}
use Rattle.tg_kept.proofs.KeepingLaws.{leaves_same}
use Rattle.tg_lasting.proofs.KeepingPartLaws.{part_faulted, part_is_done, wrote_all, wrote_part}
use Rattle.tg_lasting.proofs.part.hand_part.Goals as goal

pub returns-then-not-hand_out-clause-handed : goal.returns-then-not-hand_out-clause-handed
returns-then-not-hand_out-clause-handed g c = λ before took.
    let k = g.K.Sink.taken in
    let failed : c.hand_out.result ≡ false = search (rules, c.if-not-hand_out.true) in
    let T : List ℕ → Type 0 = λ x. TakesReplies (k c.args.sink.now) x c.hand_out.result (k c.hand_out.new.sink) in (
      wrote_part (k c.args.sink.now) before c.args.replied.now.replies.items c.hand_out.result (k c.hand_out.new.sink) took failed (subst T c.deref.ensures.value c.hand_out.ensures),
      leaves_same g.D.Disk c.args.on.now.run.begun.run.store c.args.on.now.file c.requires.kept,
    )

pub returns-in-Ok-clause-handed : goal.returns-in-Ok-clause-handed
returns-in-Ok-clause-handed g c = λ before took.
    let k = g.K.Sink.taken in
    let went : c.hand_out.result ≡ true = search (rules, c.if-not-hand_out.false) in
    let old = c.args.on.now in
    let made = c.len-made.ensures ∙ ap length (c.journal.ensures.entries ∙ ap (λ (s : StoreState). s.entries) c.store.ensures) in
    let T : List ℕ → Type 0 = λ x. TakesReplies (k c.args.sink.now) x c.hand_out.result (k c.hand_out.new.sink) in (
      wrote_all (k c.args.sink.now) before c.args.replied.now.replies.items c.hand_out.result (k c.hand_out.new.sink) took went (subst T c.deref.ensures.value c.hand_out.ensures),
      part_is_done g.D.Disk old (record old { run = c.forget.new.self }) c.args.replied.now c.len-made.result made c.forget.ensures refl c.requires.kept (ap is_ok c.in-Ok.is),
    )

pub returns-in-Ok-clause-done : goal.returns-in-Ok-clause-done
returns-in-Ok-clause-done g c =
    let old = c.args.on.now in
    let made = c.len-made.ensures ∙ ap length (c.journal.ensures.entries ∙ ap (λ (s : StoreState). s.entries) c.store.ensures) in
    part_is_done g.D.Disk old (record old { run = c.forget.new.self }) c.args.replied.now c.len-made.result made c.forget.ensures refl c.requires.kept (ap is_ok c.in-Ok.is)

pub returns-in-Err-clause-handed : goal.returns-in-Err-clause-handed
returns-in-Err-clause-handed g c = λ before took.
    let k = g.K.Sink.taken in
    let went : c.hand_out.result ≡ true = search (rules, c.if-not-hand_out.false) in
    let old = c.args.on.now in
    let T : List ℕ → Type 0 = λ x. TakesReplies (k c.args.sink.now) x c.hand_out.result (k c.hand_out.new.sink) in
    part_faulted (Unit {0}) g.D.Disk old (record old { run = c.forget.new.self }) c.args.replied.now before (k c.hand_out.new.sink) c.in-Err.fault c.in-Err.is c.requires.met c.requires.uncut
    (wrote_all (k c.args.sink.now) before c.args.replied.now.replies.items c.hand_out.result (k c.hand_out.new.sink) took went (subst T c.deref.ensures.value c.hand_out.ensures))
    (leaves_same g.D.Disk old.run.begun.run.store old.file c.requires.kept)
