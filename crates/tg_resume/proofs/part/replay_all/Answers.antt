use Rattle.std.proofs.Common.{◌≡◌, Bool, List, ℕ, Ok, length, subst, sym}
use Rattle.tg_journal.specs.declared.entry.Entry.{Entry}
use Rattle.tg_resume.specs.Inner.Replaying.{Replays}
use Rattle.tg_resume.specs.Resuming.{HasNoRoom, IsBadAt}
use Rattle.tg_resume.proofs.Replaying.{halted_bad, halted_room, more, resumed_on}
use Rattle.tg_resume.proofs.part.replay_all.Goals as goal

pub loop-entry-preserved : goal.loop-entry-preserved
loop-entry-preserved g c =
    let es : List Entry = c.args.entries.now in
    let i : ℕ = c.loop-entry.entry-index in
    let x : Entry = c.entry-item.result in
    let old = c.args.store.now in
    let new = c.replay.new.store in
    let was = c.loop-entry.invariant in
    resumed_on old c.loop-entry.store new es i x was
    (subst (λ (b : Bool). Replays x c.loop-entry.store new (Ok b)) c.in-Ok-true.field-0-test c.in-Ok-true.ensures)
    (more old c.loop-entry.store new es i x was c.loop-entry-test.true c.entry-item.is)

pub returns-in-Ok-false-clause-halted : goal.returns-in-Ok-false-clause-halted
returns-in-Ok-false-clause-halted g c =
    let es : List Entry = c.args.entries.now in
    let i : ℕ = c.loop-entry.entry-index in
    let x : Entry = c.entry-item.result in
    let old = c.args.store.now in
    let s = c.loop-entry.store in
    let new = c.replay.new.store in
    let at : c.len-at.result ≡ length s.entries = cc in
    subst (λ n. IsBadAt es old n) (sym at)
    (halted_bad old s new es i x c.loop-entry.invariant c.loop-entry-test.true c.entry-item.is c.journal.ensures.faithful
    (subst (λ (b : Bool). Replays x s new (Ok b)) c.in-Ok-false.field-0-test c.in-Ok-false.ensures))

pub returns-in-Err-clause-halted : goal.returns-in-Err-clause-halted
returns-in-Err-clause-halted g c =
    let es : List Entry = c.args.entries.now in
    let i : ℕ = c.loop-entry.entry-index in
    let x : Entry = c.entry-item.result in
    let old = c.args.store.now in
    let s = c.loop-entry.store in
    let new = c.replay.new.store in
    let at : c.len-at.result ≡ length s.entries = cc in
    subst (λ n. HasNoRoom es old new n c.in-Err.why) (sym at)
    (halted_room old s new es i x c.loop-entry.invariant c.loop-entry-test.true c.entry-item.is c.in-Err.why c.in-Err.ensures)
