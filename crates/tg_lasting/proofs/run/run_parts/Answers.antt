use Rattle.std.proofs.Common.{◌≡◌, ◌+◌, ◌++◌, Err, List, Ok, length, subst, ℕ}
use Rattle.std.specs.List.{flat_map}
use Rattle.tg_text.specs.Texts.{answer_text}
use Rattle.tg_script.specs.Parts.{may_come}
use Rattle.tg_lasting.specs.Answering.{EndsKept, PartServed}
use Rattle.tg_lasting.proofs.ChunkLaws.{last_ended}
use Rattle.tg_lasting.proofs.KeepingPartLaws.{fault_is}
use Rattle.tg_lasting.proofs.SoFarLaws.{all_answered, answered_part, came_first, came_next, chunk_failed, ends_more_kept, fewer}
use Rattle.tg_lasting.proofs.run.run_parts.Goals as goal

pub parts-init : goal.parts-init
parts-init g c = record {
  ready = c.requires.script;
  so_far = λ bytes before leaves took.
      came_first c.args.on.now bytes before (g.W.Watch.refused c.args.watch.now) c.new-chunk.result.items (g.R.Read.remaining c.args.reader.now) (g.K.Sink.taken c.args.sink.now) c.new-chunk.ensures.items leaves took;
}

pub returns-in_err-serve_part-clause-ran : goal.returns-in_err-serve_part-clause-ran
returns-in_err-serve_part-clause-ran g c = λ bytes before leaves took.
    let w = g.W.Watch.refused in
    let came = c.parts.invariant.so_far bytes before leaves took in
    let text = before ++ flat_map answer_text came.so.answers in
    let E : List ℕ → Type 0 = λ x. EndsKept g.D.Disk c.parts.on.run x text c.in_err-serve_part.field-0.0 (g.K.Sink.taken c.serve_part.new.sink) c.serve_part.new.on.file.disk in
    let h = subst E c.deref.ensures.value (c.in_err-serve_part.ensures.served text came.so.took) in
    rw (fault_is c.from_residual.result _ c.from_residual.ensures.1)
    (ends_more_kept c.args.on.now c.parts.on came.done before (w c.args.watch.now) (w c.parts.watch) (g.K.Sink.taken c.parts.sink) came.so bytes c.parts.chunk.items came.rest c.parts.is_last came.split came.ends
    g.D.Disk c.in_err-serve_part.field-0.0 (g.K.Sink.taken c.serve_part.new.sink) c.serve_part.new.on.file.disk h)

pub returns-then-is_last-clause-ran : goal.returns-then-is_last-clause-ran
returns-then-is_last-clause-ran g c = λ bytes before leaves took.
    let w = g.W.Watch.refused in
    let k = g.K.Sink.taken in
    let came = c.parts.invariant.so_far bytes before leaves took in
    let text = before ++ flat_map answer_text came.so.answers in
    let C : List ℕ → Type 0 = λ x. PartServed {T = Unit {0}} g.D.Disk c.parts.on c.serve_part.new.on x text (w c.parts.watch) (Ok tt) (k c.serve_part.new.sink) (w c.serve_part.new.watch) in
    let h = subst C c.deref.ensures.value (c.in_ok-serve_part.ensures.served text came.so.took) in
    let part = answered_part g.D.Disk c.args.on.now c.parts.on c.serve_part.new.on bytes before c.parts.chunk.items c.parts.is_last (g.R.Read.remaining c.parts.reader) (k c.parts.sink) (k c.serve_part.new.sink) (w c.args.watch.now) (w c.parts.watch) (w c.serve_part.new.watch) came h in
    let done : Unit {0} = tt in
    all_answered g.D.Disk c.args.on.now c.serve_part.new.on part.done before bytes part.rest (w c.args.watch.now) (w c.serve_part.new.watch) (k c.serve_part.new.sink) part.so part.none c.in_ok-serve_part.ensures.script.kept part.split done
    (last_ended c.parts.chunk.items came.rest c.parts.is_last came.ends c.if-is_last.true)

pub returns-in-Err-clause-ran : goal.returns-in-Err-clause-ran
returns-in-Err-clause-ran g c = λ bytes before leaves took.
    let w = g.W.Watch.refused in
    let k = g.K.Sink.taken in
    let came = c.parts.invariant.so_far bytes before leaves took in
    let text = before ++ flat_map answer_text came.so.answers in
    let C : List ℕ → Type 0 = λ x. PartServed {T = Unit {0}} g.D.Disk c.parts.on c.serve_part.new.on x text (w c.parts.watch) (Ok tt) (k c.serve_part.new.sink) (w c.serve_part.new.watch) in
    let h = subst C c.deref.ensures.value (c.in_ok-serve_part.ensures.served text came.so.took) in
    let part = answered_part g.D.Disk c.args.on.now c.parts.on c.serve_part.new.on bytes before c.parts.chunk.items c.parts.is_last (g.R.Read.remaining c.parts.reader) (k c.parts.sink) (k c.serve_part.new.sink) (w c.args.watch.now) (w c.parts.watch) (w c.serve_part.new.watch) came h in
    let comes = c.in-Err.ensures.came part.rest part.leaves in
    chunk_failed g.D.Disk c.args.on.now c.serve_part.new.on part.done before bytes part.rest (w c.args.watch.now) (w c.serve_part.new.watch) (k c.serve_part.new.sink) part.so part.none c.in_ok-serve_part.ensures.script.kept part.split c.in-Err.fault c.next_chunk.new.chunk.items comes.0 comes.2

pub parts-preserved : goal.parts-preserved
parts-preserved g c =
    let w = g.W.Watch.refused in
    let k = g.K.Sink.taken in
    record {
      ready = c.in_ok-serve_part.ensures.script;
      so_far = λ bytes before leaves took.
          let came = c.parts.invariant.so_far bytes before leaves took in
          let text = before ++ flat_map answer_text came.so.answers in
          let C : List ℕ → Type 0 = λ x. PartServed {T = Unit {0}} g.D.Disk c.parts.on c.serve_part.new.on x text (w c.parts.watch) (Ok tt) (k c.serve_part.new.sink) (w c.serve_part.new.watch) in
          let h = subst C c.deref.ensures.value (c.in_ok-serve_part.ensures.served text came.so.took) in
          let part = answered_part g.D.Disk c.args.on.now c.parts.on c.serve_part.new.on bytes before c.parts.chunk.items c.parts.is_last (g.R.Read.remaining c.parts.reader) (k c.parts.sink) (k c.serve_part.new.sink) (w c.args.watch.now) (w c.parts.watch) (w c.serve_part.new.watch) came h in
          came_next c.args.on.now c.serve_part.new.on bytes before c.next_chunk.new.chunk.items c.parts.is_last c.in-Ok.last (g.R.Read.remaining c.parts.reader) (g.R.Read.remaining c.next_chunk.new.reader) (k c.serve_part.new.sink) (w c.args.watch.now) (w c.serve_part.new.watch) part c.in-Ok.ensures.came;
    }

pub parts-smaller : goal.parts-smaller
parts-smaller g c =
    let R : List ℕ → Type 0 = λ x. may_come c.serve_part.new.on.run + length x ≡ may_come c.parts.on.run in
    fewer (may_come c.parts.on.run) (may_come c.serve_part.new.on.run) (length c.parts.chunk.items) (length c.next_chunk.new.chunk.items) c.parts.is_last c.in-Ok.last c.if-is_last.false (subst R c.deref.ensures.value c.in_ok-serve_part.ensures.room) c.in-Ok.ensures.some
