use Rattle.std.proofs.Common.{◌≡◌, ◌∙◌, length, ap, arith, subst, sym}
use Rattle.std.specs.Prelude.{IsTrue}
use Rattle.std.proofs.lemmas.List.{append-nil}
use Rattle.std.proofs.lemmas.Result.{on_ok_weaker}
use Rattle.tg_keep.specs.Batches.{batch_texts}
use Rattle.tg_keep.specs.Files.{HasPut, HasWrittenLines}
use Rattle.tg_keep.specs.Lines.{history_of, texts_after, file_texts}
use Rattle.tg_keep.proofs.Ready.{may_write}
use Rattle.tg_keep.proofs.Saying.{says_front_of, says_plain_of}
use Rattle.tg_keep.proofs.file.LineFile.put.Goals as goal

pub write-requires : goal.write-requires
write-requires g c =
    let batch = c.args.batch.now in
    let room = c.in_ok-make_room.ensures.room in
    let n : c.len.result ≡ length batch.bytes.items = c.len.ensures ∙ batch.bytes.ok.0 in
    may_write g.D.Disk c.make_room.new.self batch.bytes.items c.deref.result.now batch.before.digits batch.sum.digits room.settled (c.requires.mixing c.make_room.new.self.disk) c.deref.ensures.value
    (ap (λ x. x.digits) (room.sum ∙ sym c.requires.follows)) batch.whole batch.last (omega (arith, n, room.room))

pub returns-in_err-make_room-clause-left : goal.returns-in_err-make_room-clause-left
returns-in_err-make_room-clause-left g c =
    let left = c.make_room.ensures.left in
    record {
      crash = λ clean f may. (0, omega arith, left.crash clean f may ∙ sym (append-nil (history_of (g.D.Disk.seen c.args.self.now.disk))));
      unclosed = left.unclosed;
      calm = left.calm;
    }

pub returns-clause-left : goal.returns-clause-left
returns-clause-left g c =
    let batch = c.args.batch.now in
    let room = c.in_ok-make_room.ensures.room in
    let left = c.write.ensures.left in
    let mid = c.make_room.new.self in
    let given = c.deref.result.now in
    let same : texts_after mid.sum.digits given ≡ batch_texts batch =
    ap (texts_after mid.sum.digits) c.deref.ensures.value ∙ ap (λ s. texts_after s.digits batch.bytes.items) (room.sum ∙ sym c.requires.follows) in
    record {
      crash = λ clean f may.
          says_front_of (file_texts (g.D.Disk.seen c.args.self.now.disk)) (file_texts (g.D.Disk.seen mid.disk)) (texts_after mid.sum.digits given) (batch_texts batch) (file_texts f)
          (room.texts (subst IsTrue left.calm clean)) same batch.plain (left.crash clean f may);
      unclosed = left.unclosed;
      calm = left.calm ∙ c.make_room.ensures.left.calm;
    }

pub returns-clause-put : goal.returns-clause-put
returns-clause-put g c =
    let batch = c.args.batch.now in
    let room = c.in_ok-make_room.ensures.room in
    let old = c.args.self.now in
    let mid = c.make_room.new.self in
    let new = c.write.new.self in
    let given = c.deref.result.now in
    let same : texts_after mid.sum.digits given ≡ batch_texts batch =
    ap (texts_after mid.sum.digits) c.deref.ensures.value ∙ ap (λ s. texts_after s.digits batch.bytes.items) (room.sum ∙ sym c.requires.follows) in
    let has_put : HasWrittenLines g.D.Disk given mid new → HasPut g.D.Disk (batch_texts batch) old new = λ written. record {
      settled = written.settled;
      texts = λ clean.
          says_plain_of (file_texts (g.D.Disk.seen old.disk)) (file_texts (g.D.Disk.seen mid.disk)) (texts_after mid.sum.digits given) (batch_texts batch) (file_texts (g.D.Disk.seen new.disk))
          (room.texts (subst IsTrue c.write.ensures.left.calm clean)) same batch.plain (written.texts clean);
    } in
    on_ok_weaker c.write.result has_put c.write.ensures.written
