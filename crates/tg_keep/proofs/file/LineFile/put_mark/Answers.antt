use Rattle.std.proofs.Common.{refl, ◌≡◌, true, [], ◌∷◌, ◌++◌, List, ℕ, length, ◌∙◌, ap, sym, subst, arith}
use Rattle.std.specs.Prelude.{IsTrue}
use Rattle.tg_keep.specs.Fronts.{AddsFront}
use Rattle.tg_keep.specs.Lines.{history_of, sealed_line, texts_after, file_texts}
use Rattle.tg_keep.proofs.Closing.{synced_open}
use Rattle.tg_keep.proofs.Marking.{both, mark_line_whole}
use Rattle.tg_keep.proofs.Ready.{may_write}
use Rattle.tg_keep.proofs.Saying.{last_is, says_mark, says_mark_front}
use Rattle.tg_keep.proofs.Writing.{own_sum, own_text}
use Rattle.tg_keep.proofs.file.LineFile.put_mark.Goals as goal

pub write-requires : goal.write-requires
write-requires g c =
    let mark = c.args.mark.now in
    let before = c.args.self.now.sum.digits in
    let line = sealed_line before true mark in
    let room = c.in_ok-make_room.ensures.room in
    let is = both mark c.requires.marking in
    let items : c.write_line.new.bytes.items ≡ line = c.in_ok-sum.ensures.written ∙ ap (λ (l : List ℕ). l ++ line) c.new-line.ensures.items in
    let n : c.len.result ≡ length line = c.len.ensures ∙ c.write_line.new.bytes.ok.0 ∙ ap length items in
    may_write g.D.Disk c.make_room.new.self line c.deref.result.now before c.in_ok-sum.sum.digits room.settled (c.requires.mixing c.make_room.new.self.disk) (c.deref.ensures.value ∙ items)
    (ap (λ x. x.digits) room.sum) (mark_line_whole before mark is.0) (c.in_ok-sum.ensures.sum ∙ sym (own_sum before mark true is.0)) (omega (arith, n, room.room))

pub returns-in_err-make_room-clause-left : goal.returns-in_err-make_room-clause-left
returns-in_err-make_room-clause-left g c = c.make_room.ensures.left

pub returns-in_err-write-clause-left : goal.returns-in_err-write-clause-left
returns-in_err-write-clause-left g c =
    let mark = c.args.mark.now in
    let before = c.args.self.now.sum.digits in
    let line = sealed_line before true mark in
    let room = c.in_ok-make_room.ensures.room in
    let is = both mark c.requires.marking in
    let mid = c.make_room.new.self in
    let left = c.write.ensures.left in
    let items : c.write_line.new.bytes.items ≡ line = c.in_ok-sum.ensures.written ∙ ap (λ (l : List ℕ). l ++ line) c.new-line.ensures.items in
    let own : texts_after mid.sum.digits c.deref.result.now ≡ mark ∷ [] =
    ap (texts_after mid.sum.digits) (c.deref.ensures.value ∙ items) ∙ ap (λ s. texts_after s.digits line) room.sum ∙ own_text before mark true is.0 in
    record {
      crash = λ clean f may.
          let P : List (List ℕ) → Type 0 = λ l. AddsFront (file_texts (g.D.Disk.seen mid.disk)) l (file_texts f) in
          says_mark_front (file_texts (g.D.Disk.seen mid.disk)) (file_texts f) mark is.1 (subst P own (left.crash clean f may)) ∙ room.texts (subst IsTrue left.calm clean);
      unclosed = left.unclosed;
      calm = left.calm ∙ c.make_room.ensures.left.calm;
    }

pub returns-clause-left : goal.returns-clause-left
returns-clause-left g c =
    let mark = c.args.mark.now in
    let before = c.args.self.now.sum.digits in
    let line = sealed_line before true mark in
    let room = c.in_ok-make_room.ensures.room in
    let is = both mark c.requires.marking in
    let mid = c.make_room.new.self in
    let left = c.write.ensures.left in
    let items : c.write_line.new.bytes.items ≡ line = c.in_ok-sum.ensures.written ∙ ap (λ (l : List ℕ). l ++ line) c.new-line.ensures.items in
    let own : texts_after mid.sum.digits c.deref.result.now ≡ mark ∷ [] =
    ap (texts_after mid.sum.digits) (c.deref.ensures.value ∙ items) ∙ ap (λ s. texts_after s.digits line) room.sum ∙ own_text before mark true is.0 in
    record {
      crash = λ clean f may.
          let P : List (List ℕ) → Type 0 = λ l. AddsFront (file_texts (g.D.Disk.seen mid.disk)) l (file_texts f) in
          says_mark_front (file_texts (g.D.Disk.seen mid.disk)) (file_texts f) mark is.1 (subst P own (left.crash clean f may)) ∙ room.texts (subst IsTrue left.calm clean);
      unclosed = left.unclosed;
      calm = left.calm ∙ c.make_room.ensures.left.calm;
    }

pub returns-clause-marked : goal.returns-clause-marked
returns-clause-marked g c =
    let mark = c.args.mark.now in
    let before = c.args.self.now.sum.digits in
    let line = sealed_line before true mark in
    let room = c.in_ok-make_room.ensures.room in
    let is = both mark c.requires.marking in
    let mid = c.make_room.new.self in
    let written = c.in_ok-write.ensures.written in
    let items : c.write_line.new.bytes.items ≡ line = c.in_ok-sum.ensures.written ∙ ap (λ (l : List ℕ). l ++ line) c.new-line.ensures.items in
    let own : texts_after mid.sum.digits c.deref.result.now ≡ mark ∷ [] =
    ap (texts_after mid.sum.digits) (c.deref.ensures.value ∙ items) ∙ ap (λ s. texts_after s.digits line) room.sum ∙ own_text before mark true is.0 in
    let old_texts = file_texts (g.D.Disk.seen mid.disk) in
    let new_texts = file_texts (g.D.Disk.seen c.write.new.self.disk) in
    let more : IsTrue (g.D.Disk.is_clean c.write.new.self.disk) → new_texts ≡ old_texts ++ mark ∷ [] = λ clean.
    written.texts clean ∙ ap (λ (l : List (List ℕ)). old_texts ++ l) own in
    record {
      settled = written.settled;
      texts = λ clean. says_mark old_texts new_texts mark is.1 (more clean) ∙ room.texts (subst IsTrue c.write.ensures.left.calm clean);
      fits = written.fits;
      last = λ clean. last_is old_texts new_texts mark (more clean);
    }

pub returns-in_err-sum-clause-left : goal.returns-in_err-sum-clause-left
returns-in_err-sum-clause-left g c =
    let settled = c.requires.settled in
    record {
      crash = λ clean f left. ap history_of ((settled.synced clean).durable f left);
      unclosed = λ clean. synced_open g.D.Disk.seen g.D.Disk.may_leave c.args.self.now (settled.synced clean) settled.room;
      calm = refl;
    }
