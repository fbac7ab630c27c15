use Rattle.std.proofs.Common.{◌≡◌, IsTrue}
use Rattle.std.specs.List.{AllWithin}
use Rattle.tgcould.specs.Policies.{IsKeptPolicy}
use Rattle.tgcould.proofs.answers.Answers.add_each.Given as goal

-- if the status is 0, it was before, and each text so far is kept
abbrev pub invariant-loop-text : goal.invariant-loop-text
invariant-loop-text l =
    (l.self.notes.status ≡ 0 → l.fn.self.notes.status ≡ 0)
    × (l.self.notes.status ≡ 0 → IsTrue l.must_never → AllWithin (λ v. IsKeptPolicy l.scene.picture.now l.scene.silent.now v.now) l.texts 0 l.text-index)
