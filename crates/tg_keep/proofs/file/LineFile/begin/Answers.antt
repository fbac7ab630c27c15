use Rattle.std.proofs.Common.{◌≡◌, ◌∷◌, ◌++◌, [], List, ℕ, ◌∙◌, ap, subst, arith}
use Rattle.std.specs.Prelude.{IsTrue, codes}
use Rattle.std.proofs.lemmas.List.{nil_from_length}
use Rattle.tg_keep.specs.Batches.{batch_texts}
use Rattle.tg_keep.specs.Lines.{texts_after}
use Rattle.tg_keep.proofs.Reading.{no_texts}
use Rattle.tg_keep.proofs.file.LineFile.begin.Goals as goal

pub make_empty-requires-clause-empty : goal.make_empty-requires-clause-empty
make_empty-requires-clause-empty g c clean = c.len.ensures.seen ∙ nil_from_length (g.D.Disk.seen c.args.self.now.disk) (omega (arith, c.in_ok-len.ensures.len clean))

pub put-requires : goal.put-requires
put-requires g c = record {
  settled = c.in_ok-make_empty.ensures.emptied.settled;
  mixing = c.requires.mixing;
  follows = c.add.ensures.before ∙ c.new-batch.ensures.before;
}

pub returns-clause-begun : goal.returns-clause-begun
returns-clause-begun g c =
    let put = c.in_ok-put.ensures.put in
    let calm = c.put.ensures.left.calm in
    let new : batch_texts c.new-batch.result ≡ [] = ap (texts_after c.new-batch.result.before.digits) c.new-batch.ensures.none ∙ no_texts c.new-batch.result.before.digits in
    record {
      settled = put.settled;
      texts = λ clean.
          put.texts clean
          ∙ ap (λ (l : List (List ℕ)). l ++ batch_texts c.add.new.self) (c.in_ok-make_empty.ensures.emptied.texts (subst IsTrue calm clean))
          ∙ c.in_ok-add.ensures.texts
          ∙ ap (λ (l : List (List ℕ)). l ++ codes "kovshenul kept 1" ∷ []) new;
      empty = λ clean.
          nil_from_length (g.D.Disk.seen c.args.self.now.disk) (omega (arith, c.in_ok-len.ensures.len (subst IsTrue (calm ∙ c.make_empty.ensures.calm) clean)));
    }
