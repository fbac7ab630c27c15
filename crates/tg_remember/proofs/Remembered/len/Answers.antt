use Rattle.std.proofs.Common.{◌≢◌, subst}
use Rattle.std.specs.List.{AllPairs}
use Rattle.tg_remember.proofs.NoteLemmas.{AllPairs-map}
use Rattle.tg_remember.proofs.Remembered.len.Goals as goal

pub returns-clause-each_once : goal.returns-clause-each_once
returns-clause-each_once c =
    subst (λ notes. AllPairs (λ p q. p ≢ q) notes.places) c.self.view_is (AllPairs-map c.self.inside.keys.keys c.len.ensures.unique)
