use Rattle.std.proofs.Common.{true, ◌≡◌, ◌∙◌, sym, ap, subst}
use Rattle.tg_word.specs.declared.Place.{Place}
use Rattle.tg_race.specs.Conditions.{can_use}
use Rattle.tg_race.specs.Race.{with_won}
use Rattle.tg_race.specs.Words.{IsForward, place_of}
use Rattle.tg_race.proofs.PlaceWords.{place_of-word_of, word_of-forward}
use Rattle.tg_race.proofs.helper.Helper.claim_cell.Goals as goal

pub claim_word-found-requires : goal.claim_word-found-requires
claim_word-found-requires c = record {
  own = c.requires.own;
  word = c.word_of.ensures.word;
  forward = subst IsForward (sym c.word_to.ensures) (word_of-forward c.args.place c.requires.place);
  allowed = subst (λ (p : Place). can_use c.args.self.now.done p ≡ true) (sym (ap place_of c.word_to.ensures ∙ place_of-word_of c.args.place c.requires.place)) c.requires.allowed;
}

pub returns-then-found-eq0-clause-done : goal.returns-then-found-eq0-clause-done
returns-then-found-eq0-clause-done c =
    let at = ap place_of c.word_to.ensures ∙ place_of-word_of c.args.place c.requires.place in
    c.claim_word-found.ensures.won c.if-found-eq0.true
    ∙ (λ i. record { table = c.args.self.now.table; done = with_won c.args.self.now.done (c.word_of.ensures.cell i, at i) })
