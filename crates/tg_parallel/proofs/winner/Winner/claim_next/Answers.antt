use Rattle.std.proofs.Common.{◌≡◌, ◌+◌, ◌*◌, ◌++◌, ◌∷◌, [], ℕ, List, map, Bool, true, false, refl, ap, subst, sym, ◌∙◌, arith}
use Rattle.std.proofs.lemmas.List.{map-append}
use Rattle.tg_word.specs.declared.Place.{Place}
use Rattle.tg_word.specs.Word.{IsPlace, place_in}
use Rattle.tg_race.specs.Conditions.{can_use}
use Rattle.tg_race.specs.Race.{with_seen, with_won}
use Rattle.tg_race.specs.Seats.{Seated}
use Rattle.tg_race.specs.Words.{place_of, space_of_age, place_word}
use mir.Val.{bool_byte}
use Rattle.tg_parallel.specs.Parts.{note_of}
use Rattle.tg_parallel.specs.Seats.{FindsNext, cells_used}
use Rattle.tg_parallel.proofs.Filled.{found_seen, found_won, may_use, next_inside, next_link, next_read}
use Rattle.tg_parallel.proofs.winner.Winner.claim_next.Goals as goal

byte_of : (aged : Bool) → bool_byte aged ≡ space_of_age aged
byte_of true = refl
byte_of false = refl

pub claim_word-found-requires : goal.claim_word-found-requires
unfolding place_of place_word
claim_word-found-requires c =
    let b = c.args.blocks.now in let used = cells_used b.aged c.args.self.now.done in
    record {
      own = ap (λ (s : Seated). s.table) c.self.view_is ∙ c.requires.held.own;
      word = c.requires.word;
      forward = (subst IsPlace (sym (next_read used b c.requires.ready)) (next_inside used b c.requires.ready), sym (next_link used b c.requires.ready));
      allowed = subst (λ (s : Seated). can_use s.done (place_in b.next) ≡ true) (sym c.self.view_is)
          (may_use c.args.table.now c.args.at.cell b c.args.self.now c.requires.held c.requires.ready c.requires.some);
    }

pub returns-then-found-ne0 : goal.returns-then-found-ne0
unfolding place_of place_word
returns-then-found-ne0 c =
    let b = c.args.blocks.now in let word = c.claim_word-found.result in let taken = c.if-found-ne0.true in
    let forward = c.claim_word-found.ensures.forward taken in
    let lost = subst (λ (s : Seated). c.claim_word-found.new.self ≡ record s { done = with_seen s.done (c.args.at.cell, place_in word) }) c.self.view_is (c.claim_word-found.ensures.lost taken) in
    subst (λ (s : Seated). FindsNext c.args.at.cell b c.args.self.now b s word) (sym lost)
    (found_seen c.args.table.now c.args.at.cell b c.args.self.now c.requires.held c.requires.ready word forward.0 (sym forward.1))

pub invariant_of-self-2 : goal.invariant_of-self-2
unfolding place_of
invariant_of-self-2 c =
    let b = c.args.blocks.now in let cell = c.args.at.cell in let won = c.self.inside.helper.done.won in
    let is = c.claim_word-found.ensures.won c.if-found-ne0.false in
    let capacity = c.push_reserved.ensures.capacity in
    let words = ap (λ (s : Seated). s.table.id.words) is in
    let space = ap (λ (p : Place). p.space) (next_read (cells_used b.aged c.args.self.now.done) b c.requires.ready) in
    let byte = c.from.ensures ∙ byte_of b.aged ∙ sym space in (
      c.push_reserved.ensures.items
          ∙ ap (λ (l : List ℕ). l ++ (2 * cell + c.from.result) ∷ []) c.self.invariant.0
          ∙ ap (λ (n : ℕ). map note_of won ++ (2 * cell + n) ∷ []) byte
          ∙ sym (ap (λ (s : Seated). map note_of s.done.won) is ∙ map-append note_of won ((cell, place_in b.next) ∷ [])),
      (let before = c.self.invariant.1 in omega arith),
    )

pub returns : goal.returns
unfolding place_of
returns c =
    let b = c.args.blocks.now in
    let won = subst (λ (s : Seated). c.claim_word-found.new.self ≡ record s { done = with_won s.done (c.args.at.cell, place_in b.next) }) c.self.view_is (c.claim_word-found.ensures.won c.if-found-ne0.false) in
    subst (λ (s : Seated). FindsNext c.args.at.cell b c.args.self.now (record b { next = c.next_link-blocks.result }) s b.next) (sym won)
    (found_won c.args.table.now c.args.at.cell b c.args.self.now c.requires.held c.requires.ready c.requires.some c.next_link-blocks.result c.next_link-blocks.ensures)
