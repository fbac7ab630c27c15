use Rattle.std.proofs.Common.{Err, ◌≡◌, ℕ, ◌<◌, ◌≤◌, ◌+◌, ◌-◌, ◌*◌, [], ◌∷◌, ◌++◌, length, get_or, set, ap, ◌∙◌, subst, sym, refl, arith}
use Rattle.std.specs.Vec.{vec_capacity}
use Rattle.std.proofs.lemmas.List.{length_push, length-set}
use Rattle.std.proofs.lemmas.List.Elements.{All-push, Contains-push}
use Rattle.tg_word.specs.declared.Place.{Place}
use Rattle.tg_word.specs.Word.{link_to, place_in}
use Rattle.tg_space.specs.SpaceTable.{place_in_space}
use Rattle.tg_evac.specs.Win.{Win}
use Rattle.tg_evac.specs.Claims.{Claimed, HasFilledRoom, IsWinFor, wins_at}
use Rattle.tg_space.specs.declared.room_fault.RoomFault.TheVariants.{HeapFull}
use Rattle.tg_evac.specs.Claimers.{walked_of}
use Rattle.tg_evac.specs.Walks.{HasClaimed}
use Rattle.tg_evac.proofs.Claiming.{claims_more, adds_one, full_at, place_back, wins_more, won_behind, won_length, won_others}
use Rattle.tg_evac.proofs.Walking.{wins_none}
use Rattle.tg_evac.proofs.claims.Claims.give_place.Goals as goal
use Rattle.tg_evac.proofs.claims.Claims.give_place.Goals.{After-link-word}

-- the claims, as fields, and the pair that is won
abbrev claimed : After-link-word → Claimed
claimed c = record { plan = c.self.inside.plan; forward = c.self.inside.forward.words; won = wins_at c.self.inside.forward.words c.self.inside.won.items; next = c.self.inside.next }

abbrev pair : After-link-word → Win
pair c = record { cell = c.args.cell; word = c.link-word.result }

-- the cell is free
record IsFree (v : Claimed) (cell : ℕ) : Type 0 where
  low : cell < length v.forward
  none : get_or v.forward cell 0 ≡ 0
  late : 64 * v.plan.kept ≤ cell

is_free : (c : After-link-word) → IsFree (claimed c) c.args.cell
is_free c = record {
  low = subst (λ (x : Claimed). c.args.cell < length x.forward) (sym c.self.view_is) c.requires.claim.inside;
  none = subst (λ (x : Claimed). get_or x.forward c.args.cell 0 ≡ 0) (sym c.self.view_is) c.requires.none;
  late = subst (λ (x : Claimed). 64 * x.plan.kept ≤ c.args.cell) (sym c.self.view_is) c.requires.claim.moved;
}

pub push_reserved-requires : goal.push_reserved-requires
push_reserved-requires c =
    let at = (goal.at.push_reserved-requires c).After-link-word in let inside = c.self.inside in let space = c.args.space in let number = get_or inside.next space 0 in
    let v : Claimed = claimed at in let w : Win = pair at in let free = is_free at in
    let room : number < v.plan.room = omega arith in
    let more = claims_more v c.self.invariant.0 w space number c.requires.claim.two refl free.low free.none room c.link-word.ensures in
    let few = won_behind (record { plan = v.plan; forward = set v.forward w.cell w.word; won = v.won ++ w ∷ []; next = set v.next space (number + 1) }) more (64 * v.plan.kept)
    (All-push (λ (x : Win). 64 * v.plan.kept ≤ x.cell) v.won w c.self.invariant.2 free.late) in
    let one = length_push v.won w in let long = length-set v.forward w.cell w.word in let cap = c.self.invariant.3 in
    let cells = won_length inside.forward.words inside.won.items in
    omega (arith, inside.won.ok)

pub invariant_of-self : goal.invariant_of-self
invariant_of-self c =
    let at = (goal.at.invariant_of-self c).After-link-word in let inside = c.self.inside in let cell = c.args.cell in let space = c.args.space in let number = get_or inside.next space 0 in
    let v : Claimed = claimed at in let w : Win = pair at in let free = is_free at in
    let low : cell < length v.forward = free.low in let late : 64 * v.plan.kept ≤ cell = free.late in
    let room : number < v.plan.room = omega arith in
    let long = length-set v.forward cell c.link-word.result in let cap = c.self.invariant.3 in let kept = c.push_reserved.ensures.capacity in
    let fits : length (set v.forward cell c.link-word.result) - 64 * v.plan.kept ≤ vec_capacity c.push_reserved.new.self = omega arith in
    let more = wins_more v.forward inside.won.items w low (won_others v.forward inside.won.items c.self.invariant.0.words.stand cell free.none) in
    rw (c.push_reserved.ensures.items, c.set.ensures.words, c.set.ensures.skipped, more)
    (claims_more v c.self.invariant.0 w space number c.requires.claim.two refl low free.none room c.link-word.ensures, c.self.invariant.1, All-push (λ (x : Win). 64 * v.plan.kept ≤ x.cell) v.won w c.self.invariant.2 late, fits)

pub returns-then-self-number : goal.returns-then-self-number
returns-then-self-number c =
    let inside = c.self.inside in
    let v : Claimed = record { plan = inside.plan; forward = inside.forward.words; won = wins_at inside.forward.words inside.won.items; next = inside.next } in
    let full : HasFilledRoom v = full_at v c.self.invariant.0 c.args.space c.requires.claim.two c.if-self-number.true in
    subst (λ (x : Claimed). HasClaimed c.args.cell c.args.space x x (Err HeapFull)) c.self.view_is
    (record { added = wins_none (IsWinFor c.args.cell c.args.space) (walked_of v); held = tt; link = tt; full = λ _. full })

pub returns : goal.returns
returns c =
    let at = (goal.at.returns c).After-link-word in let inside = c.self.inside in let cell = c.args.cell in let space = c.args.space in let number = get_or inside.next space 0 in
    let v : Claimed = claimed at in let w : Win = pair at in let free = is_free at in
    let room : number < v.plan.room = omega arith in
    let few = c.self.invariant.0.room in
    let is : c.link-word.result ≡ link_to (place_in_space space number) = c.link-word.ensures in
    let back : place_in c.link-word.result ≡ place_in_space space number = ap place_in is ∙ place_back space number c.requires.claim.two (omega arith) in
    let to : IsWinFor cell space w = record { number = refl; to = ap (λ (p : Place). p.space) back } in
    let more = wins_more v.forward inside.won.items w free.low (won_others v.forward inside.won.items c.self.invariant.0.words.stand cell free.none) in
    rw (← c.self.view_is, c.push_reserved.ensures.items, c.set.ensures.words, more) (record {
      added = adds_one v c.self.invariant.0 w space number c.requires.claim.two refl free.low free.none room is (IsWinFor cell space) to;
      held = Contains-push v.won w;
      link = is ∙ ap link_to (sym back);
      full = tt;
    })
