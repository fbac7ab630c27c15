use mathlib.Core.Bool.{true≢false}
use Rattle.std.proofs.Common.{◌≡◌, ◌≤◌, ◌∷◌, ◌++◌, [], ◌∙◌, ℕ, List, Bool, true, false, refl, sym, subst, inl, inr, arith}
use Rattle.std.specs.List.{Contains}
use Rattle.std.proofs.lemmas.List.Elements.{Contains-append_right}
use Rattle.tg_race.specs.declared.record.Record.{Record}
use Rattle.tg_race.specs.Conditions.{blocks_of}
use Rattle.tg_parallel.specs.Parts.{HasClaimedPast}
use Rattle.tg_parallel.proofs.own_blocks.OwnBlocks.make_ready.Goals as goal

-- a number past the limit among the blocks of a space
claimed_past : (limit : ℕ) (aged : Bool) (v : Record) (numbers : List ℕ) → numbers ≡ blocks_of aged v → (n : ℕ) → Contains numbers n → limit ≤ n → HasClaimedPast limit v
claimed_past limit true v numbers same n inside past = (n, inl (subst (λ (l : List ℕ). Contains l n) same inside), past)
claimed_past limit false v numbers same n inside past = (n, inr (subst (λ (l : List ℕ). Contains l n) same inside), past)

-- the last of the numbers
has_last : (before after : List ℕ) (n : ℕ) → after ≡ before ++ n ∷ [] → Contains after n
has_last before after n is = subst (λ (l : List ℕ). Contains l n) (sym is) (Contains-append_right before (n ∷ []) n (0, omega arith, refl))

pub returns-then-block-limit : goal.returns-then-block-limit
returns-then-block-limit c =
    let d = c.draw-block.ensures in
    let n = c.draw-block.result in
    let none : c.draw-block.new.self.next ≡ c.draw-block.new.self.end = d.next ∙ c.if-self.false ∙ sym d.end in
    let last : Contains c.draw-block.new.self.numbers.items n = has_last c.args.self.now.numbers.items c.draw-block.new.self.numbers.items n d.drawn in
    record {
      stay = record { space = d.stay.space; seat = d.stay.seat; filled = d.stay.filled; other = d.stay.other; room = d.stay.room };
      blocks = d.blocks;
      next = record {
        some = λ more. absurd (more none);
        none = λ _ within. absurd (true≢false within);
        past = λ _. (none, n, last, c.if-block-limit.true);
      };
      some = tt;
      full = λ _. claimed_past c.args.limit c.args.self.now.aged c.draw-block.new.winner.done c.draw-block.new.self.numbers.items d.stay.filled.same n last c.if-block-limit.true;
    }

pub returns-then-self-2 : goal.returns-then-self-2
returns-then-self-2 c =
    let past = c.requires.next.past c.if-self-2.true in
    record {
      stay = record { space = refl; seat = refl; filled = c.requires.held.filled; other = λ numbers used filled. filled; room = refl };
      blocks = record { chunks = refl; won = refl; seen = refl; share = refl };
      next = c.requires.next;
      some = tt;
      full = λ _. claimed_past c.args.limit c.args.self.now.aged c.args.winner.now.done c.args.self.now.numbers.items c.requires.held.filled.same past.1 past.2 past.3;
    }
