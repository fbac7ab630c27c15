use Rattle.std.proofs.Common.{◌≡◌, ◌≢◌, ◌==◌, true, false, ⊎_elim, ◌-◌, ◌++◌, ◌∷◌, [], List, ℕ, length, replicate, sym, ap, subst, arith, ◌∙◌}
use Rattle.std.specs.List.{flat_map}
use Rattle.std.specs.Vec.{vec_len}
use Rattle.std.proofs.lemmas.List.{append-nil, append_assoc, length-append}
use Rattle.std.proofs.lemmas.Grind.{flat_map-append}
use Rattle.std.proofs.lemmas.Bool.Decides.{eqb_tells}
use Rattle.tg_block.specs.Cells.{free_cell}
use Rattle.tg_space.proofs.Flat.{length-blocks}
use Rattle.tg_evac.specs.Copies.{HoldCells}
use Rattle.tg_evac.proofs.new_blocks.NewBlocks.finish.Goals as goal

some : (n : ℕ) → (n == 0) ≡ false → n ≢ 0
some n isnt e = ⊎_elim (λ none. absurd (let both : true ≡ false = sym none.0 ∙ isnt in cc)) (λ ne. ne.1 e) (eqb_tells n 0)

pub push-requires : goal.push-requires
push-requires c =
    let full = c.self.inside.full in let last = c.self.inside.last.items in
    let blocks = length-blocks full c.self.invariant.space.1 in
    let long = length-append (flat_map (λ (b : List (List ℕ)). b) full) last in
    let view : length (flat_map (λ (b : List (List ℕ)). b) full ++ last) ≡ length c.args.self = ap length c.self.view_is in
    let ne = some (vec_len c.self.inside.last) (sym c.is_empty.ensures ∙ c.if-is_empty.false) in
    omega (arith, c.requires, c.self.inside.last.ok)

pub returns-clause-cells : goal.returns-clause-cells
returns-clause-cells c =
    let full = c.self.inside.full in let last = c.self.inside.last.items in
    let flat = flat_map (λ (b : List (List ℕ)). b) in
    let free : ℕ = 64 - length last in
    let padded = c.in_ok-padded.field-0.items in
    subst (λ (cells : List (List ℕ)). HoldCells cells c.push.new.self) c.self.view_is (record {
      free = free;
      few = (let ne = some (vec_len c.self.inside.last) (sym c.is_empty.ensures ∙ c.if-is_empty.false) in omega (arith, c.self.inside.last.ok));
      is = ap flat c.in_ok-push.ensures.added ∙ ap (λ (b : List (List ℕ)). flat (full ++ b ∷ [])) c.of.ensures ∙ flat_map-append (λ (b : List (List ℕ)). b) full (padded ∷ [])
          ∙ ap (λ (cs : List (List ℕ)). flat full ++ cs) (append-nil padded ∙ c.in_ok-padded.ensures.cells) ∙ sym (append_assoc (flat full) last (replicate free free_cell));
    })
