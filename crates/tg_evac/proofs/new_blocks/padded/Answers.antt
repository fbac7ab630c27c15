use Rattle.std.proofs.Common.{◌≡◌, ℕ, ◌-◌, ◌+◌, ◌++◌, ◌∷◌, [], List, length, replicate, refl, sym, ap, subst, arith, ◌∙◌}
use Rattle.std.specs.List.{All}
use Rattle.std.proofs.lemmas.List.{append-nil, append_assoc, length_push, replicate_more}
use Rattle.std.proofs.lemmas.List.Elements.{All-push}
use Rattle.tg_block.specs.Cells.{free_cell}
use Rattle.tg_evac.proofs.new_blocks.padded.Goals as goal

pub loop-cells-init : goal.loop-cells-init
loop-cells-init c =
    let cells = c.args.cells.items in
    let none : length cells - length cells ≡ 0 = omega arith in
    record {
      longer = omega arith;
      few = c.requires.0;
      words = c.requires.1;
      cells = sym (append-nil cells) ∙ ap (λ (n : ℕ). cells ++ replicate n free_cell) (sym none);
    }

pub loop-cells-preserved : goal.loop-cells-preserved
loop-cells-preserved c =
    let first = c.args.cells.items in let before = c.loop-cells.cells.items in
    let is : c.push.new.self.items ≡ before ++ free_cell ∷ [] = c.in_ok-push.ensures.items in
    let long : length c.push.new.self.items ≡ length before + 1 = ap length is ∙ length_push before free_cell in
    let longer = c.loop-cells.invariant.longer in
    let n : ℕ = length before - length first in
    let next : length c.push.new.self.items - length first ≡ n + 1 = omega arith in
    record {
      longer = omega arith;
      few = omega arith;
      words = subst (λ (cs : List (List ℕ)). All (λ (ws : List ℕ). length ws ≡ 8) cs) (sym is) (All-push (λ (ws : List ℕ). length ws ≡ 8) before free_cell c.loop-cells.invariant.words refl);
      cells = is ∙ ap (λ (cs : List (List ℕ)). cs ++ free_cell ∷ []) c.loop-cells.invariant.cells ∙ append_assoc first (replicate n free_cell) (free_cell ∷ [])
          ∙ ap (λ (cs : List (List ℕ)). first ++ cs) (replicate_more n free_cell) ∙ ap (λ (m : ℕ). first ++ replicate m free_cell) (sym next);
    }

pub returns-clause-cells : goal.returns-clause-cells
returns-clause-cells c =
    let full : length c.loop-cells.cells.items ≡ 64 = let few = c.loop-cells.invariant.few in omega (arith, c.loop-cells-test.false) in
    c.loop-cells.invariant.cells ∙ ap (λ (n : ℕ). c.args.cells.items ++ replicate (n - length c.args.cells.items) free_cell) full
