use Rattle.std.proofs.Common.{ℕ, List, length, refl, ap, arith}
use Rattle.tg_word.specs.Word.{nursery_space}
use Rattle.tg_graph.proofs.Openings.{no_cell, no_count}
use Rattle.tg_graph.proofs.opening.add_blocks.Goals as goal

pub loop-worker-init : goal.loop-worker-init
loop-worker-init c =
    let h = c.args.spaces.now.spaces in
    let none = c.requires.empty.blocks in
    record {
      table = λ some. absurd (omega arith);
      spaces = c.requires.spaces;
      used = refl;
      limits = refl;
      done = λ x low. absurd (omega arith);
      left = λ x high. ap (λ (blocks : List (List (List ℕ))). length blocks) (none (nursery_space x));
      old = ap (λ (blocks : List (List (List ℕ))). length blocks) (none 0);
      count = let zero = no_count h none in omega (arith, zero);
      free = λ p held. absurd (no_cell h none p held);
    }
