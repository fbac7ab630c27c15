use Rattle.std.proofs.Common.{◌≡◌, ℕ, ◌<◌, ◌≤◌, get_or}
use Rattle.tg_word.specs.Word.{place_in}
use Rattle.tg_evac.proofs.notes.names_young.Given as goal

abbrev pub invariant-loop-i : goal.invariant-loop-i
invariant-loop-i l = (k : ℕ) → k < l.i → l.first ≤ k → (place_in (get_or l.words k 0)).space ≡ 0
