use Rattle.std.proofs.Common.{◌≡◌, ◌-◌, ◌<◌, ◌≤◌, ℕ, length, get_or}
use Rattle.tg_index.proofs.bits.Bits.first_word.Given as goal

abbrev pub invariant-loop-word : goal.invariant-loop-word
invariant-loop-word l = record {
  from : l.from ≤ l.word;
  within : l.word ≤ length l.self.words.items;
  before : (w : ℕ) → l.from ≤ w → w < l.word → get_or l.self.words.items w 0 ≡ 0;
}

abbrev pub decreases-loop-word : goal.decreases-loop-word
decreases-loop-word l = length l.self.words.items - l.word
