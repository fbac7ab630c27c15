use Rattle.std.proofs.Common.{◌≡◌, length, drop}
use Rattle.std.specs.Str.{bytes_eq}
use Rattle.tg_model.proofs.verb.is_word.Given as goal

abbrev pub invariant-loop-at : goal.invariant-loop-at
invariant-loop-at l = record {
  len : length l.word ≡ length l.text;
  same : bytes_eq l.word l.text ≡ bytes_eq (drop l.at l.word) (drop l.at l.text);
}
