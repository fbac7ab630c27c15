use Rattle.std.proofs.Common.{◌≡◌, ◌<◌, ◌^◌, drop}
use Rattle.tg_text.specs.Inner.Words.{digits_on}
use Rattle.tg_text.proofs.word.few_digits_of.Given as goal

-- the number read so far has as many digits as there were bytes
abbrev pub invariant-loop-byte : goal.invariant-loop-byte
invariant-loop-byte l =
    record {
      read : digits_on 0 l.word ≡ digits_on l.number (drop l.byte-index l.word);
      small : l.number < 10 ^ l.byte-index;
    }
