use Rattle.tg_rights.proofs.RightNames.{right_of_letter-letter_of, letter_of-right_of_letter, right_of_bit-bit_of, bit_of-right_of_bit}
use Rattle.tg_rights.proofs.laws.letters_and_bits_name_rights.Goals as goal

pub returns : goal.returns
returns c =
    record {
      of_letter = right_of_letter-letter_of;
      letter = letter_of-right_of_letter;
      of_bit = right_of_bit-bit_of;
      bit = bit_of-right_of_bit;
    }
