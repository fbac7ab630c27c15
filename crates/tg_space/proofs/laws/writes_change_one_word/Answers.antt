use Rattle.tg_space.proofs.Writing.{written, kept_cell}
use Rattle.tg_space.proofs.Tables.{shape_written, same_holds, holds_same, block_whole}
use Rattle.tg_space.specs.SpaceList.{with_word_at}
use Rattle.tg_space.proofs.laws.writes_change_one_word.Goals as goal

pub returns-clause-changed : goal.returns-clause-changed
returns-clause-changed c = λ h p i word is held. written h p i word held (block_whole h p is held)

pub returns-clause-others : goal.returns-clause-others
returns-clause-others c = λ h p q i word held other. kept_cell h p i word held q other

pub returns-clause-places : goal.returns-clause-places
returns-clause-places c =
    λ h p q i word held. (
      same_holds h (with_word_at h p i word) (shape_written h p i word held) q,
      holds_same h (with_word_at h p i word) (shape_written h p i word held) q,
    )
