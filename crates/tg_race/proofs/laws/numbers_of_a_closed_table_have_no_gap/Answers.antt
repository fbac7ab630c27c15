use Rattle.tg_race.proofs.Closed.{consecutive}
use Rattle.tg_race.proofs.laws.numbers_of_a_closed_table_have_no_gap.Goals as goal

pub returns : goal.returns
returns c = record {
  chunks = λ k words done closed. consecutive 0 closed.next_chunk (λ v. v.chunks) done closed.rule.chunks_once;
  aged_blocks = λ k words done closed. consecutive 0 closed.next_aged (λ v. v.aged_blocks) done closed.rule.blocks_once.0;
  old_blocks = λ k words done closed. consecutive k.kept closed.next_old (λ v. v.old_blocks) done closed.rule.blocks_once.1;
}
