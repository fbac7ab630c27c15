use Rattle.tg_kept.proofs.kept.Kept.keep_from.Goals as goal

pub invariant_of-result : goal.invariant_of-result
invariant_of-result g c = record {
  opened = c.in-Ok.ensures.kept.opened;
  writable = c.in-Ok.ensures.kept.writable;
  keeps = c.in-Ok.ensures.kept.keeps;
}
