use Rattle.std.proofs.Common.{refl, sym}
use Rattle.tg_rows.proofs.followed.follow_row_at.Goals as goal

pub returns : goal.returns
returns c = record {
  row = c.in-Some.row.now;
  followed = c.follow_row.new.row;
  was = sym c.in-Some.ensures.value;
  entries = refl;
  to = c.follow_row.ensures.followed;
  aged = c.follow_row.ensures.aged;
  old = c.follow_row.ensures.old;
  marked = c.follow_row.ensures.marked;
  gone = c.follow_row.ensures.gone;
}

pub follow_row-requires : goal.follow_row-requires
follow_row-requires c = c.requires.can c.in-Some.row.now (sym c.in-Some.ensures.value)
