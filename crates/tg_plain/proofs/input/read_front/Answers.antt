use Rattle.std.proofs.Common.{[], refl, sym}
use Rattle.std.proofs.KnownBytes.{Consumes-nil}
use Rattle.tg_entries.proofs.PieceLaws.{fetches_more}
use Rattle.tg_plain.proofs.input.read_front.Goals as goal

pub loop-init : goal.loop-init
loop-init g c = record { piece = []; taken = Consumes-nil (g.R.Read.remaining c.args.reader.now); held_is = c.new-front.ensures.items }

pub loop-preserved : goal.loop-preserved
loop-preserved g c = fetches_more _ _ _ _ _ _ c.loop.invariant c.in_ok-read_byte.ensures

pub returns-then-branch : goal.returns-then-branch
returns-then-branch g c = fetches_more _ _ _ _ _ _ c.loop.invariant c.in_ok-read_byte.ensures
