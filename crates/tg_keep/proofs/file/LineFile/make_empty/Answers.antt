use Rattle.std.proofs.Common.{length, refl, sym, ap, subst, arith, ◌∙◌}
use Rattle.std.specs.Prelude.{IsTrue}
use Rattle.tg_keep.specs.Lines.{said_by}
use Rattle.tg_keep.proofs.Laying.{empty_says, empty_synced}
use Rattle.tg_keep.proofs.Saying.{said_none}
use Rattle.tg_keep.proofs.file.LineFile.make_empty.Goals as goal

pub returns-clause-emptied : goal.returns-clause-emptied
returns-clause-emptied g c =
    let laid = c.in_ok-lay_zeros.ensures.laid in
    let was = g.D.Disk.seen c.args.self.now.disk in
    record {
      settled = record {
        usable = laid.usable;
        room = omega arith;
        synced = λ clean.
            let empty = c.requires.empty (subst IsTrue c.lay_zeros.ensures.left.calm clean) in
            empty_synced g.D.Disk.seen g.D.Disk.may_leave _ was 1048576 empty refl refl c.first-self.ensures (laid.zeros (ap length (sym empty))) laid.durable;
      };
      texts = λ clean.
          let empty = c.requires.empty (subst IsTrue c.lay_zeros.ensures.left.calm clean) in
          ap said_by (empty_says was (g.D.Disk.seen c.lay_zeros.new.disk) 1048576 empty (laid.zeros (ap length (sym empty)))) ∙ said_none;
    }

pub returns-clause-calm : goal.returns-clause-calm
returns-clause-calm g c = c.lay_zeros.ensures.left.calm

pub returns-in_err-lay_zeros-clause-calm : goal.returns-in_err-lay_zeros-clause-calm
returns-in_err-lay_zeros-clause-calm g c = c.lay_zeros.ensures.left.calm
