use Rattle.tg_parallel.proofs.Handing.{are_laid_out}
use Rattle.tg_parallel.proofs.part.Part.numbered.Goals as goal

pub returns-clause-aged : goal.returns-clause-aged
returns-clause-aged c =
    are_laid_out c.args.copies.aged c.args.aged.now c.in_ok-blocks.blocks.aged c.in_ok-laid_out.field-0.items c.in_ok-blocks.ensures.aged.0 c.in_ok-blocks.ensures.aged.1.1 c.in_ok-laid_out.ensures.numbered c.in_ok-laid_out.ensures.each

pub returns-clause-old : goal.returns-clause-old
returns-clause-old c =
    are_laid_out c.args.copies.old c.args.old.now c.in_ok-blocks.blocks.old c.in_ok-laid_out-2.field-0.items c.in_ok-blocks.ensures.old.0 c.in_ok-blocks.ensures.old.1.1 c.in_ok-laid_out-2.ensures.numbered c.in_ok-laid_out-2.ensures.each
