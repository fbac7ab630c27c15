use Rattle.tgcould.specs.Policies.{WritesWord}
use Rattle.tgcould.proofs.SupposedLaws.{zip_more, zip_whole}
use Rattle.tgcould.proofs.supposed.read_names.Goals as goal

pub loop-text-preserved : goal.loop-text-preserved
loop-text-preserved g c =
    zip_more (λ text name. WritesWord text.now name) c.args.texts.now c.loop-text.names.items c.push.new.self.items c.loop-text.text-index _ c.in-Ok.name c.loop-text-test.true
    c.in_ok-push.ensures.items c.loop-text.invariant (let read = c.in-Ok.ensures.value.0 in (read.0.0, read.1))

pub returns : goal.returns
returns g c =
    zip_whole (λ text name. WritesWord text.now name) c.args.texts.now c.loop-text.names.items c.loop-text.text-index c.loop-text-test.false c.loop-text.invariant
