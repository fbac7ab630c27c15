use Rattle.std.proofs.Common.{take}
use Rattle.std.specs.List.{AllZip}
use Rattle.tgcould.specs.Policies.{WritesWord}
use Rattle.tgcould.proofs.supposed.read_names.Given as goal

abbrev pub invariant-loop-text : goal.invariant-loop-text
invariant-loop-text g l = AllZip (λ text name. WritesWord text.now name) (take l.text-index l.texts) l.names.items
