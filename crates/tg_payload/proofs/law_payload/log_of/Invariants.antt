use Rattle.std.proofs.Common.{◌≡◌, take}
use Rattle.tg_model.specs.declared.law.Law.TheVariants.{Log}
use Rattle.tg_payload.specs.Kinds.{law_value}
use Rattle.tg_payload.proofs.law_payload.log_of.Given as goal

-- the numbers so far were written
abbrev pub invariant-loop-number : goal.invariant-loop-number
invariant-loop-number l = law_value l.log ≡ record { law = Log l.most; state = take l.number-index l.state }
