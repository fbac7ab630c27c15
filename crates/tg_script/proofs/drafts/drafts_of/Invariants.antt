use Rattle.std.proofs.Common.{◌≡◌, ◌++◌, map}
use Rattle.tg_script.proofs.drafts.drafts_of.Given as goal

abbrev pub invariant-loop-payload : goal.invariant-loop-payload
invariant-loop-payload g l = record {
  left : l.yielded ++ l.payload-iterator.rest.items ≡ l.fn.payloads.items;
  drafts : l.drafts.items ≡ map g.P.Payload.value l.yielded;
}
