use Rattle.std.proofs.Common.{arith, refl}
use Rattle.heap_tests.proofs.collections.sound.has_object_layout.Goals as goal

pub returns-then-are_references : goal.returns-then-are_references
returns-then-are_references c t = (omega arith, c.if-are_references.ensures refl, c.is_link.ensures t)
