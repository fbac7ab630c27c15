use Rattle.std.proofs.Common.{refl}
use Rattle.heap_tests.proofs.collections.sound.has_chunk_layout.Goals as goal

pub returns-then-are_references : goal.returns-then-are_references
returns-then-are_references c t = (c.if-are_references.ensures refl, c.is_link.ensures t)
