use Rattle.std.proofs.Common.{inl, refl, subst, sym}
use Rattle.std.specs.Bool.{IsTrue}
use Rattle.tg_space.specs.Soundness.{IsRootIn}
use Rattle.tg_space.specs.declared.root.Root.{Root}
use Rattle.heap_tests.proofs.collections.sound.is_root.Goals as goal

pub returns-in-Row : goal.returns-in-Row
returns-in-Row c =
    subst (λ (root : Root). IsTrue c.has_tag.result → IsRootIn c.args.spaces.now.spaces root) (sym c.in-Row.is) (λ yes. inl (c.has_tag.ensures.object yes refl))
