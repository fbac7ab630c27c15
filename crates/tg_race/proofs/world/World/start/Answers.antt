use Rattle.std.proofs.Common.{rules, arith, ◌≡◌, sym, subst, length, replicate, List, [], ◌∷◌, ◌<◌, ◌^◌, ℕ, Vec}
use Rattle.std.proofs.lemmas.List.{length-map}
use Rattle.std.proofs.lemmas.Grind.{common_steps}
use Rattle.tg_race.specs.declared.record.Record.{Record}
use Rattle.tg_race.specs.Race.{empty}
use Rattle.tg_race.specs.Course.{KeepsRule, lists, net_of}
use Rattle.tg_race.proofs.Courses.{start_kept}
use Rattle.tg_race.proofs.world.World.start.Goals as goal

held : {A : Type 0} (l : List (Vec ℕ A)) → length l < 2 ^ 63 → length (lists l) < 2 ^ 63
held l few = rw length-map few

pub invariant_of-result : goal.invariant_of-result
invariant_of-result c =
    let net = net_of c.args.shape in
    let words : c.in_ok-words.words.items ≡ replicate (length (lists c.args.shape.targets.items)) 0 = first_of (search rules, grind (arith, common_steps)) in
    let records : c.push_reserved.new.self.items ≡ empty c.args.shape.helpers ∷ [] = first_of (search rules, grind (arith, common_steps)) in (
      record { raceable = c.requires; helpers = omega arith; roots = held c.args.shape.roots.items (omega (arith, c.args.shape.roots.ok, c.args.shape.roots.small)); targets = held c.args.shape.targets.items (omega (arith, c.args.shape.targets.ok, c.args.shape.targets.small)) },
      subst (λ (l : List Record). KeepsRule (record { net = net; race = record { next_chunk = 0; next_aged = 0; next_old = c.args.shape.kept; words = c.in_ok-words.words.items; records = l } })) (sym records)
          (subst (λ (ws : List ℕ). KeepsRule (record { net = net; race = record { next_chunk = 0; next_aged = 0; next_old = c.args.shape.kept; words = ws; records = empty c.args.shape.helpers ∷ [] } })) (sym words) (start_kept net)),
    )
