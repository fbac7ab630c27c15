use Rattle.std.proofs.Common.{arith}
use Rattle.tg_space.proofs.Tables.{flat_facts}
use Rattle.tg_space.proofs.spaces.Spaces.flat.Goals as goal

pub overflow_add-result : goal.overflow_add-result
overflow_add-result c = omega (arith, flat_facts _ c.args.self.now _ c.args.place _ c.self.view_is c.self.invariant c.requires c.index.ensures)

pub overflow_mul-result : goal.overflow_mul-result
overflow_mul-result c = omega (arith, flat_facts _ c.args.self.now _ c.args.place _ c.self.view_is c.self.invariant c.requires c.index.ensures)

pub overflow_add-result-2 : goal.overflow_add-result-2
overflow_add-result-2 c = omega (arith, flat_facts _ c.args.self.now _ c.args.place _ c.self.view_is c.self.invariant c.requires c.index.ensures)

pub returns-clause-inside : goal.returns-clause-inside
returns-clause-inside c = omega (arith, flat_facts _ c.args.self.now _ c.args.place _ c.self.view_is c.self.invariant c.requires c.index.ensures)
