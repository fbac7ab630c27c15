use Rattle.std.proofs.Common.{subst, ap, arith, rules, sym}
use Rattle.tg_word.specs.declared.TheConstants.{MAX_NURSERIES}
use Rattle.tg_graph.specs.Opened.{HasBlocks, HasNoBlocks}
use Rattle.tg_graph.proofs.Openings.{none_made}
use Rattle.tg_space.specs.SpaceTable.{AreLimits, SpaceTable}
use Rattle.tg_graph.proofs.opening.with_room.Goals as goal

pub add_blocks-requires : goal.add_blocks-requires
add_blocks-requires g c =
    let made = c.in-Ok.ensures.spaces in
    let same = ap (λ (t : SpaceTable). t.limits.max_blocks) made in
    record {
      workers = c.requires;
      limits = subst (λ (t : SpaceTable). AreLimits t.limits) (sym made) c.max_blocks.ensures.limits;
      empty = subst HasNoBlocks (sym made) (none_made MAX_NURSERIES c.args.limits);
      spaces = search rules;
      allowed = omega (arith, same, c.max_blocks.ensures.value, c.if-max_blocks-workers.false);
    }

pub returns-clause-ready : goal.returns-clause-ready
returns-clause-ready g c =
    let room = c.in-Ok.ensures.room in
    record {
      room = record { payloads = room.payloads; spare = room.spare; subjects = room.subjects; row = room.row; remembered = room.remembered };
      nurseries = subst (λ (t : SpaceTable). HasBlocks c.add_blocks.new.spaces c.args.workers t.limits) c.in-Ok.ensures.spaces c.in_ok-add_blocks.ensures.blocks;
    }
