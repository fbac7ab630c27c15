-- The owner makes two vertices, one after the other, each of which is its own alone.
use Rattle.std.proofs.Common.{◌≡◌, ◌≢◌, ◌<◌, arith}
use Rattle.examples.specs.Alone.{changes, each}
use Rattle.examples.proofs.stand_in.desk.furnish.Goals as goal

pub made-requires : goal.made-requires
made-requires g c = record { untaken = c.requires.untaken }

pub made-requires-in-Ok : goal.made-requires-in-Ok
made-requires-in-Ok g c = record { untaken = (c.in-Ok.ensures.made each).untaken }

pub returns-in-Ok-made : goal.returns-in-Ok-made
returns-in-Ok-made g c =
    let thing = c.in-Ok.ensures.made each in
    record {
      apart = (λ same. let below = thing.made in let next = c.in-Ok-made.ensures.next in omega (arith, same, below, next));
      thing = c.in-Ok-made.ensures.kept each c.in-Ok.thing thing;
      stand_in = c.in-Ok-made.ensures.made changes;
    }
