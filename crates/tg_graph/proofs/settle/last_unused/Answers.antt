use Rattle.std.proofs.Common.{◌<◌, ◌≤◌, length, arith}
use Rattle.tg_graph.proofs.KeptDropped.{nursery_inside, unused_free}
use Rattle.tg_graph.proofs.settle.last_unused.Goals as goal

pub returns-clause-inside : goal.returns-clause-inside
returns-clause-inside c =
    let low : c.args.near < length c.args.spaces.now.spaces = omega arith in
    let end = nursery_inside c.args.spaces.now c.requires.table c.args.near c.flat-first.result c.len-2.result low c.flat-first.ensures.flat c.len-2.ensures.blocks in
    omega arith

pub returns-clause-free : goal.returns-clause-free
returns-clause-free c behind after before =
    let low : c.args.near < length c.args.spaces.now.spaces = omega arith in
    let young : 2 ≤ c.args.near = omega arith in
    unused_free c.args.spaces.now c.requires.table c.args.near c.flat-first.result c.len-2.result low c.flat-first.ensures.flat c.len-2.ensures.blocks young c.used.result c.used.ensures.used behind (omega arith) (omega arith)
