-- What was dropped of the cells before the loop's number.
use Rattle.std.proofs.Common.{◌≤◌, ◌+◌, length, subst, sym, refl, arith}
use Rattle.tg_payload.specs.Table.{Payloads}
use Rattle.tg_space.specs.SpaceList.{cells_of}
use Rattle.tg_space.specs.declared.kind.Kind.TheVariants.{Full}
use Rattle.tg_space.proofs.Tables.{table_list}
use Rattle.tg_graph.specs.Kept.{Drops, IsDeadKey}
use Rattle.tg_graph.proofs.KeptDropped.{IsDeadBelow, all_begin, below_back, below_here, below_next, below_not, below_skip, dead_keys_are, dead_other, dead_some, drops_more, drops_same, drops_there}
use Rattle.tg_graph.proofs.settle.drop_uncopied.Goals.{in-Some, in_default}
use Rattle.tg_graph.proofs.settle.drop_uncopied.Goals as goal

pub take_out-requires : goal.take_out-requires
take_out-requires g c =
    let h = c.args.spaces.now.spaces in
    let forward = c.args.forward.now.words in
    let whole = table_list c.args.spaces.now c.cells-cells.ensures.table in
    let n = c.loop-number.number in
    let key = c.in-Some.key in
    let inside = c.loop-number-test.true in
    let dead = c.in-Some.ensures.some forward (c.loop-number.invariant.unmoved (omega arith)) in
    drops_there c.args.payloads.now c.loop-number.payloads (IsDeadBelow h forward 0 n) key c.loop-number.invariant.dropped
    (below_not h whole forward c.requires.graph.keys 0 n key dead)
    (dead_some h whole forward c.args.payloads.now c.requires.graph n key dead)

pub loop-number-preserved : goal.loop-number-preserved
loop-number-preserved g c =
    let h = c.args.spaces.now.spaces in
    let forward = c.args.forward.now.words in
    let whole = table_list c.args.spaces.now c.cells-cells.ensures.table in
    let n = c.loop-number.number in
    let inside = c.loop-number-test.true in
    let unmoved = c.loop-number.invariant.unmoved (omega arith) in
    let next = c.next_unmoved-number-in-loop-number in
    let dropped : Drops c.args.payloads.now c.match-object_key.payloads (IsDeadBelow h forward 0 (n + 1)) = elim c.match-object_key.branch [
      | in-Some w ↦
          subst (λ (now : Payloads). Drops c.args.payloads.now now (IsDeadBelow h forward 0 (n + 1))) (sym w.payloads-is)
          (drops_more c.args.payloads.now c.loop-number.payloads w.take_out.new.self (IsDeadBelow h forward 0 n) (IsDeadBelow h forward 0 (n + 1)) w.in-Some.key c.loop-number.invariant.dropped w.take_out.ensures.gone
          (below_here h whole forward 0 n w.in-Some.key (omega arith) (w.in-Some.ensures.some forward unmoved))
          (below_next h whole forward 0 n)
          (λ k below other. below_back h whole forward 0 n k below (λ dead. dead_other h whole forward n k w.in-Some.key dead (w.in-Some.ensures.some forward unmoved) other)))
      | in_default w ↦
          subst (λ (now : Payloads). Drops c.args.payloads.now now (IsDeadBelow h forward 0 (n + 1))) (sym w.payloads-is)
          (drops_same c.args.payloads.now c.loop-number.payloads (IsDeadBelow h forward 0 n) (IsDeadBelow h forward 0 (n + 1)) c.loop-number.invariant.dropped
          (λ key. (below_next h whole forward 0 n key, λ below. below_back h whole forward 0 n key below (w.in_default.ensures.none refl forward key))))
    ] in
    record {
      within = next.ensures.before;
      unmoved = next.ensures.unmoved;
      dropped =
          drops_same c.args.payloads.now c.match-object_key.payloads (IsDeadBelow h forward 0 (n + 1)) (IsDeadBelow h forward 0 next.result) dropped
          (λ key. below_skip h whole forward 0 (n + 1) next.result key next.ensures.behind next.ensures.moved);
    }

pub returns : goal.returns
returns g c =
    let h = c.args.spaces.now.spaces in
    let forward = c.args.forward.now.words in
    let whole = table_list c.args.spaces.now c.cells-cells.ensures.table in
    let behind = c.loop-number-test.false in
    let end : length (cells_of h) ≤ c.loop-number.number = omega (arith, c.cells-cells.ensures.cells) in
    drops_same c.args.payloads.now c.loop-number.payloads (IsDeadBelow h forward 0 c.loop-number.number) (IsDeadKey Full h forward) c.loop-number.invariant.dropped
    (dead_keys_are h whole forward Full 0 c.loop-number.number (all_begin h whole forward) end)
