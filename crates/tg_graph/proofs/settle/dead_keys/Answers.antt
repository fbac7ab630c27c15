-- The keys of the dead cells before the loop's number.
use Rattle.std.proofs.Common.{◌≤◌, ◌<◌, ◌+◌, ◌*◌, [], ℕ, List, Vec, Global, length, subst, sym, ap, arith, ◌∙◌, refl}
use Rattle.tg_space.specs.SpaceList.{cells_of, space_of}
use Rattle.tg_space.specs.declared.kind.Kind.TheVariants.{Nursery}
use Rattle.tg_space.proofs.Tables.{table_list}
use Rattle.tg_graph.proofs.KeptDropped.{AreKeysBelow, below_unused, dead_keys_are, keys_more, keys_none, keys_same, keys_skip, old_inside, young_begin}
use Rattle.tg_graph.proofs.settle.dead_keys.Goals.{else-word-eq0, then-word-eq0+in-None, then-word-eq0+in-Some+in_ok-push-in-Some}
use Rattle.tg_graph.proofs.settle.dead_keys.Goals as goal

pub loop-number-init : goal.loop-number-init
loop-number-init c =
    let h = c.args.spaces.now.spaces in
    let whole = table_list c.args.spaces.now c.cells-cells.ensures.table in
    record {
      high = omega (arith, c.len-number.ensures.blocks);
      within = old_inside c.args.spaces.now c.cells-cells.ensures.table c.len-number.result c.len-number.ensures.blocks;
      keys =
          subst (λ (keys : List ℕ). AreKeysBelow h c.args.forward.now.words (64 * length (space_of h 0)) (64 * c.len-number.result) keys) (sym c.new-keys.ensures.items)
          (subst (λ (blocks : ℕ). AreKeysBelow h c.args.forward.now.words (64 * length (space_of h 0)) (64 * blocks) []) (sym c.len-number.ensures.blocks) (keys_none h whole c.args.forward.now.words (64 * length (space_of h 0))));
    }

pub loop-number-preserved : goal.loop-number-preserved
loop-number-preserved c =
    let h = c.args.spaces.now.spaces in
    let forward = c.args.forward.now.words in
    let first = 64 * length (space_of h 0) in
    let n = c.loop-number.number in
    let now = c.if-word-eq0.number in
    let whole = table_list c.args.spaces.now c.cells-cells.ensures.table in
    let high = c.loop-number.invariant.high in
    let inside : n < length (cells_of h) = omega (arith, c.cells-cells.ensures.cells) in
    let step : (n ≤ now) × (now < length (cells_of h)) × AreKeysBelow h forward first (now + 1) c.if-word-eq0.keys.items = elim c.if-word-eq0.branch [
      | then-word-eq0+in-Some+in_ok-push-in-Some w ↦ (
        omega (arith, w.number-is),
        omega (arith, w.number-is, inside),
        subst (λ (m : ℕ). AreKeysBelow h forward first (m + 1) c.if-word-eq0.keys.items) (sym w.number-is)
            (subst (AreKeysBelow h forward first (n + 1)) (sym (ap (λ (v : Vec ℕ Global). v.items) w.keys-is ∙ w.in_ok-push-in-Some.ensures.items))
            (keys_more h whole forward first n c.loop-number.keys.items c.loop-number.invariant.keys c.requires.apart high w.in-Some.key (w.in-Some.ensures.some forward (sym c.word.ensures ∙ w.if-word-eq0.true)))),
      )
      | then-word-eq0+in-None w ↦
          let last = w.last_unused-number in
          let up : n + 1 ≤ last.result + 1 = omega (arith, last.ensures.from) in
          let free = λ (cell : ℕ) (low : n + 1 ≤ cell) (below : cell < last.result + 1). last.ensures.free cell (omega arith) (omega arith) in
          let same = keys_same h whole forward first n c.loop-number.keys.items c.loop-number.invariant.keys (λ key. w.in-None.ensures.none refl forward key) in
          let skipped = keys_skip h whole forward first (n + 1) c.loop-number.keys.items same (last.result + 1) up (λ key. below_unused h whole forward first (n + 1) (last.result + 1) key up free) in (
            omega (arith, w.number-is, last.ensures.from),
            omega (arith, w.number-is, last.ensures.inside),
            subst (λ (m : ℕ). AreKeysBelow h forward first (m + 1) c.if-word-eq0.keys.items) (sym w.number-is)
                (subst (AreKeysBelow h forward first (last.result + 1)) (sym (ap (λ (v : Vec ℕ Global). v.items) w.keys-is)) skipped),
          )
      | else-word-eq0 w ↦ (
        omega (arith, w.number-is),
        omega (arith, w.number-is, inside),
        subst (λ (m : ℕ). AreKeysBelow h forward first (m + 1) c.if-word-eq0.keys.items) (sym w.number-is)
            (subst (AreKeysBelow h forward first (n + 1)) (sym (ap (λ (v : Vec ℕ Global). v.items) w.keys-is))
            (keys_same h whole forward first n c.loop-number.keys.items c.loop-number.invariant.keys (λ key dead. w.if-word-eq0.false (c.word.ensures ∙ dead.uncopied)))),
      )
    ] in
    record {
      high = omega (arith, high, step.0);
      within = omega (arith, step.1);
      keys = step.2;
    }

pub returns-clause-keys : goal.returns-clause-keys
returns-clause-keys c key =
    let h = c.args.spaces.now.spaces in
    let forward = c.args.forward.now.words in
    let first = 64 * length (space_of h 0) in
    let whole = table_list c.args.spaces.now c.cells-cells.ensures.table in
    let some : 0 < length h = let enough = c.cells-cells.ensures.table.enough in omega arith in
    let end : length (cells_of h) ≤ c.loop-number.number = omega (arith, c.cells-cells.ensures.cells) in
    let are = dead_keys_are h whole forward Nursery first c.loop-number.number (young_begin h whole forward some) end key in (
      λ has. are.0 ((c.loop-number.invariant.keys.dead key).0 has),
      λ is. (c.loop-number.invariant.keys.dead key).1 (are.1 is),
    )
