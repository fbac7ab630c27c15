-- The payloads that a collection drops.
use Rattle.std.proofs.Common.{◌≡◌, ◌≢◌, ◌↔◌, ℕ, ◌<◌, ◌≤◌, ◌+◌, ◌-◌, ◌*◌, ◌/◌, ◌%◌, ◌⊎◌, ◌++◌, true, List, [], ◌∷◌, length, get_or, slice_index, Option, None, IsSome, refl, sym, ap, subst, arith, ◌∙◌, inl, inr, ⊎_elim}
use Rattle.std.specs.List.{All, AllPairs, Contains}
use Rattle.std.proofs.lemmas.Bool.{cases_eq, cases_lt}
use Rattle.std.proofs.lemmas.List.Elements.{Contains-append_left, Contains-get_or, Contains-push, Contains-push_cases}
use Rattle.std.proofs.lemmas.List.Quantifiers.{all_pairs_push}
use Rattle.tg_model.specs.declared.value.Value.{Value}
use Rattle.tg_word.specs.declared.Place.{Place}
use Rattle.tg_block.specs.Cells.{free_cell}
use Rattle.tg_block.specs.declared.CellKind.TheVariants.{Object}
use Rattle.tg_space.specs.SpaceList.{SpaceList, IsSpaceList, HasCell, blocks_before, cell_at, cells_of, flat_of, space_of}
use Rattle.tg_space.specs.SpaceTable.{SpaceTable, IsSpaceTable, used_of}
use Rattle.tg_space.specs.Soundness.{IsKindAt}
use Rattle.tg_space.specs.Targets.{from_space, cell_numbered}
use Rattle.tg_space.specs.declared.kind.Kind.{Kind}
use Rattle.tg_space.specs.declared.kind.Kind.TheVariants.{Full, Nursery}
use Rattle.tg_space.proofs.Flat.{before_le, before_more, before_mono, flat_inside, get_or-flat_of, length-cells_of, same_place}
use Rattle.tg_payload.specs.Table.{Payloads, Updates, entry}
use Rattle.tg_rows.specs.Rows.{key_at}
use Rattle.tg_rows.specs.Graph.{IsGraph}
use Rattle.tg_graph.specs.Kept.{Drops, HaveKeysApart, IsDeadAt, IsDeadKey, IsKept, KeepsPayloads}
use Rattle.tg_rows.proofs.Members.{Contains-none}
use Rattle.tg_rows.proofs.Places.{place_numbered}
use Rattle.tg_rows.proofs.Layouts.{object_tagged}
use Rattle.tg_graph.proofs.KeptAdopted.{young_moves}

-- ---- steps

-- there is nothing under a key that had a payload
none_some : (o : Option Value) → o ≡ None → IsSome o → ⊥
none_some o none some = let no : IsSome {T = Value} None = subst (λ (v : Option Value). IsSome v) none some in cc

pub drops_same : (payloads now : Payloads) (few many : ℕ → Type 0) → Drops payloads now few → ((key : ℕ) → few key ↔ many key) → Drops payloads now many
drops_same payloads now few many drops same key =
    ⊎_elim
    (λ gone. inl ((same key).0 gone.0, gone.1))
    (λ stays. inr (λ dead. stays.0 ((same key).1 dead), stays.1))
    (drops key)

-- one more payload is dropped
pub drops_more : (payloads now next : Payloads) (few many : ℕ → Type 0) (key : ℕ) → Drops payloads now few → Updates now next key None → many key → ((k : ℕ) → few k → many k) → ((k : ℕ) → many k → k ≢ key → few k) → Drops payloads next many
drops_more payloads now next few many key drops update dead more back k = by_key (cases_eq k key)
  where
    by_key : (k ≡ key) ⊎ (k ≢ key) → (many k × (entry next k ≡ None)) ⊎ ((many k → ⊥) × (entry next k ≡ entry payloads k))
    by_key (inl same) = inl (subst many (sym same) dead, ap (entry next) same ∙ update.changed)
    by_key (inr other) =
        ⊎_elim
        (λ gone. inl (more k gone.0, update.others k other ∙ gone.1))
        (λ stays. inr (λ is. stays.0 (back k is other), update.others k other ∙ stays.1))
        (drops k)

-- a payload that wasn't dropped is there still
pub drops_there : (payloads now : Payloads) (dead : ℕ → Type 0) (key : ℕ) → Drops payloads now dead → (dead key → ⊥) → IsSome (entry payloads key) → IsSome (entry now key)
drops_there payloads now dead key drops alive some =
    ⊎_elim
    (λ gone. absurd (alive gone.0))
    (λ stays. subst (λ (o : Option Value). IsSome o) (sym stays.1) some)
    (drops key)

-- ---- cells of a nursery that were never handed out

-- the cells of Old are some of the cells
pub old_inside : (t : SpaceTable) → IsSpaceTable t → (blocks : ℕ) → blocks ≡ length (space_of t.spaces 0) → 64 * blocks ≤ length (cells_of t.spaces)
old_inside t table blocks is =
    let enough = table.enough in
    let more = before_more t.spaces 0 (omega arith) in
    let none : blocks_before t.spaces 0 ≡ 0 = refl in
    let le = before_le t.spaces 1 in
    let long = length-cells_of t.spaces table.blocks in
    omega arith

module _ (t : SpaceTable) (table : IsSpaceTable t) (near first blocks : ℕ) (low : near < length t.spaces) (first_is : first ≡ 64 * (blocks_before t.spaces near + 0) + 0) (blocks_is : blocks ≡ length (space_of t.spaces near)) where
  pub nursery_inside : first + 64 * blocks ≤ length (cells_of t.spaces)
  nursery_inside =
      let more = before_more t.spaces near low in
      let le = before_le t.spaces (near + 1) in
      let long = length-cells_of t.spaces table.blocks in
      omega arith

  pub unused_free : 2 ≤ near → (used : ℕ) → used ≡ used_of t near → (n : ℕ) → first + used ≤ n → n < first + 64 * blocks → cell_numbered t.spaces n ≡ free_cell
  unused_free young used used_is n from below =
      let h = t.spaces in
      let k : ℕ = n - first in
      let split : n ≡ first + k = omega arith in
      let p : Place = record { space = near; block = k / 64; cell = k % 64 } in
      let held : HasCell h p = record { space = low; block = omega arith; cell = omega arith } in
      let at : flat_of h p ≡ n = omega arith in
      ap (cell_numbered h) (sym at) ∙ get_or-flat_of h table.blocks p held ∙ table.fresh p held young (omega arith)

-- ---- dead cells, by their numbers

-- the key is that of a dead cell with a number from first on, below n
pub record IsDeadBelow (h : SpaceList) (forward : List ℕ) (first n key : ℕ) : Type 0 where
  pub number : ℕ
  pub from_first : first ≤ number
  pub below : number < n
  pub dead : IsDeadAt h forward number key

-- the keys of the dead cells with numbers from first on, below n, each once
pub record AreKeysBelow (h : SpaceList) (forward : List ℕ) (first n : ℕ) (keys : List ℕ) : Type 0 where
  pub dead : (key : ℕ) → Contains keys key ↔ IsDeadBelow h forward first n key
  pub once : AllPairs (λ a b. a ≢ b) keys

module _ (h : SpaceList) (whole : IsSpaceList h) (forward : List ℕ) where
  pub none_below : (first key : ℕ) → IsDeadBelow h forward first first key → ⊥
  none_below first key is = let high = is.from_first in let low = is.below in omega arith

  pub below_next : (first n key : ℕ) → IsDeadBelow h forward first n key → IsDeadBelow h forward first (n + 1) key
  below_next first n key is = record { number = is.number; from_first = is.from_first; below = let low = is.below in omega arith; dead = is.dead }

  pub below_here : (first n key : ℕ) → first ≤ n → IsDeadAt h forward n key → IsDeadBelow h forward first (n + 1) key
  below_here first n key high is = record { number = n; from_first = high; below = omega arith; dead = is }

  pub below_back : (first n key : ℕ) → IsDeadBelow h forward first (n + 1) key → (IsDeadAt h forward n key → ⊥) → IsDeadBelow h forward first n key
  below_back first n key is alive = by_number (cases_eq is.number n)
    where
      by_number : (is.number ≡ n) ⊎ (is.number ≢ n) → IsDeadBelow h forward first n key
      by_number (inl last) = absurd (alive (subst (λ (m : ℕ). IsDeadAt h forward m key) last is.dead))
      by_number (inr other) = record { number = is.number; from_first = is.from_first; below = let low = is.below in omega arith; dead = is.dead }

  -- between two numbers no cell is dead where each has a word
  pub below_skip : (first n m key : ℕ) → n ≤ m → ((cell : ℕ) → n ≤ cell → cell < m → slice_index forward cell ≢ 0) → IsDeadBelow h forward first n key ↔ IsDeadBelow h forward first m key
  below_skip first n m key up moved = (
    λ is. record { number = is.number; from_first = is.from_first; below = let low = is.below in omega arith; dead = is.dead },
    λ is. by_number is (cases_lt is.number n),
  )
    where
      by_number : (is : IsDeadBelow h forward first m key) → (is.number < n) ⊎ (n ≤ is.number) → IsDeadBelow h forward first n key
      by_number is (inl low) = record { number = is.number; from_first = is.from_first; below = low; dead = is.dead }
      by_number is (inr high) = absurd (moved is.number high is.below is.dead.uncopied)

  pub dead_tagged : (n key : ℕ) → IsDeadAt h forward n key → get_or (cell_numbered h n) 0 0 ≡ 1
  dead_tagged n key is =
      ap (λ (m : ℕ). get_or (cell_numbered h m) 0 0) (sym is.at)
      ∙ ap (λ (ws : List ℕ). get_or ws 0 0) (get_or-flat_of h whole.spaces is.place is.object.held)
      ∙ (object_tagged (cell_at h is.place)).0 is.object.is

  -- nor where each cell is free
  pub below_unused : (first n m key : ℕ) → n ≤ m → ((cell : ℕ) → n ≤ cell → cell < m → cell_numbered h cell ≡ free_cell) → IsDeadBelow h forward first m key → IsDeadBelow h forward first n key
  below_unused first n m key up free is = by_number (cases_lt is.number n)
    where
      by_number : (is.number < n) ⊎ (n ≤ is.number) → IsDeadBelow h forward first n key
      by_number (inl low) = record { number = is.number; from_first = is.from_first; below = low; dead = is.dead }
      by_number (inr high) =
          let tag = sym (ap (λ (ws : List ℕ). get_or ws 0 0) (free is.number high is.below)) ∙ dead_tagged is.number key is.dead in
          let no : 0 ≡ 1 = tag in
          absurd (omega (arith, no))

  -- each key is that of one number
  pub dead_once : HaveKeysApart h → (a b key : ℕ) → IsDeadAt h forward a key → IsDeadAt h forward b key → a ≡ b
  dead_once apart a b key one two =
      sym one.at ∙ ap (flat_of h) (apart one.place two.place one.object two.object (one.key_is ∙ sym two.key_is)) ∙ two.at

  -- what the cell with a number is
  pub dead_numbered : (n : ℕ) → n < length (cells_of h) → get_or forward n 0 ≡ 0 → get_or (cell_numbered h n) 0 0 ≡ 1 → IsDeadAt h forward n (get_or (cell_numbered h n) 2 0)
  dead_numbered n low none tag =
      let at = place_numbered h whole n low in
      let words = ap (cell_numbered h) (sym at.is) ∙ get_or-flat_of h whole.spaces at.place at.held in
      record {
        place = at.place;
        object = record { held = at.held; is = (object_tagged (cell_at h at.place)).1 (ap (λ (ws : List ℕ). get_or ws 0 0) (sym words) ∙ tag) };
        at = at.is;
        uncopied = none;
        key_is = ap (λ (ws : List ℕ). get_or ws 2 0) (sym words);
      }

  -- the cells with numbers from first on are those of from-space
  abbrev pub BeginsAt : Kind → ℕ → Type 0
  BeginsAt kind first = (p : Place) → HasCell h p → (first ≤ flat_of h p) ↔ (from_space kind p.space ≡ true)

  pub all_begin : BeginsAt Full 0
  all_begin p held = (λ _. refl, λ _. omega arith)

  pub young_begin : 0 < length h → BeginsAt Nursery (64 * length (space_of h 0))
  young_begin some p held = by_space (cases_eq p.space 0)
    where
      by_space : (p.space ≡ 0) ⊎ (p.space ≢ 0) → (64 * length (space_of h 0) ≤ flat_of h p) ↔ (from_space Nursery p.space ≡ true)
      by_space (inl old) =
          let before : blocks_before h p.space ≡ 0 = ap (blocks_before h) old in
          let low : p.block < length (space_of h 0) = subst (λ (space : ℕ). p.block < length (space_of h space)) old held.block in
          let cell = held.cell in (
            λ high. absurd (omega arith),
            λ moves. let no : from_space Nursery 0 ≡ true = subst (λ (space : ℕ). from_space Nursery space ≡ true) old moves in absurd cc,
          )
      by_space (inr young) =
          let first : blocks_before h 1 ≡ blocks_before h 0 + length (space_of h 0) = before_more h 0 some in
          let none : blocks_before h 0 ≡ 0 = refl in
          let mono = before_mono h 1 p.space (omega arith) in (
            λ high. young_moves Nursery p.space young,
            λ moves. omega arith,
          )

  pub dead_keys_are : (kind : Kind) (first n : ℕ) → BeginsAt kind first → length (cells_of h) ≤ n → (key : ℕ) → IsDeadBelow h forward first n key ↔ IsDeadKey kind h forward key
  dead_keys_are kind first n begin end key = (
    λ is. record {
      number = is.number;
      dead = is.dead;
      moves = (begin is.dead.place is.dead.object.held).0 (let high = is.from_first in let at = is.dead.at in omega arith);
    },
    λ is. record {
      number = is.number;
      from_first = let high = (begin is.dead.place is.dead.object.held).1 is.moves in let at = is.dead.at in omega arith;
      below = let low = flat_inside h whole.spaces is.dead.place is.dead.object.held in let at = is.dead.at in omega arith;
      dead = is.dead;
    },
  )

  -- ---- keys, number by number

  -- two keys of one number are one
  dead_same : (n a b : ℕ) → IsDeadAt h forward n a → IsDeadAt h forward n b → a ≡ b
  dead_same n a b one two =
      let same = same_place h whole.spaces one.place two.place one.object.held two.object.held (one.at ∙ sym two.at) in
      sym one.key_is ∙ ap (key_at h) same ∙ two.key_is

  pub dead_other : (n a b : ℕ) → IsDeadAt h forward n a → IsDeadAt h forward n b → a ≢ b → ⊥
  dead_other n a b one two apart = apart (dead_same n a b one two)

  pub below_not : HaveKeysApart h → (first n key : ℕ) → IsDeadAt h forward n key → IsDeadBelow h forward first n key → ⊥
  below_not apart first n key dead below =
      let same = dead_once apart below.number n key below.dead dead in
      let low = below.below in
      omega arith

  pub keys_none : (first : ℕ) → AreKeysBelow h forward first first []
  keys_none first = record {
    dead = λ key. (λ has. absurd (Contains-none key has), λ is. absurd (none_below first key is));
    once = λ i j d low high. absurd (let none : j < 0 = high in omega arith);
  }

  module _ (first n : ℕ) (keys : List ℕ) (before : AreKeysBelow h forward first n keys) where
    pub keys_same : ((key : ℕ) → IsDeadAt h forward n key → ⊥) → AreKeysBelow h forward first (n + 1) keys
    keys_same alive = record {
      dead = λ key. (
        λ has. below_next first n key ((before.dead key).0 has),
        λ is. (before.dead key).1 (below_back first n key is (alive key)),
      );
      once = before.once;
    }

    -- up to a number where no cell is dead
    pub keys_skip : (m : ℕ) → n ≤ m → ((key : ℕ) → IsDeadBelow h forward first m key → IsDeadBelow h forward first n key) → AreKeysBelow h forward first m keys
    keys_skip m up back = record {
      dead = λ key. (
        λ has. let is = (before.dead key).0 has in record { number = is.number; from_first = is.from_first; below = let low = is.below in omega arith; dead = is.dead },
        λ is. (before.dead key).1 (back key is),
      );
      once = before.once;
    }

    pub keys_more : HaveKeysApart h → first ≤ n → (key : ℕ) → IsDeadAt h forward n key → AreKeysBelow h forward first (n + 1) (keys ++ key ∷ [])
    keys_more apart high key is = record { dead = dead; once = all_pairs_push (λ a b. a ≢ b) keys key before.once other }
      where
        dead : (k : ℕ) → Contains (keys ++ key ∷ []) k ↔ IsDeadBelow h forward first (n + 1) k
        dead k = (
          λ has. ⊎_elim
              (λ earlier. below_next first n k ((before.dead k).0 earlier))
              (λ last. below_here first n k high (subst (λ (m : ℕ). IsDeadAt h forward n m) last is))
              (Contains-push_cases keys key k has),
          λ below. ⊎_elim
              (λ (last : below.number ≡ n).
              let same = dead_same n key k is (subst (λ (m : ℕ). IsDeadAt h forward m k) last below.dead) in
              subst (λ (m : ℕ). Contains (keys ++ key ∷ []) m) same (Contains-push keys key))
              (λ (earlier : below.number ≢ n).
              let low = below.below in
              Contains-append_left keys (key ∷ []) k ((before.dead k).1 (record { number = below.number; from_first = below.from_first; below = omega arith; dead = below.dead })))
              (cases_eq below.number n),
        )

        other : (k d : ℕ) → k < length keys → get_or keys k d ≢ key
        other k d low same =
            let below = (before.dead (get_or keys k d)).0 (Contains-get_or keys k d low) in
            let one = dead_once apart below.number n key (subst (λ (m : ℕ). IsDeadAt h forward below.number m) same below.dead) is in
            let inside = below.below in
            omega arith

  -- ---- what is left

  module _ (payloads : Payloads) (graph : IsGraph h payloads) where
    -- a dead cell has a payload before
    pub dead_some : (n key : ℕ) → IsDeadAt h forward n key → IsSome (entry payloads key)
    dead_some n key is = (graph.payloads_used key).1 (is.place, is.object, is.key_is)

    pub dead_there : (kind : Kind) (keys : List ℕ) → ((key : ℕ) → Contains keys key ↔ IsDeadKey kind h forward key) → All (λ key. IsSome (entry payloads key)) keys
    dead_there kind keys dead k d low = let is = (dead (get_or keys k d)).0 (Contains-get_or keys k d low) in dead_some is.number (get_or keys k d) is.dead

    pub dropped_keeps : (kind : Kind) (left : Payloads) → Drops payloads left (IsDeadKey kind h forward) → KeepsPayloads h (IsKept kind h forward) payloads left
    dropped_keeps kind left drops = record {
      same = λ p keep object.
          ⊎_elim
          (λ gone. absurd (alive p keep object gone.0))
          (λ stays. stays.1)
          (drops (key_at h p));
      none_else = λ key some.
          ⊎_elim
          (λ gone. absurd (none_some (entry left key) gone.1 some))
          (λ stays. by_object key stays.0 ((graph.payloads_used key).0 (subst (λ (o : Option Value). IsSome o) stays.1 some)))
          (drops key);
    }
      where
        alive : (p : Place) → IsKept kind h forward p → IsKindAt h Object p → IsDeadKey kind h forward (key_at h p) → ⊥
        alive p keep object is =
            let same = graph.keys is.dead.place p is.dead.object object is.dead.key_is in
            let moves : from_space kind p.space ≡ true = subst (λ (q : Place). from_space kind q.space ≡ true) same is.moves in
            keep.copied moves (ap (λ (n : ℕ). get_or forward n 0) (ap (flat_of h) (sym same) ∙ is.dead.at) ∙ is.dead.uncopied)

        by_object : (key : ℕ) → (IsDeadKey kind h forward key → ⊥) → ((p : Place) × IsKindAt h Object p × (key_at h p ≡ key)) → (p : Place) × IsKept kind h forward p × IsKindAt h Object p × (key_at h p ≡ key)
        by_object key living (p, object, key_is) = (
          p,
          record {
            held = object.held;
            used = let tag : get_or (cell_at h p) 0 0 ≡ 1 = (object_tagged (cell_at h p)).0 object.is in omega arith;
            copied = λ moves none. living (record { number = flat_of h p; dead = record { place = p; object = object; at = refl; uncopied = none; key_is = key_is }; moves = moves });
          },
          object,
          key_is,
        )
