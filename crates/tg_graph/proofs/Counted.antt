-- A heap has as many payloads as objects.
use Rattle.std.proofs.Common.{◌≡◌, ◌≢◌, ℕ, zero, suc, ◌<◌, ◌≤◌, ◌+◌, ◌*◌, ◌⊎◌, Bool, List, [], ◌∷◌, ◌++◌, length, get_or, map, Option, None, IsSome, is_some, eqb, ◌==◌, cond, append_assoc, refl, sym, ap, subst, arith, ◌∙◌, inl, inr}
use Rattle.std.specs.List.{Contains, IsDistinct, count_by, filter, flat_map, range_with_len}
use Rattle.std.proofs.lemmas.Bool.{cases_lt, eqb-true}
use Rattle.std.proofs.lemmas.Bool.Decides.{Decides-eqb}
use Rattle.std.proofs.lemmas.Cmp.{nat_eq_equiv}
use Rattle.std.proofs.lemmas.List.{append-nil, ext_get_or, get_or-map, get_or_past, length-map, map-append}
use Rattle.std.proofs.lemmas.List.Elements.{Contains-get_or}
use Rattle.std.proofs.lemmas.List.FromFn.{fill_by_all, get_or-range_with_len, length-range_with_len}
use Rattle.std.proofs.lemmas.List.Kept.{AllPairs-filter}
use Rattle.std.proofs.lemmas.List.Sums.{length-filter, sum_by-cons}
use Rattle.std.proofs.lemmas.Simd.{map-map}
use Rattle.std.proofs.lemmas.Map.Made.{IsDistinct-from_AllPairs, length-le_from_is_member}
use Rattle.std.proofs.lemmas.Map.Views.{Contains-from_any, list_any-from_Contains}
use Rattle.tg_model.proofs.PlainLaws.{is_subject}
use Rattle.tg_model.specs.declared.value.Value.{Value}
use Rattle.tg_word.specs.declared.Place.{Place}
use Rattle.tg_space.specs.SpaceList.{SpaceList, IsSpaceList, blocks_before, cell_at, cells_of, flat_of, space_of}
use Rattle.tg_space.proofs.Flat.{before_more, blocks_all, get_or-flat_of, length-cells_of}
use Rattle.tg_payload.specs.Table.{Payloads, count, entry}
use Rattle.tg_rows.specs.Rows.{is_object, key_at, name_at, objects_of, places_in, places_of}
use Rattle.tg_rows.specs.Graph.{IsGraph}
use Rattle.tg_rows.proofs.Members.{Contains-filter, Contains-from_filter, Contains-from_map, Contains-map}
use Rattle.tg_rows.proofs.Lookups.{kind_from_objects, objects_from_kind}
use Rattle.tg_rows.proofs.Places.{holds_from_places}

-- ---- numbers, one run behind the other

range-append : (a n m : ℕ) → range_with_len a n ++ range_with_len (a + n) m ≡ range_with_len a (n + m)
range-append a zero m =
    let here : a + 0 ≡ a = omega arith in
    let there : m ≡ 0 + m = omega arith in
    ap (λ b. range_with_len b m) here ∙ ap (range_with_len a) there
range-append a (suc n) m =
    let here : a + suc n ≡ a + 1 + n = omega arith in
    let there : suc (n + m) ≡ suc n + m = omega arith in
    ap (λ (ns : List ℕ). a ∷ ns) (ap (λ b. range_with_len (a + 1) n ++ range_with_len b m) here ∙ range-append (a + 1) n m) ∙ ap (range_with_len a) there

map-flat_map : {X Y Z : Type 0} (f : Y → Z) (g : X → List Y) (xs : List X) → map f (flat_map g xs) ≡ flat_map (λ x. map f (g x)) xs
map-flat_map f g [] = refl
map-flat_map f g (x ∷ xs) = map-append f (g x) (flat_map g xs) ∙ ap (λ ys. map f (g x) ++ ys) (map-flat_map f g xs)

-- runs of so many numbers each, where each begins at the end of the one before
runs : (f : ℕ → List ℕ) (at size : ℕ → ℕ) (z a n : ℕ) → ((k : ℕ) → k < a + n → (f k ≡ range_with_len (z + at k) (size k)) × (at (k + 1) ≡ at k + size k)) → range_with_len z (at a) ++ flat_map f (range_with_len a n) ≡ range_with_len z (at (a + n))
runs f at size z a zero each = let here : a ≡ a + 0 = omega arith in append-nil (range_with_len z (at a)) ∙ ap (λ k. range_with_len z (at k)) here
runs f at size z a (suc n) each =
    let first = each a (omega arith) in
    let here : a + 1 + n ≡ a + suc n = omega arith in
    sym (append_assoc (range_with_len z (at a)) (f a) (flat_map f (range_with_len (a + 1) n)))
    ∙ ap (λ (ns : List ℕ). ns ++ flat_map f (range_with_len (a + 1) n)) (ap (λ (ns : List ℕ). range_with_len z (at a) ++ ns) first.0 ∙ range-append z (at a) (size a) ∙ ap (range_with_len z) (sym first.1))
    ∙ runs f at size z (a + 1) n (λ k low. each k (omega (arith, low)))
    ∙ ap (λ k. range_with_len z (at k)) here

-- ---- places

-- where a list that is too short would be read
abbrev nowhere : Place
nowhere = record { space = 0; block = 0; cell = 0 }

module _ (h : SpaceList) (is : IsSpaceList h) where
  abbrev block_places : ℕ → ℕ → List Place
  block_places space block = map (λ (cell : ℕ). let q : Place = record { space = space; block = block; cell = cell } in q) (range_with_len 0 64)

  block_numbers : (space block : ℕ) → map (flat_of h) (block_places space block) ≡ range_with_len (64 * blocks_before h space + 64 * block) 64
  block_numbers space block =
      let first = 64 * blocks_before h space + 64 * block in
      map-map (flat_of h) (λ (cell : ℕ). let q : Place = record { space = space; block = block; cell = cell } in q) (range_with_len 0 64)
      ∙ sym (fill_by_all (λ (cell : ℕ). 64 * (blocks_before h space + block) + cell) (range_with_len first 64) 64 0 (length-range_with_len first 64) (λ k low. omega (arith, get_or-range_with_len first 64 k 0 low)))

  space_numbers : (space : ℕ) → map (flat_of h) (places_in h space) ≡ range_with_len (64 * blocks_before h space) (64 * length (space_of h space))
  space_numbers space =
      let blocks = length (space_of h space) in
      let all : 0 + blocks ≡ blocks = omega arith in
      map-flat_map (flat_of h) (block_places space) (range_with_len 0 blocks)
      ∙ runs (λ block. map (flat_of h) (block_places space block)) (λ k. 64 * k) (λ _. 64) (64 * blocks_before h space) 0 blocks (λ block low. (block_numbers space block, omega arith))
      ∙ ap (λ n. range_with_len (64 * blocks_before h space) (64 * n)) all

  -- the numbers of the places are all numbers of cells, in order
  numbers : map (flat_of h) (places_of h) ≡ range_with_len 0 (length (cells_of h))
  numbers =
      let at = λ (space : ℕ). 64 * blocks_before h space in
      let size = λ (space : ℕ). 64 * length (space_of h space) in
      let from : (space : ℕ) → at space ≡ 0 + at space = λ space. omega arith in
      let more : (space : ℕ) → space < 0 + length h → at (space + 1) ≡ at space + size space = λ space low. omega (arith, before_more h space (omega (arith, low))) in
      let end : at (0 + length h) ≡ length (cells_of h) = omega (arith, length-cells_of h is.spaces, blocks_all h (0 + length h) (omega arith)) in
      map-flat_map (flat_of h) (places_in h) (range_with_len 0 (length h))
      ∙ runs (λ space. map (flat_of h) (places_in h space)) at size 0 0 (length h) (λ space low. (space_numbers space ∙ ap (λ a. range_with_len a (size space)) (from space), more space low))
      ∙ ap (range_with_len 0) end

  long : length (places_of h) ≡ length (cells_of h)
  long = sym (length-map (places_of h) (flat_of h)) ∙ ap (λ (ns : List ℕ). length ns) numbers ∙ length-range_with_len 0 (length (cells_of h))

  number_at : (k : ℕ) (d : Place) → k < length (places_of h) → flat_of h (get_or (places_of h) k d) ≡ k
  number_at k d low =
      let here : 0 + k ≡ k = omega arith in
      sym (get_or-map (flat_of h) (places_of h) k d 0 low) ∙ ap (λ (ns : List ℕ). get_or ns k 0) numbers ∙ get_or-range_with_len 0 (length (cells_of h)) k 0 (omega (arith, long, low)) ∙ here

  -- the cells at the places are all cells, in order
  pub places_cells : map (cell_at h) (places_of h) ≡ cells_of h
  places_cells =
      let all = length-map (places_of h) (cell_at h) in
      ext_get_or [] (map (cell_at h) (places_of h)) (cells_of h) (all ∙ long) (λ k low.
      let inside : k < length (places_of h) = omega (arith, all, low) in
      let p = get_or (places_of h) k nowhere in
      get_or-map (cell_at h) (places_of h) k nowhere [] inside
      ∙ sym (get_or-flat_of h is.spaces p (holds_from_places h is p (Contains-get_or (places_of h) k nowhere inside)))
      ∙ ap (λ n. get_or (cells_of h) n []) (number_at k nowhere inside))

  -- no object's place is there twice, so neither do numbers that only one object has
  objects_distinct : (f : Place → ℕ) → ((p q : Place) → Contains (objects_of h) p → Contains (objects_of h) q → f p ≡ f q → p ≡ q) → IsDistinct eqb (map f (objects_of h))
  objects_distinct f apart =
      let objects = objects_of h in
      let once = AllPairs-filter (λ (p q : Place). p ≢ q) (λ p. is_object (cell_at h p)) (places_of h) (λ i j d below inside same. omega (arith, below, number_at i d (omega (arith, below, inside)), number_at j d inside, ap (flat_of h) same)) in
      IsDistinct-from_AllPairs {eq = eqb} Decides-eqb (map f objects) (λ i j d below inside same.
      let high : j < length objects = omega (arith, length-map objects f, inside) in
      let low : i < length objects = omega (arith, below, high) in
      once i j nowhere below high
      (apart (get_or objects i nowhere) (get_or objects j nowhere) (Contains-get_or objects i nowhere low) (Contains-get_or objects j nowhere high) (sym (get_or-map f objects i nowhere d low) ∙ same ∙ get_or-map f objects j nowhere d high)))

-- ---- keys

count-map : {X Y : Type 0} (p : Y → Bool) (f : X → Y) (xs : List X) → count_by p (map f xs) ≡ count_by (λ x. p (f x)) xs
count-map p f [] = refl
count-map p f (x ∷ xs) =
    sum_by-cons (λ y. cond (p y) 1 0) (f x) (map f xs) ∙ ap (λ (n : ℕ). cond (p (f x)) 1 0 + n) (count-map p f xs) ∙ sym (sum_by-cons (λ z. cond (p (f z)) 1 0) x xs)

-- the keys with a payload
used_keys : Payloads → List ℕ
used_keys payloads = filter (λ key. is_some (entry payloads key)) (range_with_len 0 (length payloads.entries))

module _ (payloads : Payloads) where
  length-used_keys : length (used_keys payloads) ≡ count payloads
  unfolding used_keys
  length-used_keys =
      length-filter (λ key. is_some (entry payloads key)) (range_with_len 0 (length payloads.entries))
      ∙ sym (count-map is_some (entry payloads) (range_with_len 0 (length payloads.entries)))
      ∙ ap (count_by is_some) (sym (fill_by_all (entry payloads) payloads.entries (length payloads.entries) None refl (λ k low. refl)))

  key_used : (key : ℕ) → IsSome (entry payloads key) → Contains (used_keys payloads) key
  unfolding used_keys
  key_used key some =
      Contains-filter (λ k. is_some (entry payloads k)) (range_with_len 0 (length payloads.entries)) key (is_subject (length payloads.entries) key (inside (cases_lt key (length payloads.entries)))) some
    where
      inside : (key < length payloads.entries) ⊎ (length payloads.entries ≤ key) → key < length payloads.entries
      inside (inl low) = low
      inside (inr past) =
          absurd (let no : IsSome {T = Value} None = subst (λ (o : Option Value). IsSome o) (get_or_past payloads.entries key None past) some in cc)

  used_key : (key : ℕ) → Contains (used_keys payloads) key → IsSome (entry payloads key)
  unfolding used_keys
  used_key key has = (Contains-from_filter (λ k. is_some (entry payloads k)) (range_with_len 0 (length payloads.entries)) key has).1

  used_keys-distinct : IsDistinct eqb (used_keys payloads)
  unfolding used_keys
  used_keys-distinct =
      let n = length payloads.entries in
      let long = length-range_with_len 0 n in
      IsDistinct-from_AllPairs {eq = eqb} Decides-eqb (used_keys payloads) (AllPairs-filter (λ (a b : ℕ). a ≢ b) (λ key. is_some (entry payloads key)) (range_with_len 0 n)
      (λ i j d below inside same. omega (arith, below, same, get_or-range_with_len 0 n i d (omega (arith, below, inside, long)), get_or-range_with_len 0 n j d (omega (arith, inside, long)))))

fewer : (ms ns : List ℕ) → IsDistinct eqb ms → ((k : ℕ) → Contains ms k → Contains ns k) → length ms ≤ length ns
fewer ms ns once inside =
    length-le_from_is_member nat_eq_equiv ms ns once (λ k e. list_any-from_Contains nat_eq_equiv k ns (inside k (Contains-from_any eqb-true k ms e)))

pub payloads_counted : (h : SpaceList) (payloads : Payloads) → IsSpaceList h → IsGraph h payloads → count payloads ≡ length (map (name_at h) (objects_of h))
payloads_counted h payloads is graph =
    let keys = map (key_at h) (objects_of h) in
    let once = objects_distinct h is (key_at h) (λ p q a b e. graph.keys p q (kind_from_objects h is p a) (kind_from_objects h is q b) e) in
    let le = fewer keys (used_keys payloads) once (λ key has. let (p, among, at) = Contains-from_map (key_at h) (objects_of h) key has in key_used payloads key ((graph.payloads_used key).1 (p, kind_from_objects h is p among, at))) in
    let ge = fewer (used_keys payloads) keys (used_keys-distinct payloads) (λ key has. let (p, object, at) = (graph.payloads_used key).0 (used_key payloads key has) in subst (λ (k : ℕ). Contains keys k) at (Contains-map (key_at h) (objects_of h) p (objects_from_kind h is p object))) in
    omega (arith, length-used_keys payloads, length-map (objects_of h) (key_at h), length-map (objects_of h) (name_at h))

-- no name is there twice
pub names_once : (h : SpaceList) (payloads : Payloads) → IsSpaceList h → IsGraph h payloads → IsDistinct (λ a b. a == b) (map (name_at h) (objects_of h))
names_once h payloads is graph =
    objects_distinct h is (name_at h) (λ p q a b e. graph.names p q (kind_from_objects h is p a) (kind_from_objects h is q b) e)
