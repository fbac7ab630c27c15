-- What the index of a row finds is what a walk along the row finds.
use Rattle.std.proofs.Common.{◌≡◌, ◌≢◌, ℕ, zero, suc, ◌+◌, ◌-◌, ◌*◌, ◌^◌, ◌<◌, ◌≤◌, ◌⊎◌, ◌==◌, inl, inr, Bool, true, false, cond, List, [], ◌∷◌, ◌++◌, Option, Some, None, length, get_or, take, drop, min, option_map, refl, sym, ap, subst, arith, ◌∙◌, ⊎_elim}
use Rattle.std.specs.Prelude.{nat_lt, position, slice_index}
use Rattle.std.specs.List.{All}
use Rattle.std.specs.Option.{option_or}
use Rattle.std.proofs.lemmas.Bool.{cases_lt, le-ltb, lt-ltb}
use Rattle.std.proofs.lemmas.Bool.Decides.{eqb_tells}
use Rattle.std.proofs.lemmas.List.{get_or_append_left, get_or-append-add, length-append, length-drop, length-take}
use Rattle.std.proofs.lemmas.List.Elements.{All-head, All-tail}
use Rattle.std.proofs.lemmas.Option.{none-some, get_or_from_slice_get}
use Rattle.tg_word.specs.declared.Place.{Place}
use Rattle.tg_block.specs.declared.CellKind.TheVariants.{Object, Chunk}
use Rattle.tg_space.specs.SpaceList.{SpaceList, IsSpaceList, cell_at, cells_of}
use Rattle.tg_space.specs.Soundness.{AreSound, IsKindAt}
use Rattle.tg_space.specs.Targets.{first_pointer}
use Rattle.tg_space.specs.Rows.{chunks_from, link_at, row_of}
use Rattle.tg_index.specs.Slots.{Slots, IsFirstVacant, place_number}
use Rattle.tg_rows.specs.Index.{IsPlaceOf, IsRowIndex, row_slots, name_referred}
use Rattle.tg_rows.specs.Rows.{IsRow, name_in, references_of, row_words, words_of}
use Rattle.tg_rows.specs.Spots.{IsSpotFor, is_empty, last_of, refers_to, word_of_cell, word_where}
use Rattle.tg_rows.specs.declared.rows.Spot.TheVariants.{Reference}
use Rattle.tg_rows.proofs.Chains.{chain_chunks, chain_short}
use Rattle.tg_rows.proofs.Finding.{referring}
use Rattle.tg_rows.proofs.Layouts.{object_tagged, chunk_tagged}
use Rattle.tg_rows.proofs.Places.{cell_long}
use Rattle.tg_rows.proofs.Walks.{position_is, position_none}
use Rattle.tg_rows.proofs.Slots.{same_test}

-- ---- words by their numbers

-- the word with a number, of these cells
abbrev pub nth_word : SpaceList → List Place → ℕ → Option (Place × ℕ)
nth_word h [] n = None
nth_word h (q ∷ qs) n = cond (nat_lt n (length (references_of (cell_at h q)))) (Some (word_of_cell h q n)) (nth_word h qs (n - length (references_of (cell_at h q))))

module _ (h : SpaceList) (test : ℕ → Bool) where
  -- a search finds the first that passes
  pub where_nth : (ps : List Place) (n : ℕ) → n < length (words_of h ps) → ((k : ℕ) → k < n → test (get_or (words_of h ps) k 0) ≡ false) → test (get_or (words_of h ps) n 0) ≡ true → word_where test h ps ≡ nth_word h ps n
  where_nth [] n inside before here = absurd (omega arith)
  where_nth (q ∷ qs) n inside before here = by_cell (cases_lt n (length words)) (where_nth qs (n - length words))
    where
      words : List ℕ
      words = references_of (cell_at h q)

      left : (k : ℕ) → k < length words → get_or (words ++ words_of h qs) k 0 ≡ get_or words k 0
      left k low = get_or_append_left words (words_of h qs) 0 k low

      right : (k : ℕ) → get_or (words ++ words_of h qs) (length words + k) 0 ≡ get_or (words_of h qs) k 0
      right k = get_or-append-add words (words_of h qs) k 0

      by_cell : (n < length words) ⊎ (length words ≤ n) →
          (n - length words < length (words_of h qs) → ((k : ℕ) → k < n - length words → test (get_or (words_of h qs) k 0) ≡ false) → test (get_or (words_of h qs) (n - length words) 0) ≡ true → word_where test h qs ≡ nth_word h qs (n - length words)) →
          word_where test h (q ∷ qs) ≡ nth_word h (q ∷ qs) n
      by_cell (inl low) _ =
          let found : position test words ≡ Some n = position_is test words n 0 low (λ k less. ap test (sym (left k (omega arith))) ∙ before k less) (ap test (sym (left n low)) ∙ here) in
          let t : nat_lt n (length words) ≡ true = lt-ltb n (length words) low in
          ap (λ (o : Option ℕ). option_or (option_map (word_of_cell h q) o) (word_where test h qs)) found
          ∙ ap (λ b. cond b (Some (word_of_cell h q n)) (nth_word h qs (n - length words))) (sym t)
      by_cell (inr high) again =
          let none : position test words ≡ None = position_none test words 0 (λ k low. ap test (sym (left k low)) ∙ before k (omega arith)) in
          let t : nat_lt n (length words) ≡ false = le-ltb n (length words) high in
          let long = length-append words (words_of h qs) in
          let at : length words + (n - length words) ≡ n = omega arith in
          ap (λ (o : Option ℕ). option_or (option_map (word_of_cell h q) o) (word_where test h qs)) none
          ∙ again (omega (arith, long, inside)) (λ k low. ap test (sym (right k)) ∙ before (length words + k) (omega arith))
          (ap test (sym (right (n - length words))) ∙ ap (λ k. test (get_or (words ++ words_of h qs) k 0)) at ∙ here)
          ∙ ap (λ b. cond b (Some (word_of_cell h q n)) (nth_word h qs (n - length words))) (sym t)

  -- a search finds nothing where none passes
  pub where_none : (ps : List Place) → ((k : ℕ) → k < length (words_of h ps) → test (get_or (words_of h ps) k 0) ≡ false) → word_where test h ps ≡ None
  where_none [] fails = refl
  where_none (q ∷ qs) fails =
      let words = references_of (cell_at h q) in
      let long = length-append words (words_of h qs) in
      let none : position test words ≡ None = position_none test words 0 (λ k low. ap test (sym (get_or_append_left words (words_of h qs) 0 k low)) ∙ fails k (omega (arith, long))) in
      ap (λ (o : Option ℕ). option_or (option_map (word_of_cell h q) o) (word_where test h qs)) none
      ∙ where_none qs (λ k low. ap test (sym (get_or-append-add words (words_of h qs) k 0)) ∙ fails (length words + k) (omega (arith, long)))

-- ---- cells of a row

-- an object has three references, from word 4 on, and a chunk six, from word 1 on
object_words : (h : SpaceList) (p : Place) → length (cell_at h p) ≡ 8 → IsKindAt h Object p → (length (references_of (cell_at h p)) ≡ 3) × (first_pointer (slice_index (cell_at h p) 0) ≡ 4)
object_words h p long object =
    let first : first_pointer (slice_index (cell_at h p) 0) ≡ 4 = ap first_pointer ((object_tagged (cell_at h p)).0 object.is) in
    let words = cell_at h p in
    (ap (λ f. length (take (7 - f) (drop f words))) first ∙ length-take 3 (drop 4 words) ∙ ap (min 3) (length-drop 4 words ∙ ap (λ l. l - 4) long), first)

chunk_words_are : (h : SpaceList) (p : Place) → length (cell_at h p) ≡ 8 → IsKindAt h Chunk p → (length (references_of (cell_at h p)) ≡ 6) × (first_pointer (slice_index (cell_at h p) 0) ≡ 1)
chunk_words_are h p long chunk =
    let first : first_pointer (slice_index (cell_at h p) 0) ≡ 1 = ap first_pointer ((chunk_tagged (cell_at h p)).0 chunk.is) in
    let words = cell_at h p in
    (ap (λ f. length (take (7 - f) (drop f words))) first ∙ length-take 6 (drop 1 words) ∙ ap (min 6) (length-drop 1 words ∙ ap (λ l. l - 1) long), first)

-- a word of the first cell
nth_first : (h : SpaceList) (p : Place) (qs : List Place) (n w : ℕ) → n < length (references_of (cell_at h p)) → first_pointer (slice_index (cell_at h p) 0) + n ≡ w → nth_word h (p ∷ qs) n ≡ Some (p, w)
nth_first h p qs n w low is =
    let t : nat_lt n (length (references_of (cell_at h p))) ≡ true = lt-ltb n (length (references_of (cell_at h p))) low in
    rw t (ap (λ i. Some (p, i)) is)

module _ (h : SpaceList) (is : IsSpaceList h) where
  -- a word of the chunks
  nth_of_chunks : (qs : List Place) → All (IsKindAt h Chunk) qs → (c w n : ℕ) (d : Place) → c < length qs → 1 ≤ w → w ≤ 6 → n + 1 ≡ c * 6 + w → nth_word h qs n ≡ Some (get_or qs c d, w)
  nth_of_chunks [] chunks c w n d low from to at = absurd (omega arith)
  nth_of_chunks (q ∷ qs) chunks zero w n d low from to at =
      let chunk = All-head (IsKindAt h Chunk) q qs chunks in
      let six = chunk_words_are h q (cell_long h is q chunk.held) chunk in
      nth_first h q qs n w (omega (arith, six.0)) (omega (arith, six.1))
  nth_of_chunks (q ∷ qs) chunks (suc c) w n d low from to at =
      let chunk = All-head (IsKindAt h Chunk) q qs chunks in
      let six = chunk_words_are h q (cell_long h is q chunk.held) chunk in
      let long = six.0 in
      let t : nat_lt n (length (references_of (cell_at h q))) ≡ false = le-ltb n (length (references_of (cell_at h q))) (omega arith) in
      rw t (nth_of_chunks qs (All-tail (IsKindAt h Chunk) q qs chunks) c w (n - length (references_of (cell_at h q))) d (omega arith) from to (omega arith))

  -- a word of a row
  pub nth_of_row : (p : Place) (qs : List Place) → IsKindAt h Object p → All (IsKindAt h Chunk) qs → (c w n : ℕ) (d : Place) → c < length (p ∷ qs) → 1 ≤ w → w ≤ 6 → n + 4 ≡ c * 6 + w → nth_word h (p ∷ qs) n ≡ Some (get_or (p ∷ qs) c d, w)
  nth_of_row p qs object chunks zero w n d low from to at =
      let three = object_words h p (cell_long h is p object.held) object in
      nth_first h p qs n w (omega (arith, three.0)) (omega (arith, three.1))
  nth_of_row p qs object chunks (suc c) w n d low from to at =
      let three = object_words h p (cell_long h is p object.held) object in
      let long = three.0 in
      let t : nat_lt n (length (references_of (cell_at h p))) ≡ false = le-ltb n (length (references_of (cell_at h p))) (omega arith) in
      rw t (nth_of_chunks qs chunks c w (n - length (references_of (cell_at h p))) d (omega arith) from to (omega arith))

  chunks_long : (qs : List Place) → All (IsKindAt h Chunk) qs → length (words_of h qs) ≡ length qs * 6
  chunks_long [] chunks = refl
  chunks_long (q ∷ qs) chunks =
      let chunk = All-head (IsKindAt h Chunk) q qs chunks in
      let six = chunk_words_are h q (cell_long h is q chunk.held) chunk in
      let long = six.0 in
      let all = length-append (references_of (cell_at h q)) (words_of h qs) in
      let rest = chunks_long qs (All-tail (IsKindAt h Chunk) q qs chunks) in
      omega (arith, long, all, rest)

  -- how many places a row has
  pub row_long : (p : Place) → IsRow h p → length (row_words h p) + 3 ≡ length (row_of h p) * 6
  row_long p row =
      let qs = chunks_from h (length (cells_of h)) (link_at h p) in
      let three = object_words h p (cell_long h is p row.object.held) row.object in
      let long = three.0 in
      let all = length-append (references_of (cell_at h p)) (words_of h qs) in
      let rest = chunks_long qs (chain_chunks h qs (link_at h p) row.ends) in
      omega (arith, long, all, rest)

-- ---- the index of a row

pub slot_some : (h : SpaceList) (word name : ℕ) → name_referred h word ≡ Some name → refers_to h name word ≡ true
slot_some h word name e = by_test (eqb_tells word 0)
  where
    by_test : ((word == 0) ≡ true) × (word ≡ 0) ⊎ ((word == 0) ≡ false) × (word ≢ 0) → refers_to h name word ≡ true
    by_test (inl t) = absurd (none-some name (rw t.0 at e))
    by_test (inr f) = let z : Some (name_in h word) ≡ Some name = rw f.0 at e in let same : name_in h word ≡ name = cc in same_test h name word f.1 same

pub some_slot : (h : SpaceList) (word name : ℕ) → refers_to h name word ≡ true → name_referred h word ≡ Some name
some_slot h word name passes =
    let refers = referring h name word passes in
    let t : (word == 0) ≡ false = ⊎_elim (λ z. absurd (refers.0 z.1)) (λ f. f.0) (eqb_tells word 0) in
    rw t (ap (λ n. Some n) refers.1)

pub slot_none : (h : SpaceList) (word : ℕ) → name_referred h word ≡ None → is_empty word ≡ true
slot_none h word e = by_test (eqb_tells word 0)
  where
    by_test : ((word == 0) ≡ true) × (word ≡ 0) ⊎ ((word == 0) ≡ false) × (word ≢ 0) → is_empty word ≡ true
    by_test (inl t) = t.0
    by_test (inr f) = let z : Some (name_in h word) ≡ None = rw f.0 at e in absurd (none-some (name_in h word) (sym z))

pub none_slot : (h : SpaceList) (word : ℕ) → is_empty word ≡ true → name_referred h word ≡ None
none_slot h word t = rw t refl

not_true : (b : Bool) → (b ≡ true → ⊥) → b ≡ false
not_true true never = absurd (never refl)
not_true false _ = refl

module _ (h : SpaceList) (is : IsSpaceList h) (p : Place) (row : IsRow h p) (s : Slots) (cells : List Place) (index : IsRowIndex h p s cells) where
  abbrev words : List ℕ
  words = row_words h p

  abbrev qs : List Place
  qs = chunks_from h (length (cells_of h)) (link_at h p)

  -- how many places the row has
  pub places_long : s.len + 3 ≡ length cells * 6
  places_long =
      let long = row_long h is p row in
      let same = ap (λ (cs : List Place). length cs) index.cells in
      let len = index.len in
      omega (arith, long, same)

  -- a row has fewer places than there are numbers
  pub places_short : AreSound h [] → length (cells_of h) ≤ 66 * 2 ^ 26 → s.len + 6 < 2 ^ 64
  places_short sound few =
      let long = places_long in
      let same = ap (λ (cs : List Place). length cs) index.cells in
      let short = chain_short h is [] sound p (chunks_from h (length (cells_of h)) (link_at h p)) row.object row.ends in
      omega (arith, long, same, short, few)

  pub number_low : (name n : ℕ) → place_number s name ≡ Some n → n < s.len
  number_low name n found =
      let slot : name_referred h (get_or (row_words h p) n 0) ≡ Some name = (index.names.numbers name n).0 found in
      let le = index.names.next in
      ⊎_elim (λ low. low) (λ high. absurd (none-some name (sym (index.names.fresh n (omega arith)) ∙ slot))) (cases_lt n s.len)

  -- the place with a number
  nth_is : (n : ℕ) (q : Place) (i : ℕ) → IsPlaceOf cells n (q, i) → nth_word h (row_of h p) n ≡ Some (q, i)
  nth_is n q i place =
      let inside : place.number < length (p ∷ qs) = subst (λ (cs : List Place). place.number < length cs) index.cells place.inside in
      let at : get_or (p ∷ qs) place.number q ≡ q = ap (λ (cs : List Place). get_or cs place.number q) (sym index.cells) ∙ get_or_from_slice_get cells place.number q q place.cell in
      nth_of_row h is p qs row.object (chain_chunks h qs (link_at h p) row.ends) place.number i n q inside place.from place.to place.is ∙ ap (λ (r : Place). Some (r, i)) at

  pub index_finds : (name n : ℕ) (q : Place) (i : ℕ) → place_number s name ≡ Some n → IsPlaceOf cells n (q, i) → IsSpotFor h name p (Reference q i)
  index_finds name n q i found place =
      let slot : name_referred h (get_or (row_words h p) n 0) ≡ Some name = (index.names.numbers name n).0 found in
      let low = number_low name n found in
      let len = index.len in
      let inside : n < length (row_words h p) = omega arith in
      where_nth h (refers_to h name) (row_of h p) n inside
      (λ k low. not_true (refers_to h name (get_or (row_words h p) k 0)) (λ t.
      let other : place_number s name ≡ Some k = (index.names.numbers name k).1 (some_slot h (get_or (row_words h p) k 0) name t) in
      let same : n ≡ k = cc in
      omega arith))
      (slot_some h (get_or (row_words h p) n 0) name slot)
      ∙ nth_is n q i place

  pub index_lacks : (name : ℕ) → place_number s name ≡ None → word_where (refers_to h name) h (row_of h p) ≡ None
  index_lacks name none =
      where_none h (refers_to h name) (row_of h p) (λ k low. not_true (refers_to h name (get_or (row_words h p) k 0)) (λ t.
      let other : place_number s name ≡ Some k = (index.names.numbers name k).1 (some_slot h (get_or (row_words h p) k 0) name t) in
      none-some k (sym none ∙ other)))

  -- the first empty place
  pub empty_nth : (n : ℕ) (q : Place) (i : ℕ) → IsFirstVacant (row_slots h p) s.len (Some n) → IsPlaceOf cells n (q, i) → word_where is_empty h (row_of h p) ≡ Some (q, i)
  empty_nth n q i first place =
      let within = first.0 in
      let len = index.len in
      where_nth h is_empty (row_of h p) n (omega arith)
      (λ k low. not_true (is_empty (get_or (row_words h p) k 0)) (λ t. first.2 k low (none_slot h (get_or (row_words h p) k 0) t)))
      (slot_none h (get_or (row_words h p) n 0) first.1)
      ∙ nth_is n q i place

  pub empty_none : IsFirstVacant (row_slots h p) s.len None → word_where is_empty h (row_of h p) ≡ None
  empty_none full =
      let len = index.len in
      where_none h is_empty (row_of h p) (λ k low. not_true (is_empty (get_or (row_words h p) k 0)) (λ t. full k (omega arith) (none_slot h (get_or (row_words h p) k 0) t)))

  -- the last cell of the list is that of the row
  pub last_is : (last : Place) → last ≡ get_or cells (length cells - 1) last → last_of p qs ≡ last
  last_is last e = go p qs last (sym (subst (λ (cs : List Place). last ≡ get_or cs (length cs - 1) last) index.cells e))
    where
      go : (p : Place) (qs : List Place) (last : Place) → get_or (p ∷ qs) (length (p ∷ qs) - 1) last ≡ last → last_of p qs ≡ last
      go p [] last e = e
      go p (q ∷ qs) last e =
          let n : length (p ∷ q ∷ qs) - 1 ≡ suc (length (q ∷ qs) - 1) = omega arith in
          go q qs last (subst (λ k. get_or (p ∷ q ∷ qs) k last ≡ last) n e)
