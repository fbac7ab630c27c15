-- The cells of Old that a nursery collection writes, and the heap that is left.
use Rattle.std.proofs.Common.{◌≡◌, ◌≢◌, ℕ, ◌<◌, ◌⊎◌, ◌+◌, ◌++◌, false, List, [], ◌∷◌, get_or, map, take, Some, refl, sym, ap, subst, arith, ◌∙◌, inl, inr, ⊎_elim}
use Rattle.std.specs.List.{All, AllPairs, Contains, slice_get}
use Rattle.std.proofs.lemmas.List.{get_or-set_other, get_or-take, length-take-le, map-append, take_more}
use Rattle.std.proofs.lemmas.Option.{get_or_from_slice_get, slice_get-get_or, slice_get_within}
use Rattle.std.proofs.lemmas.List.Elements.{Contains-append_left, Contains-push, Contains-push_cases}
use Rattle.tg_word.specs.declared.Place.{Place}
use Rattle.tg_space.specs.SpaceList.{SpaceList, BlockList, HasCell, IsSpaceList, cell_at, with_cell_at}
use Rattle.tg_space.specs.SpaceTable.{SpaceTable, IsSpaceTable, adopted, with_adopted, with_spaces}
use Rattle.tg_space.specs.Soundness.{AreSound, IsOldCell}
use Rattle.tg_space.specs.Targets.{from_space, image_of, young_spaces}
use Rattle.tg_space.specs.Collection.{Collected, IsCollection, new_place}
use Rattle.tg_space.specs.declared.kind.Kind.{Kind}
use Rattle.tg_space.specs.declared.kind.Kind.TheVariants.{Full, Nursery}
use Rattle.tg_space.proofs.Pointing.{pointers_from_layout}
use Rattle.tg_space.proofs.Tables.{holds_same, same_holds, shape_cell, table_list}
use Rattle.tg_space.proofs.Writing.{other_cell}
use Rattle.tg_graph.specs.Heap.{HeapState, IsWellFormed, roots_of}
use Rattle.tg_graph.specs.Kept.{AreWritten, Drops, HasStayed, HasWritten, IsDeadKey, IsLeftInOld, Rewritten, rewritten, rewritten_at}
use Rattle.tg_rows.specs.declared.indexed_row.IndexedRow.{IndexedRow}
use Rattle.tg_rows.proofs.Members.{Contains-from_map, Contains-map, Contains-none}
use Rattle.tg_rows.proofs.Changes.{cell_written, same_or_other}
use Rattle.tg_rows.proofs.Places.{cell_long, layout_at}
use Rattle.tg_graph.proofs.KeptAdopted.{adopted_length, stays_cell, stays_held}
use Rattle.tg_graph.proofs.KeptDropped.{dropped_keeps}
use Rattle.tg_graph.proofs.KeptHeap.{AreFollowedTo, IsLeft, left_by, no_row, remembered_root}
use Rattle.tg_graph.proofs.KeptMoves.{HasWordsAfter, IsAfter}

-- ---- cell by cell

-- one more element of a list that is mapped from its beginning on
pub mapped_more : {X Y : Type 0} (f : X → Y) (xs : List X) (i : ℕ) (x : X) → slice_get xs i ≡ Some x → map f (take (i + 1) xs) ≡ map f (take i xs) ++ f x ∷ []
mapped_more f xs i x found =
    let low = slice_get_within xs i x found in
    let here : Some (get_or xs i x) ≡ Some x = sym (slice_get-get_or xs i x low) ∙ found in
    let same : get_or xs i x ≡ x = cc in
    ap (map f) (take_more xs i x low) ∙ map-append f (take i xs) (get_or xs i x ∷ []) ∙ ap (λ y. map f (take i xs) ++ f y ∷ []) same

module _ (t now : SpaceTable) (cells : List Rewritten) (cell : Rewritten) (table : IsSpaceTable now) (before : AreWritten t now cells) (old : IsOldCell t.spaces cell.place) where
  abbrev next : SpaceList
  next = with_cell_at now.spaces cell.place cell.words

  here : HasCell now.spaces cell.place
  here = (before.held cell.place).1 old.held

  written_at : (p : Place) → (p ≡ cell.place) ⊎ (p ≢ cell.place) → HasWritten next (cells ++ cell ∷ []) p ⊎ HasStayed t.spaces next (cells ++ cell ∷ []) p
  written_at p (inl same) =
      inl (record {
        cell = cell;
        among = Contains-push cells cell;
        at = sym same;
        words = ap (cell_at next) same ∙ cell_written now.spaces (table_list now table) cell.place here cell.words;
      })
  written_at p (inr apart) =
      ⊎_elim
      (λ (was : HasWritten now.spaces cells p). inl (record {
        cell = was.cell;
        among = push_more was.cell was.among;
        at = was.at;
        words = other_cell now.spaces cell.place cell.words here p apart ∙ was.words;
      }))
      (λ (stayed : HasStayed t.spaces now.spaces cells p). inr (record {
        apart = λ other has.
            ⊎_elim
            (λ earlier. stayed.apart other earlier)
            (λ last at. apart (sym at ∙ sym (ap (λ (c : Rewritten). c.place) last)))
            (Contains-push_cases cells cell other has);
        words = other_cell now.spaces cell.place cell.words here p apart ∙ stayed.words;
      }))
      (before.written p)
    where
      push_more : (other : Rewritten) → Contains cells other → Contains (cells ++ cell ∷ []) other
      push_more other has = Contains-append_left cells (cell ∷ []) other has

  pub written_more : AreWritten t (with_spaces now (with_cell_at now.spaces cell.place cell.words)) (cells ++ cell ∷ [])
  written_more =
      let shape = shape_cell now.spaces cell.place cell.words here in
      record {
        limits = before.limits;
        used = before.used;
        long = shape.long ∙ before.long;
        others = λ space young. get_or-set_other now.spaces cell.place.space space _ [] (λ same. young (same ∙ old.space)) ∙ before.others space young;
        held = λ p. (
          λ held. (before.held p).0 (same_holds now.spaces next shape p held),
          λ held. holds_same now.spaces next shape p ((before.held p).1 held),
        );
        written = λ p. written_at p (same_or_other p cell.place);
      }

-- a place that comes later isn't among those before it
not_before : (places : List Place) (i : ℕ) (p : Place) → AllPairs (λ p q. p ≢ q) places → slice_get places i ≡ Some p → Contains (take i places) p → ⊥
not_before places i p once here (k, low, same) =
    let inside = slice_get_within places i p here in
    let before : k < i = omega (arith, low, length-take-le i places (omega (arith, inside))) in
    once k i p before inside (sym (get_or-take i places k p before) ∙ same ∙ sym (get_or_from_slice_get places i p p here))

-- nothing is written
pub none_written : (t : SpaceTable) → AreWritten t t []
none_written t = record {
  limits = refl;
  used = refl;
  long = refl;
  others = λ space young. refl;
  held = λ p. (λ held. held, λ held. held);
  written = λ p. inr (record { apart = λ cell has. absurd (Contains-none cell has); words = refl });
}

-- ---- one remembered cell after the other

module _ (h : SpaceList) (forward : List ℕ) (t now : SpaceTable) (places : List Place) (left : All (IsLeftInOld h t) places) (once : AllPairs (λ p q. p ≢ q) places)
    (i : ℕ) (p : Place) (here : slice_get places i ≡ Some p) (before : AreWritten t now (map (rewritten_at h forward) (take i places))) where
  pub is_left : IsLeftInOld h t p
  is_left = subst (IsLeftInOld h t) (get_or_from_slice_get places i p p here) (left i p (slice_get_within places i p here))

  pub held_still : HasCell now.spaces p
  held_still = (before.held p).1 is_left.old.held

  -- the cell wasn't written yet
  pub words_still : cell_at now.spaces p ≡ cell_at h p
  words_still =
      ⊎_elim
      (λ (was : HasWritten now.spaces (map (rewritten_at h forward) (take i places)) p).
      let origin = Contains-from_map (rewritten_at h forward) (take i places) was.cell was.among in
      absurd (not_before places i p once here (subst (Contains (take i places)) (ap (λ (c : Rewritten). c.place) origin.2 ∙ was.at) origin.1)))
      (λ (stayed : HasStayed t.spaces now.spaces (map (rewritten_at h forward) (take i places)) p). stayed.words ∙ is_left.words)
      (before.written p)

  pub written_next : (new : SpaceTable) (words : List ℕ) → IsSpaceTable now → words ≡ image_of young_spaces h (new_place forward) (cell_at h p) → new ≡ with_spaces now (with_cell_at now.spaces p words) → AreWritten t new (map (rewritten_at h forward) (take (i + 1) places))
  written_next new words table image same =
      subst (λ (cells : List Rewritten). AreWritten t new cells) (sym (mapped_more (rewritten_at h forward) places i p here))
      (subst (λ (u : SpaceTable). AreWritten t u (map (rewritten_at h forward) (take i places) ++ rewritten_at h forward p ∷ [])) (sym (same ∙ ap (λ (ws : List ℕ). with_spaces now (with_cell_at now.spaces p ws)) image))
      (written_more t now (map (rewritten_at h forward) (take i places)) (rewritten_at h forward p) table before is_left.old))

-- the remembered cells are still there once the new blocks were adopted
pub left_in_old : (h : SpaceList) (t : SpaceTable) (places : List Place) (aged old : BlockList) → IsSpaceList h → AreSound h [] → All (IsOldCell h) places → t.spaces ≡ adopted Nursery h aged old → All (IsLeftInOld h t) places
left_in_old h t places aged old whole sound cells same k d low =
    let p = get_or places k d in
    let cell = cells k d low in
    let stays : from_space Nursery p.space ≡ false = ap (λ (space : ℕ). from_space Nursery space) cell.space in
    record {
      old = record { held = subst (λ (u : SpaceList). HasCell u p) (sym same) (stays_held h aged old Nursery p cell.held stays); space = cell.space };
      words = ap (λ (u : SpaceList). cell_at u p) same ∙ stays_cell h aged old Nursery p cell.held stays;
      pointers = pointers_from_layout h (cell_at h p) (cell_long h whole p cell.held) (layout_at h whole [] sound p cell.held);
    }

-- ---- the heap that is left

module _ (s : HeapState) (is : IsWellFormed s) (table : IsSpaceTable s.table) (kind : Kind) (made : Collected) where
  abbrev h : SpaceList
  h = s.table.spaces

  after_written : (now : SpaceTable) → IsSpaceTable now → AreWritten (with_adopted s.table kind made.aged made.old) now (rewritten kind h made.forward s.remembered) → IsAfter kind h (roots_of kind s) made now.spaces
  after_written now table_now written = record { whole = table_list now table_now; held = written.held; words = λ q held. by_cell kind q (written.written q) }
    where
      by_cell : (k : Kind) (q : Place) → HasWritten now.spaces (rewritten k h made.forward s.remembered) q ⊎ HasStayed (adopted k h made.aged made.old) now.spaces (rewritten k h made.forward s.remembered) q → HasWordsAfter k h (roots_of k s) made now.spaces q
      by_cell Full q (inl was) = absurd (Contains-none was.cell was.among)
      by_cell Full q (inr stayed) = inr (no_row s is q, stayed.words)
      by_cell Nursery q (inl was) =
          let origin = Contains-from_map (rewritten_at h made.forward) s.remembered was.cell was.among in
          let at : origin.0 ≡ q = ap (λ (c : Rewritten). c.place) origin.2 ∙ was.at in
          inl (
            (remembered_root s is q).1 (subst (λ (p : Place). Contains s.remembered p) at origin.1),
            was.words ∙ ap (λ (c : Rewritten). c.words) (sym origin.2) ∙ ap (λ (p : Place). image_of (from_space Nursery) h (new_place made.forward) (cell_at h p)) at,
          )
      by_cell Nursery q (inr stayed) =
          inr (
            λ root. stayed.apart (rewritten_at h made.forward q) (Contains-map (rewritten_at h made.forward) s.remembered q ((remembered_root s is q).0 root)) refl,
            stayed.words,
          )

  pub left : IsCollection kind h (roots_of kind s) made → (now : HeapState) → AreWritten (with_adopted s.table kind made.aged made.old) now.table (rewritten kind h made.forward s.remembered) → IsSpaceTable now.table → Drops s.payloads now.payloads (IsDeadKey kind h made.forward) →
      (later : List (ℕ × IndexedRow)) → AreFollowedTo kind s made now later → IsLeft kind s now later
  left collected now written table_now drops later follows =
      left_by kind s now is table made collected
      (record {
        after = after_written now.table table_now written;
        limits = written.limits;
        long = written.long ∙ adopted_length h made.aged made.old kind (let enough = table.enough in omega arith);
        others = written.others;
        payloads = dropped_keeps h (table_list s.table table) made.forward s.payloads is.graph kind now.payloads drops;
      })
      later follows
