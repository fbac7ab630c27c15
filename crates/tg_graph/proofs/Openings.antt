-- What the steps of an opening make of its cells.
use Rattle.std.proofs.Common.{[], ◌≡◌, ◌≢◌, ◌↔◌, ℕ, zero, suc, ◌+◌, ◌<◌, ◌≤◌, ◌⊎◌, inl, inr, ◌==◌, ◌&&◌, Bool, true, false, cond, if◌then◌else◌, List, ◌∷◌, ◌++◌, length, get_or, replicate, set, take, drop, Option, Some, None, IsSome, refl, sym, ap, subst, arith, ◌∙◌, ⊎_elim, drop-cons, length-take, add-one}
use Rattle.std.specs.Prelude.{nat_lt, slice_get, slice_index, slice_index_or}
use Rattle.std.specs.List.{All}
use Rattle.std.proofs.lemmas.Bool.{cases_Bool, cases_eq, cases_lt, eq-eqb, le-ltb, lt-ltb, ne_eqb}
use Rattle.std.proofs.lemmas.Bool.Decides.{eqb_tells}
use Rattle.std.proofs.lemmas.List.{get_or-replicate, get_or-set_same, get_or-set_other, get_or-take, get_or_past, get_or_read, get_or_append_left, get_or_push, length-replicate, length-set, length_push}
use Rattle.std.proofs.lemmas.List.Sums.{sum_by-cons}
use Rattle.std.proofs.lemmas.Option.{get_or_from_slice_get, slice_get-get_or, slice_get_within}
use Rattle.tg_rights.specs.RightSet.{RightSet, is_none_held, no_rights, union}
use Rattle.tg_rights.proofs.RightLaws.{none_held-same, union_assoc}
use Rattle.tg_model.specs.declared.edge.Edge.{Edge}
use Rattle.tg_model.specs.declared.value.Value.{Value}
use Rattle.tg_model.specs.Graph.{with_rights}
use Rattle.tg_model.specs.Opened.{IsPlan, JoinsWorkers, Plan, label_in, start_of}
use Rattle.tg_model.specs.Rules.{with_value}
use Rattle.tg_model.proofs.PlainLaws.{slice_get-push}
use Rattle.tg_model.proofs.ReachLaws.{lt-IsReachable}
use Rattle.tg_model.proofs.SoundLaws.{IsSound-start_of, joined_in}
use Rattle.tg_word.specs.declared.Place.{Place}
use Rattle.tg_word.specs.Word.{nursery_space}
use Rattle.tg_word.specs.declared.TheConstants.{MAX_NURSERIES}
use Rattle.tg_block.specs.Cells.{kind_of}
use Rattle.tg_block.specs.declared.CellKind.TheVariants.{Free, Object}
use Rattle.tg_space.specs.SpaceList.{SpaceList, BlockList, HasCell, IsSpaceList, block_count, blocks_before, space_of}
use Rattle.tg_space.specs.SpaceTable.{SpaceTable, BlockLimits, IsSpaceTable, no_blocks}
use Rattle.tg_space.specs.Soundness.{AreSound, HasLayout, IsKindAt}
use Rattle.tg_space.proofs.Flat.{before_le, before_more}
use Rattle.tg_space.proofs.Tables.{table_list}
use Rattle.tg_payload.specs.Table.{Payloads, entry}
use Rattle.tg_rows.specs.Content.{IsNamed}
use Rattle.tg_rows.specs.Graph.{content_in, IsGraph}
use Rattle.tg_rows.specs.declared.cells.Cells.{Cells}
use Rattle.tg_graph.specs.Opened.{HasBlocks, HasNoBlocks, IsOpened, Relabels, labels_before, labels_in, no_labels, with_row}
use Rattle.tg_rows.specs.Rows.{IsVertexAt}
use Rattle.tg_graph.specs.Standing.{IsContentOf}
use Rattle.tg_rows.specs.Steps.{ChangesTo}
use Rattle.tg_rows.proofs.Changed.{becomes_then}
use Rattle.tg_rows.proofs.Growing.{becomes_from, changes}
use Rattle.tg_rows.proofs.Lookups.{content_from, label_is, value_is}
use Rattle.tg_rows.proofs.Places.{sound_from_places}

-- ---- edges, read into a row

-- one more edge
pub row_step : (edges : List Edge) (from k : ℕ) (edge : Edge) (row after : List RightSet) (y : ℕ) → k < length edges → edge ≡ get_or edges k edge →
    ((from ≡ edge.from) × (edge.to < length row) × (after ≡ set row edge.to (union (slice_index_or row edge.to no_rights) edge.label))) ⊎ ((from ≢ edge.from) × (after ≡ row)) →
    union (slice_index_or row y no_rights) (label_in (drop k edges) from y) ≡ label_in edges from y →
    union (slice_index_or after y no_rights) (label_in (drop (k + 1) edges) from y) ≡ label_in edges from y
row_step edges from k edge row after y inside is step before = by_step step
  where
    rest : RightSet
    rest = label_in (drop (k + 1) edges) from y

    split : label_in (drop k edges) from y ≡ (if (from == edge.from) && (y == edge.to) then union edge.label rest else rest)
    split =
        let next : suc k ≡ k + 1 = sym (add-one k) in
        ap (λ es. label_in es from y) (drop-cons edges k edge inside ∙ ap (λ e. e ∷ drop (suc k) edges) (sym is) ∙ ap (λ n. edge ∷ drop n edges) next)

    by_step : ((from ≡ edge.from) × (edge.to < length row) × (after ≡ set row edge.to (union (slice_index_or row edge.to no_rights) edge.label))) ⊎ ((from ≢ edge.from) × (after ≡ row)) →
        union (slice_index_or after y no_rights) rest ≡ label_in edges from y
    by_step (inr other) =
        let test : (from == edge.from) ≡ false = ne_eqb from edge.from other.0 in
        let none : label_in (drop k edges) from y ≡ rest = split ∙ rw test refl in
        ap (λ (r : List RightSet). union (slice_index_or r y no_rights) rest) (other.1) ∙ ap (union (slice_index_or row y no_rights)) (sym none) ∙ before
    by_step (inl here) = by_name (cases_eq y edge.to)
      where
        test : (from == edge.from) ≡ true
        test = eq-eqb from edge.from here.0

        by_name : (y ≡ edge.to) ⊎ (y ≢ edge.to) → union (slice_index_or after y no_rights) rest ≡ label_in edges from y
        by_name (inl same) =
            let named : (y == edge.to) ≡ true = eq-eqb y edge.to same in
            let more : label_in (drop k edges) from y ≡ union edge.label rest = split ∙ rw test (rw named refl) in
            let at : slice_index_or after y no_rights ≡ union (slice_index_or row y no_rights) edge.label =
            subst (λ z. slice_index_or after z no_rights ≡ union (slice_index_or row z no_rights) edge.label) (sym same)
            (ap (λ (r : List RightSet). slice_index_or r edge.to no_rights) here.2 ∙ get_or-set_same row edge.to (union (slice_index_or row edge.to no_rights) edge.label) no_rights here.1) in
            ap (λ r. union r rest) at ∙ union_assoc (slice_index_or row y no_rights) edge.label rest ∙ ap (union (slice_index_or row y no_rights)) (sym more) ∙ before
        by_name (inr ne) =
            let named : (y == edge.to) ≡ false = ne_eqb y edge.to ne in
            let none : label_in (drop k edges) from y ≡ rest = split ∙ rw test (rw named refl) in
            let at : slice_index_or after y no_rights ≡ slice_index_or row y no_rights =
            ap (λ (r : List RightSet). slice_index_or r y no_rights) here.2 ∙ get_or-set_other row edge.to y (union (slice_index_or row edge.to no_rights) edge.label) no_rights ne in
            ap (λ r. union r rest) at ∙ ap (union (slice_index_or row y no_rights)) (sym none) ∙ before

-- ---- blocks

-- where no space has a block, there is none
pub no_count : (h : SpaceList) → ((space : ℕ) → space_of h space ≡ []) → block_count h ≡ 0
no_count [] none = refl
no_count (x ∷ h) none =
    let here : length x ≡ 0 = ap (λ (blocks : BlockList). length blocks) (none 0) in
    omega (arith, sum_by-cons (λ (blocks : BlockList). length blocks) x h, here, no_count h (λ space. none (suc space)))

-- nor a cell
pub no_cell : (h : SpaceList) → ((space : ℕ) → space_of h space ≡ []) → (p : Place) → HasCell h p → ⊥
no_cell h none p held =
    let low : p.block < length {A = List (List ℕ)} [] = subst (λ (blocks : BlockList). p.block < length blocks) (none p.space) held.block in
    omega (arith, low)

-- spaces as they are made have none
pub none_made : (nurseries : ℕ) (limits : BlockLimits) → HasNoBlocks (no_blocks nurseries limits)
none_made nurseries limits = record {
  blocks = λ space. at {X = BlockList} [] space (cases_lt space (nursery_space nurseries));
  unused = λ space. at {X = ℕ} 0 space (cases_lt space (nursery_space nurseries));
}
  where
    at : {X : Type 0} (x : X) (space : ℕ) → (space < nursery_space nurseries) ⊎ (nursery_space nurseries ≤ space) → get_or (replicate (nursery_space nurseries) x) space x ≡ x
    at x space (inl low) = get_or-replicate (nursery_space nurseries) space x x low
    at x space (inr high) = get_or_past (replicate (nursery_space nurseries) x) space x (omega (arith, length-replicate (nursery_space nurseries) x, high))

-- spaces with as many blocks each have as many in all
same_count : (a b : SpaceList) → length b ≡ length a → ((space : ℕ) → length (space_of b space) ≡ length (space_of a space)) → block_count b ≡ block_count a
same_count [] [] long same = refl
same_count [] (y ∷ b) long same = absurd (omega arith)
same_count (x ∷ a) [] long same = absurd (omega arith)
same_count (x ∷ a) (y ∷ b) long same =
    omega (arith, sum_by-cons (λ (blocks : BlockList). length blocks) x a, sum_by-cons (λ (blocks : BlockList). length blocks) y b, same 0, same_count a b (omega arith) (λ space. same (suc space)))

-- nurseries with a block each have at least one for each worker, so at most as many is as many
count_workers : (h : SpaceList) (workers : ℕ) → workers + 2 ≤ length h → ((x : ℕ) → x < workers → 1 ≤ length (space_of h (x + 2))) → (x : ℕ) → x ≤ workers → x ≤ blocks_before h (x + 2)
count_workers h workers long some zero le = omega arith
count_workers h workers long some (suc x) le =
    let low : x + 2 < length h = omega arith in
    let next : blocks_before h (suc x + 2) ≡ blocks_before h (x + 2 + 1) = ap (blocks_before h) (omega arith) in
    omega (arith, count_workers h workers long some x (omega arith), before_more h (x + 2) low, some x (omega arith), next)

count_exact : (h : SpaceList) (workers : ℕ) → workers + 2 ≤ length h → ((x : ℕ) → x < workers → 1 ≤ length (space_of h (x + 2))) → block_count h ≤ workers → block_count h ≡ workers
count_exact h workers long some few =
    let least = count_workers h workers long some workers (omega arith) in
    omega (arith, least, before_le h (workers + 2))

-- ---- one change after the other

pub changes_then : (t mid after : SpaceTable) (first second : Payloads) (named1 named2 named : ℕ → Type 0) (label1 label2 label : ℕ → ℕ → RightSet) (value1 value2 value : ℕ → Option Value) →
    ChangesTo t mid first named1 label1 value1 → ChangesTo mid after second named2 label2 value2 →
    ((x : ℕ) → named2 x ↔ named x) → ((x y : ℕ) → label2 x y ≡ label x y) → ((x : ℕ) → value2 x ≡ value x) → ChangesTo t after second named label value
changes_then t mid after first second named1 named2 named label1 label2 label value1 value2 value one two names labels values =
    changes t after second named label value
    (becomes_then t.spaces mid.spaces after.spaces first second named1 named2 named label1 label2 label value1 value2 value (becomes_from t mid first named1 label1 value1 one) (becomes_from mid after second named2 label2 value2 two) names labels values)
    (two.spaces ∙ one.spaces) (two.limits ∙ one.limits)

-- other labels that say the same
pub changes_relabel : (t after : SpaceTable) (payloads : Payloads) (named : ℕ → Type 0) (label other : ℕ → ℕ → RightSet) (value : ℕ → Option Value) → ((a b : ℕ) → label a b ≡ other a b) → ChangesTo t after payloads named label value → ChangesTo t after payloads named other value
changes_relabel t after payloads named label other value same to = record {
  graph = to.graph;
  content = record { names = to.content.names; labels = λ x y. to.content.labels x y ∙ same x y; values = to.content.values };
  vertices = to.vertices;
  spaces = to.spaces;
  limits = to.limits;
}

-- a change of labels, where the content before was one of labels too
pub changes_more : (t mid after : SpaceTable) (payloads : Payloads) (label1 label : ℕ → ℕ → RightSet) (f : (ℕ → ℕ → RightSet) → ℕ → ℕ → RightSet) →
    ChangesTo t mid payloads (IsNamed (content_in t.spaces payloads)) label1 (content_in t.spaces payloads).value →
    ChangesTo mid after payloads (IsNamed (content_in mid.spaces payloads)) (f (content_in mid.spaces payloads).label) (content_in mid.spaces payloads).value →
    ((a b : ℕ) → f label1 a b ≡ label a b) → ChangesTo t after payloads (IsNamed (content_in t.spaces payloads)) label (content_in t.spaces payloads).value
changes_more t mid after payloads label1 label f one two same =
    let c = content_in t.spaces payloads in
    let m = content_in mid.spaces payloads in
    let labels : m.label ≡ label1 = label_is m (IsNamed c) label1 c.value one.content in
    changes_then t mid after payloads payloads (IsNamed c) (IsNamed m) (IsNamed c) label1 (f m.label) label c.value m.value c.value one two one.content.names
    (λ a b. ap (λ (l : ℕ → ℕ → RightSet). f l a b) labels ∙ same a b) one.content.values

-- the same of the cells that hold them
module _ {P : Type 0} (old : Cells P) where
  pub relabels_none : (label : ℕ → ℕ → RightSet) → IsGraph old.spaces.spaces old.payloads → ((a b : ℕ) → labels_in old a b ≡ label a b) → Relabels old old label
  relabels_none label graph same = record {
    changed = record { graph = graph; content = record { names = λ x. (λ is. is, λ is. is); labels = same; values = λ x. refl }; vertices = λ x p is. is; spaces = refl; limits = refl };
    payloads = refl;
    blocks = λ space. refl;
    remembered = λ before. before;
  }

  pub relabels_to : (new : Cells P) (label other : ℕ → ℕ → RightSet) → ((a b : ℕ) → label a b ≡ other a b) → Relabels old new label → Relabels old new other
  relabels_to new label other same to = record {
    changed = let content = content_in old.spaces.spaces old.payloads in changes_relabel old.spaces new.spaces old.payloads (IsNamed content) label other content.value same to.changed;
    payloads = to.payloads;
    blocks = to.blocks;
    remembered = to.remembered;
  }

  pub relabels_more : (mid new : Cells P) (label1 label : ℕ → ℕ → RightSet) (f : (ℕ → ℕ → RightSet) → ℕ → ℕ → RightSet) → Relabels old mid label1 → Relabels mid new (f (labels_in mid)) → ((a b : ℕ) → f label1 a b ≡ label a b) → Relabels old new label
  relabels_more mid new label1 label f one two same =
      let Step : Payloads → Type 0 = λ s. ChangesTo mid.spaces new.spaces s (IsNamed (content_in mid.spaces.spaces s)) (f (content_in mid.spaces.spaces s).label) (content_in mid.spaces.spaces s).value in
      record {
        changed = changes_more old.spaces mid.spaces new.spaces old.payloads label1 label f one.changed (subst Step one.payloads two.changed) same;
        payloads = two.payloads ∙ one.payloads;
        blocks = λ space. two.blocks space ∙ one.blocks space;
        remembered = λ formed. two.remembered (one.remembered formed);
      }

-- ---- rows of rights

-- one more edge of a row
pub with_row-more : (label : ℕ → ℕ → RightSet) (from : ℕ) (row : List RightSet) (k : ℕ) (r : RightSet) → k < length row → r ≡ get_or row k r → (a b : ℕ) → with_rights (with_row label from (take k row)) from k r a b ≡ with_row label from (take (k + 1) row) a b
with_row-more label from row k r inside is a b = by_names (eqb_tells a from) (cases_eq b k)
  where
    here : r ≡ slice_index_or row k no_rights
    here = get_or_read row k r inside is no_rights

    other : b ≢ k → slice_index_or (take k row) b no_rights ≡ slice_index_or (take (k + 1) row) b no_rights
    other ne = by_order (cases_lt b k)
      where
        by_order : (b < k) ⊎ (k ≤ b) → slice_index_or (take k row) b no_rights ≡ slice_index_or (take (k + 1) row) b no_rights
        by_order (inl low) = get_or-take k row b no_rights low ∙ sym (get_or-take (k + 1) row b no_rights (omega arith))
        by_order (inr high) =
            get_or_past (take k row) b no_rights (omega (arith, length-take k row)) ∙ sym (get_or_past (take (k + 1) row) b no_rights (omega (arith, length-take (k + 1) row)))

    by_names : (((a == from) ≡ true) × (a ≡ from)) ⊎ (((a == from) ≡ false) × (a ≢ from)) → (b ≡ k) ⊎ (b ≢ k) → with_rights (with_row label from (take k row)) from k r a b ≡ with_row label from (take (k + 1) row) a b
    by_names (inl one) (inl same) =
        let test : (b == k) ≡ true = eq-eqb b k same in
        let past : slice_index_or (take k row) b no_rights ≡ no_rights = get_or_past (take k row) b no_rights (omega (arith, length-take k row)) in
        let at : slice_index_or (take (k + 1) row) b no_rights ≡ r = get_or-take (k + 1) row b no_rights (omega arith) ∙ ap (λ n. slice_index_or row n no_rights) same ∙ sym here in
        rw (one.0, test) (ap (λ s. union s r) past ∙ sym at)
    by_names (inl one) (inr ne) = let test : (b == k) ≡ false = ne_eqb b k ne in rw (one.0, test) (other ne)
    by_names (inr one) _ = rw (one.0) refl

-- the rows of one more worker
pub labels_before-more : (edges : List Edge) (from : ℕ) (row : List RightSet) → ((y : ℕ) → slice_index_or row y no_rights ≡ label_in edges from y) → (a b : ℕ) → with_row (labels_before edges from) from row a b ≡ labels_before edges (from + 1) a b
labels_before-more edges from row reads a b = by_name (eqb_tells a from)
  where
    by_name : (((a == from) ≡ true) × (a ≡ from)) ⊎ (((a == from) ≡ false) × (a ≢ from)) → with_row (labels_before edges from) from row a b ≡ labels_before edges (from + 1) a b
    by_name (inl one) =
        let same = one.1 in
        let test : nat_lt a (from + 1) ≡ true = lt-ltb a (from + 1) (omega arith) in
        rw (one.0, test) (reads b ∙ ap (λ n. label_in edges n b) (sym same))
    by_name (inr one) =
        let ne = one.1 in
        let test : nat_lt a from ≡ nat_lt a (from + 1) = ⊎_elim (λ low. lt-ltb a from low ∙ sym (lt-ltb a (from + 1) (omega arith))) (λ high. le-ltb a from high ∙ sym (le-ltb a (from + 1) (omega arith))) (cases_lt a from) in
        rw (one.0) (ap (λ (t : Bool). cond t (label_in edges a b) no_rights) test)

-- all rows
pub labels_before-all : (edges : List Edge) (n : ℕ) → All (JoinsWorkers n) edges → (a b : ℕ) → labels_before edges n a b ≡ label_in edges a b
labels_before-all edges n all a b = by_order (cases_lt a n)
  where
    by_order : (a < n) ⊎ (n ≤ a) → labels_before edges n a b ≡ label_in edges a b
    by_order (inl low) = let test : nat_lt a n ≡ true = lt-ltb a n low in rw test refl
    by_order (inr high) =
        let test : nat_lt a n ≡ false = le-ltb a n high in
        rw test (by_rights (cases_Bool (is_none_held (label_in edges a b))))
      where
        by_rights : (is_none_held (label_in edges a b) ≡ true) ⊎ (is_none_held (label_in edges a b) ≡ false) → no_rights ≡ label_in edges a b
        by_rights (inl none) = sym (none_held-same (label_in edges a b) none)
        by_rights (inr some) = let ends = (joined_in n edges all).ends a b some in let low = ends.0 in absurd (omega arith)

-- no vertex has rights over itself
pub row_no_loop : (edges : List Edge) (n x : ℕ) → All (JoinsWorkers n) edges → label_in edges x x ≡ no_rights
row_no_loop edges n x all = (joined_in n edges all).no_loop x

-- ---- cells with no vertex

pub nothing_opened : (t : SpaceTable) (payloads : Payloads) (workers : ℕ) (limits : BlockLimits) → workers ≤ MAX_NURSERIES → HasBlocks t workers limits → IsSpaceTable t → payloads.entries ≡ [] → IsOpened t payloads [] workers limits no_labels []
nothing_opened t payloads workers limits few has table empty = record {
  graph = record {
    sound = sound;
    ends = λ p object. absurd (no_object p object);
    targets = λ p object. absurd (no_object p object);
    names = λ p q object. absurd (no_object p object);
    keys = λ p q object. absurd (no_object p object);
    payloads_used = λ key. (λ some. absurd (no_payload key some), λ at. absurd (no_object at.0 at.1));
  };
  content = content_from t.spaces payloads is (λ x. x < 0) no_labels (slice_get [])
      (record {
        vertex = λ x p vertex. absurd (no_object p vertex.object);
        at = λ x low. absurd (omega arith);
        labels = λ x p vertex. absurd (no_object p vertex.object);
        values = λ x p vertex. absurd (no_object p vertex.object);
        no_label = λ x y none. refl;
        no_value = λ x none. refl;
      });
  vertices = λ x p at. absurd (no_place x p at);
  spaces = has.spaces;
  limits_kept = has.limits_kept;
  blocks = has.blocks;
  all = count_exact t.spaces workers (let many = has.spaces in omega (arith, few, many)) has.blocks has.few;
  old = has.old;
}
  where
    is : IsSpaceList t.spaces
    is = table_list t table

    no_object : (p : Place) → IsKindAt t.spaces Object p → ⊥
    no_object p object = let one : Free ≡ Object = ap kind_of (sym (has.free p object.held)) ∙ object.is in cc

    no_payload : (key : ℕ) → IsSome {T = Value} (entry payloads key) → ⊥
    no_payload key some =
        let none : IsSome {T = Value} None = subst (λ (es : List (Option Value)). IsSome {T = Value} (slice_index_or es key None)) empty some in cc

    no_place : (x : ℕ) (p : Place) → slice_get ([]) x ≡ Some p → ⊥
    no_place x p at = let low = slice_get_within [] x p at in omega arith

    sound : AreSound t.spaces []
    sound =
        sound_from_places t.spaces is (λ p held. subst (HasLayout t.spaces) (sym (has.free p held)) tt)
        (λ p q held_p held_q some. absurd (some (ap (λ (ws : List ℕ). slice_index ws 7) (has.free p held_p))))

-- ---- one more worker

one_more_placed : (t after : SpaceTable) (payloads new : Payloads) (places more : List Place) (workers : ℕ) (limits : BlockLimits) (values : List Value) (value : Value) (p : Place) → IsOpened t payloads places workers limits no_labels values → length places ≡ length values →
    ChangesTo t after new (λ x. IsNamed (content_in t.spaces payloads) x ⊎ (x ≡ length places)) (content_in t.spaces payloads).label (with_value (content_in t.spaces payloads).value (length places) value) →
    IsVertexAt after.spaces (length places) p → ((space : ℕ) → length (space_of after.spaces space) ≡ length (space_of t.spaces space)) → more ≡ places ++ p ∷ [] → IsOpened after new more workers limits no_labels (values ++ value ∷ [])
one_more_placed t after payloads new places more workers limits values value p opened long to vertex blocks same =
    subst (λ (ps : List Place). IsOpened after new ps workers limits no_labels (values ++ value ∷ [])) (sym same)
    (record {
      graph = to.graph;
      content = record {
        names = λ x. (
          λ n. ⊎_elim (λ old. let low = (opened.content.names x).0 old in let e = length_push places p in omega (arith, low, e)) (λ new_name. let e = length_push places p in omega (arith, new_name, e)) ((to.content.names x).0 n),
          λ low. let e = length_push places p in
              (to.content.names x).1 (⊎_elim (λ below. inl ((opened.content.names x).1 below)) (λ at. inr at) (last_or_below x (length places) (omega (arith, low, e)))),
        );
        labels = λ x y. to.content.labels x y ∙ opened.content.labels x y;
        values = λ x. to.content.values x ∙ ap (λ (f : ℕ → Option Value). with_value f (length places) value x) values_are
            ∙ ap (λ n. with_value (slice_get values) n value x) long ∙ sym (slice_get-push values value x);
      };
      vertices = λ x q at. by_place x q at (cases_lt x (length places));
      spaces = let many = opened.spaces in let same = to.spaces in omega (arith, many, same);
      limits_kept = to.limits ∙ opened.limits_kept;
      blocks = λ x low. let e = blocks (nursery_space x) in let b = opened.blocks x low in omega (arith, e, b);
      all = same_count t.spaces after.spaces to.spaces blocks ∙ opened.all;
      old = blocks 0 ∙ opened.old;
    })
  where
    values_are : (content_in t.spaces payloads).value ≡ slice_get values
    values_are = value_is (content_in t.spaces payloads) (λ x. x < length places) no_labels (slice_get values) opened.content

    last_or_below : (x n : ℕ) → x < n + 1 → (x < n) ⊎ (x ≡ n)
    last_or_below x n low = ⊎_elim (λ below. inl below) (λ high. inr (omega arith)) (cases_lt x n)

    by_place : (x : ℕ) (q : Place) → slice_get (places ++ p ∷ []) x ≡ Some q → (x < length places) ⊎ (length places ≤ x) → IsVertexAt after.spaces x q
    by_place x q at (inl low) =
        let read : get_or places x q ≡ q = sym (get_or_append_left places (p ∷ []) q x low) ∙ get_or_from_slice_get (places ++ p ∷ []) x q q at in
        let old : slice_get places x ≡ Some q = slice_get-get_or places x q low ∙ ap Some read in
        to.vertices x q (opened.vertices x q old)
    by_place x q at (inr high) =
        let inside = slice_get_within (places ++ p ∷ []) x q at in
        let e = length_push places p in
        let last : x ≡ length places = omega (arith, inside, e, high) in
        let here : q ≡ p = sym (get_or_from_slice_get (places ++ p ∷ []) x q q at) ∙ get_or_push places p q x (sym last) in
        subst (λ r. IsVertexAt after.spaces x r) (sym here) (subst (λ n. IsVertexAt after.spaces n p) (sym last) vertex)

pub one_more_opened : (t after : SpaceTable) (payloads new : Payloads) (places more : List Place) (workers : ℕ) (limits : BlockLimits) (values : List Value) (value : Value) (p : Place) (name : ℕ) → IsOpened t payloads places workers limits no_labels values → length places ≡ length values → name ≡ length places →
    ChangesTo t after new (λ x. IsNamed (content_in t.spaces payloads) x ⊎ (x ≡ name)) (content_in t.spaces payloads).label (with_value (content_in t.spaces payloads).value name value) →
    IsVertexAt after.spaces name p → ((space : ℕ) → length (space_of after.spaces space) ≡ length (space_of t.spaces space)) → more ≡ places ++ p ∷ [] → IsOpened after new more workers limits no_labels (values ++ value ∷ [])
one_more_opened t after payloads new places more workers limits values value p name opened long named to vertex blocks same =
    one_more_placed t after payloads new places more workers limits values value p opened long
    (subst (λ n. ChangesTo t after new (λ x. IsNamed (content_in t.spaces payloads) x ⊎ (x ≡ n)) (content_in t.spaces payloads).label (with_value (content_in t.spaces payloads).value n value)) named to)
    (subst (λ n. IsVertexAt after.spaces n p) named vertex) blocks same

-- one more cell is counted
pub used_more : (us : List ℕ) (i j : ℕ) → get_or (set us i (get_or us i 0 + 1)) j 0 ≤ get_or us j 0 + 1
used_more us i j = by_number (cases_eq j i) (cases_lt i (length us))
  where
    by_number : (j ≡ i) ⊎ (j ≢ i) → (i < length us) ⊎ (length us ≤ i) → get_or (set us i (get_or us i 0 + 1)) j 0 ≤ get_or us j 0 + 1
    by_number (inl same) (inl low) =
        subst (λ n. get_or (set us i (get_or us i 0 + 1)) n 0 ≤ get_or us n 0 + 1) (sym same) (let e = get_or-set_same us i (get_or us i 0 + 1) 0 low in omega (arith, e))
    by_number (inl same) (inr high) =
        let kept : length (set us i (get_or us i 0 + 1)) ≡ length us = length-set us i (get_or us i 0 + 1) in
        let none = get_or_past (set us i (get_or us i 0 + 1)) j 0 (omega (arith, kept, high, same)) in
        omega (arith, none)
    by_number (inr ne) _ = let e = get_or-set_other us i j (get_or us i 0 + 1) 0 ne in omega (arith, e)

-- ---- the edges of all workers

pub edges_opened : (t after : SpaceTable) (payloads : Payloads) (places : List Place) (workers : ℕ) (limits : BlockLimits) (label : ℕ → ℕ → RightSet) (values : List Value) → IsOpened t payloads places workers limits no_labels values →
    ChangesTo t after payloads (IsNamed (content_in t.spaces payloads)) label (content_in t.spaces payloads).value → ((space : ℕ) → length (space_of after.spaces space) ≡ length (space_of t.spaces space)) → IsOpened after payloads places workers limits label values
edges_opened t after payloads places workers limits label values opened to blocks = record {
  graph = to.graph;
  content = record {
    names = λ x. (λ n. (opened.content.names x).0 ((to.content.names x).0 n), λ low. (to.content.names x).1 ((opened.content.names x).1 low));
    labels = to.content.labels;
    values = λ x. to.content.values x ∙ opened.content.values x;
  };
  vertices = λ x p at. to.vertices x p (opened.vertices x p at);
  spaces = let many = opened.spaces in let same = to.spaces in omega (arith, many, same);
  limits_kept = to.limits ∙ opened.limits_kept;
  blocks = λ x low. let a = blocks (nursery_space x) in let b = opened.blocks x low in omega arith;
  all = same_count t.spaces after.spaces to.spaces blocks ∙ opened.all;
  old = blocks 0 ∙ opened.old;
}

-- ---- the heap

pub opened_stands : (p : Plan) → IsPlan p → (t : SpaceTable) (payloads : Payloads) (places : List Place) (limits : BlockLimits) → IsOpened t payloads places p.workers limits (label_in p.edges) p.values → length places ≡ p.workers → IsContentOf (content_in t.spaces payloads) (start_of p)
opened_stands p is t payloads places limits opened long =
    let sound = IsSound-start_of p is in
    let low_from = λ (x : ℕ) (named : IsNamed (content_in t.spaces payloads) x). let low = (opened.content.names x).0 named in let e = long in let below : x < p.workers = omega arith in below in
    let named_from = λ (x : ℕ) (low : x < p.workers). (opened.content.names x).1 (let e = long in omega arith) in
    record {
      made = low_from;
      reachable = λ x reach. named_from x (lt-IsReachable (start_of p) sound x reach);
      closed = λ x y named edge. named_from y (sound.ends_made x y edge).1;
      labels = λ x y named. opened.content.labels x y;
      values = λ x named. opened.content.values x;
    }
