-- What a snapshot shows of the vertices that an audit keeps: values and labels of those of some names, in lists that rise.
use mathlib.Core.Bool.{true≢false}
use Rattle.std.proofs.Common.{◌≡◌, ◌⊎◌, inl, inr, ⊎_elim, ◌+◌, ◌<◌, ◌≤◌, ◌==◌, ◌&&◌, ◌++◌, ◌∷◌, [], ℕ, Bool, true, false, cond, List, append_assoc, append-nil, Option, Some, None, refl, sym, ap, ◌∙◌, arith}
use Rattle.std.specs.Prelude.{EachIndex, IsTrue}
use Rattle.std.specs.List.{All}
use Rattle.std.proofs.lemmas.Bool.{eqb-true, ne_eqb, cond-false, cases_lt}
use Rattle.std.proofs.lemmas.List.Elements.{All-head, All-tail, All-cons, All-nil}
use Rattle.tg_rights.specs.RightSet.{RightSet, no_rights, union, is_none_held}
use Rattle.tg_rights.proofs.RightLaws.{union_none}
use Rattle.tg_model.specs.declared.edge.Edge.{Edge}
use Rattle.tg_model.specs.declared.value.Value.{Value}
use Rattle.tg_model.specs.Opened.{label_in}
use Rattle.tg_model.specs.Plain.{Edges, IsRisingRow, RisesFrom, rights_in_row}
use Rattle.tg_model.proofs.RowLaws.{none_before}
use Rattle.tg_snapshot.specs.declared.vertex.ShownVertex.{ShownVertex}
use Rattle.tg_snapshot.specs.Snapshot.{ComesAfter, EdgePrecedes, NamePrecedes, value_shown}
use Rattle.tg_snapshot.proofs.RisingLaws.{RiseFrom, RiseAfter, Rises, edges_follow, names_follow}
use Rattle.tg_journal.specs.declared.vertices.Vertex.{Vertex}
use Rattle.tg_journal.specs.Inner.Showing.{edges_from, shown_if_stored}
use Rattle.tg_journal.specs.Live.{NamesFrom, at_name, label_between, value_of}

-- ---- lists of some vertices

-- what the vertices of some names have, one after the other
abbrev pub among : {X : Type 0} → (Vertex → List X) → (ℕ → Bool) → List Vertex → List X
among of names [] = []
among of names (v ∷ vs) = cond (names v.name) (of v ++ among of names vs) (among of names vs)

module _ {X : Type 0} (of : Vertex → List X) (names : ℕ → Bool) where
  chosen : (b : Bool) (this rest more : List X) → cond b (this ++ (rest ++ more)) (rest ++ more) ≡ cond b (this ++ rest) rest ++ more
  chosen true this rest more = sym (append_assoc this rest more)
  chosen false this rest more = refl

  alone : (b : Bool) (this : List X) → cond b (this ++ []) [] ≡ cond b this []
  alone true this = append-nil this
  alone false this = refl

  -- one vertex more
  pub among-push : (vs : List Vertex) (w : Vertex) → among of names (vs ++ w ∷ []) ≡ among of names vs ++ cond (names w.name) (of w) []
  among-push [] w = alone (names w.name) (of w)
  among-push (v ∷ vs) w =
      ap (λ (rest : List X). cond (names v.name) (of v ++ rest) rest) (among-push vs w)
      ∙ chosen (names v.name) (of v) (among of names vs) (cond (names w.name) (of w) [])

abbrev pub shown_among : (ℕ → Bool) → List Vertex → List ShownVertex
shown_among = among (λ v. shown_if_stored v.name v.value)

abbrev pub edges_among : (ℕ → Bool) → List Vertex → List Edge
edges_among = among (λ v. edges_from v.name v.row)

pub edges_from-push : (name : ℕ) (row : Edges) (e : ℕ × RightSet) → edges_from name (row ++ e ∷ []) ≡ edges_from name row ++ (record { from = name; to = e.0; label = e.1 } ∷ [])
edges_from-push name [] e = refl
edges_from-push name (f ∷ row) e = ap (λ (rest : List Edge). record { from = name; to = f.0; label = f.1 } ∷ rest) (edges_from-push name row e)

-- ---- what is found in them

below : {X : Type 0} (of : Vertex → X) (none : X) (n : ℕ) (vs : List Vertex) (x : ℕ) → NamesFrom n vs → x < n → at_name of none vs x ≡ none
below of none n [] x rise less = refl
below of none n (v ∷ vs) x rise less =
    cond-false (x == v.name) (of v) (at_name of none vs x) (ne_eqb x v.name (λ same. omega (arith, same, rise.0, less)))
    ∙ below of none (v.name + 1) vs x rise.1 (omega (arith, rise.0, less))

turned : {A B : Type 0} (f : A → B) (b : Bool) (p q : A) (r : B) → (b ≡ true → f p ≡ r) → f (cond b p q) ≡ cond b r (f q)
turned f true p q r is = is refl
turned f false p q r is = refl

neither : {X : Type 0} (b : Bool) (none : X) → none ≡ cond b none none
neither true none = refl
neither false none = refl

-- a vertex before the rest: the name is its name, or isn't
step : {X : Type 0} (join : X → X → X) (none s : X) → join s none ≡ s → (here known keep : Bool) (v rest : X) → (here ≡ true → keep ≡ known) → (here ≡ true → v ≡ none) → rest ≡ cond known v none → cond keep (cond here (join s rest) rest) rest ≡ cond known (cond here s v) none
step join none s unit true true true v rest same absent next = ap (join s) (next ∙ absent refl) ∙ unit
step join none s unit true true false v rest same absent next = absurd (true≢false (sym (same refl)))
step join none s unit true false true v rest same absent next = absurd (true≢false (same refl))
step join none s unit true false false v rest same absent next = next
step join none s unit false known keep v rest same absent next = sym (neither keep rest) ∙ next

abbrev or_else : Option Value → Option Value → Option Value
or_else None rest = rest
or_else (Some value) rest = Some value

or_else_none : (o : Option Value) → or_else o None ≡ o
or_else_none None = refl
or_else_none (Some value) = refl

shown_before : (name : ℕ) (o : Option Value) (rest : List ShownVertex) (y : ℕ) → value_shown (shown_if_stored name o ++ rest) y ≡ cond (y == name) (or_else o (value_shown rest y)) (value_shown rest y)
shown_before name None rest y = neither (y == name) (value_shown rest y)
shown_before name (Some value) rest y = refl

row_step : (here at : Bool) (l r rest : RightSet) → (at ≡ true → r ≡ no_rights) → cond (here && at) (union l (cond here (union r rest) rest)) (cond here (union r rest) rest) ≡ cond here (union (cond at l r) rest) rest
row_step true true l r rest none = ap (λ (s : RightSet). union l (union s rest)) (none refl)
row_step true false l r rest none = refl
row_step false at l r rest none = refl

labels_before : (n name : ℕ) (row : Edges) (rest : List Edge) (x y : ℕ) → RisesFrom n row → label_in (edges_from name row ++ rest) x y ≡ cond (x == name) (union (rights_in_row row y) (label_in rest x y)) (label_in rest x y)
labels_before n name [] rest x y rises = neither (x == name) (label_in rest x y)
labels_before n name (e ∷ row) rest x y rises =
    ap (λ (s : RightSet). cond ((x == name) && (y == e.0)) (union e.1 s) s) (labels_before (e.0 + 1) name row rest x y rises.2)
    ∙ row_step (x == name) (y == e.0) e.1 (rights_in_row row y) (label_in rest x y)
    (λ at. none_before (e.0 + 1) row y rises.2 (let same = eqb-true y e.0 at in omega (arith, same)))

module _ (names : ℕ → Bool) where
  -- the rows of these vertices rise
  abbrev pub RowsRise : List Vertex → Type 0
  RowsRise vs = All (λ (v : Vertex). IsTrue (names v.name) → IsRisingRow v.row) vs

  abbrev RowRises : Vertex → Type 0
  RowRises v = IsTrue (names v.name) → IsRisingRow v.row

  pub values_among : (n : ℕ) (vs : List Vertex) (y : ℕ) → NamesFrom n vs → value_shown (shown_among names vs) y ≡ cond (names y) (value_of vs y) None
  values_among n [] y rise = neither (names y) None
  values_among n (v ∷ vs) y rise =
      turned (λ (shown : List ShownVertex). value_shown shown y) (names v.name) (shown_if_stored v.name v.value ++ shown_among names vs) (shown_among names vs) _
      (λ kept. shown_before v.name v.value (shown_among names vs) y)
      ∙ step or_else None v.value (or_else_none v.value) (y == v.name) (names y) (names v.name) (value_of vs y) (value_shown (shown_among names vs) y)
      (λ here. ap names (sym (eqb-true y v.name here)))
      (λ here. below (λ v. v.value) None (v.name + 1) vs y rise.1 (let same = eqb-true y v.name here in omega (arith, same)))
      (values_among (v.name + 1) vs y rise.1)

  pub labels_among : (n : ℕ) (vs : List Vertex) (x y : ℕ) → NamesFrom n vs → RowsRise vs → label_in (edges_among names vs) x y ≡ cond (names x) (label_between vs x y) no_rights
  labels_among n [] x y rise rows = neither (names x) no_rights
  labels_among n (v ∷ vs) x y rise rows =
      turned (λ (edges : List Edge). label_in edges x y) (names v.name) (edges_from v.name v.row ++ edges_among names vs) (edges_among names vs) _
      (λ kept. labels_before 0 v.name v.row (edges_among names vs) x y (All-head RowRises v vs rows kept))
      ∙ step union no_rights (rights_in_row v.row y) (union_none (rights_in_row v.row y)) (x == v.name) (names x) (names v.name) (label_between vs x y) (label_in (edges_among names vs) x y)
      (λ here. ap names (sym (eqb-true x v.name here)))
      (λ here. below (λ v. rights_in_row v.row y) no_rights (v.name + 1) vs x rise.1 (let same = eqb-true x v.name here in omega (arith, same)))
      (labels_among (v.name + 1) vs x y rise.1 (All-tail RowRises v vs rows))

-- ---- they rise

lower : (m n : ℕ) (vs : List ShownVertex) → m ≤ n → RiseFrom n vs → RiseFrom m vs
lower m n [] less rise = tt
lower m n (v ∷ vs) less rise = (omega (arith, less, rise.0), rise.1)

-- the edges rise, from these ends on at the least, and have labels
abbrev EdgesFrom : ℕ → ℕ → List Edge → Type 0
EdgesFrom a b [] = Unit {0}
EdgesFrom a b (e ∷ es) = ((a < e.from) ⊎ ((a ≡ e.from) × (b ≤ e.to))) × (is_none_held e.label ≡ false) × EdgesFrom e.from (e.to + 1) es

lower_edges : (a b : ℕ) (es : List Edge) → a ≤ b → EdgesFrom b 0 es → EdgesFrom a 0 es
lower_edges a b [] less rise = tt
lower_edges a b (e ∷ es) less rise =
    (⊎_elim (λ more. inl (omega (arith, less, more))) (λ (same, any). up same) rise.0, rise.1, rise.2)
  where
    up : b ≡ e.from → (a < e.from) ⊎ ((a ≡ e.from) × (0 ≤ e.to))
    up same = ⊎_elim (λ more. inl more) (λ le. inr (omega (arith, le, less, same), omega arith)) (cases_lt a e.from)

row_ends : (name b : ℕ) (rest : List Edge) → EdgesFrom (name + 1) 0 rest → EdgesFrom name b rest
row_ends name b [] rise = tt
row_ends name b (e ∷ es) rise =
    (inl (⊎_elim (λ more. omega (arith, more)) (λ (same, any). omega (arith, same)) rise.0), rise.1, rise.2)

row_rises : (name n : ℕ) (row : Edges) (rest : List Edge) → RisesFrom n row → EdgesFrom (name + 1) 0 rest → EdgesFrom name n (edges_from name row ++ rest)
row_rises name n [] rest rises rise = row_ends name n rest rise
row_rises name n (e ∷ row) rest rises rise = (inr (refl, rises.0), rises.1, row_rises name (e.0 + 1) row rest rises.2 rise)

edges_after : (e : Edge) (es : List Edge) → EdgesFrom e.from (e.to + 1) es → RiseAfter e es
edges_after e [] rise = tt
edges_after e (f ∷ fs) rise =
    (⊎_elim (λ more. inl more) (λ (same, le). inr (same, omega (arith, le))) rise.0, edges_after f fs rise.2)

edges_rise : (a b : ℕ) (es : List Edge) → EdgesFrom a b es → Rises es
edges_rise a b [] rise = tt
edges_rise a b (e ∷ es) rise = edges_after e es rise.2

edges_held : (a b : ℕ) (es : List Edge) → EdgesFrom a b es → All (λ (e : Edge). is_none_held e.label ≡ false) es
edges_held a b [] rise = All-nil (λ (e : Edge). is_none_held e.label ≡ false)
edges_held a b (e ∷ es) rise = All-cons (λ (e : Edge). is_none_held e.label ≡ false) e es rise.1 (edges_held e.from (e.to + 1) es rise.2)

module _ (names : ℕ → Bool) where
  vertices_rise : (n : ℕ) (vs : List Vertex) → NamesFrom n vs → RiseFrom n (shown_among names vs)
  vertices_rise n [] rise = tt
  vertices_rise n (v ∷ vs) rise = at (names v.name) v.value (vertices_rise (v.name + 1) vs rise.1)
    where
      at : (b : Bool) (o : Option Value) → RiseFrom (v.name + 1) (shown_among names vs) → RiseFrom n (cond b (shown_if_stored v.name o ++ shown_among names vs) (shown_among names vs))
      at true None rest = lower n (v.name + 1) (shown_among names vs) (omega (arith, rise.0)) rest
      at true (Some value) rest = (rise.0, rest)
      at false o rest = lower n (v.name + 1) (shown_among names vs) (omega (arith, rise.0)) rest

  ends_rise : (n : ℕ) (vs : List Vertex) → NamesFrom n vs → RowsRise names vs → EdgesFrom n 0 (edges_among names vs)
  ends_rise n [] rise rows = tt
  ends_rise n (v ∷ vs) rise rows =
      at (names v.name) (All-head (RowRises names) v vs rows) (ends_rise (v.name + 1) vs rise.1 (All-tail (RowRises names) v vs rows))
    where
      at : (b : Bool) → (IsTrue b → IsRisingRow v.row) → EdgesFrom (v.name + 1) 0 (edges_among names vs) → EdgesFrom n 0 (cond b (edges_from v.name v.row ++ edges_among names vs) (edges_among names vs))
      at true row rest = lower_edges n v.name (edges_from v.name v.row ++ edges_among names vs) rise.0 (row_rises v.name 0 v.row (edges_among names vs) (row refl) rest)
      at false row rest = lower_edges n (v.name + 1) (edges_among names vs) (omega (arith, rise.0)) rest

  pub names_rise : (vs : List Vertex) → NamesFrom 0 vs → EachIndex (shown_among names vs) (ComesAfter NamePrecedes (shown_among names vs))
  names_rise vs rise = names_follow 0 (shown_among names vs) (vertices_rise 0 vs rise)

  pub ends_follow : (vs : List Vertex) → NamesFrom 0 vs → RowsRise names vs → EachIndex (edges_among names vs) (ComesAfter EdgePrecedes (edges_among names vs))
  ends_follow vs rise rows = edges_follow (edges_among names vs) (edges_rise 0 0 (edges_among names vs) (ends_rise 0 vs rise rows))

  pub ends_held : (vs : List Vertex) → NamesFrom 0 vs → RowsRise names vs → All (λ (e : Edge). is_none_held e.label ≡ false) (edges_among names vs)
  ends_held vs rise rows = edges_held 0 0 (edges_among names vs) (ends_rise 0 vs rise rows)

-- ---- lists that grow

-- one more after those that were put after others
pub put_behind : {X : Type 0} (old more : List X) (x : X) (next mid new : List X) → mid ≡ old ++ more → new ≡ mid ++ x ∷ [] → next ≡ more ++ x ∷ [] → new ≡ old ++ next
put_behind old more x next mid new was pushed is =
    pushed ∙ ap (λ xs. xs ++ x ∷ []) was ∙ append_assoc old more (x ∷ []) ∙ ap (λ xs. old ++ xs) (sym is)
