-- The words of a view part whoever it doesn't join to a right.
use Rattle.std.proofs.Common.{◌≡◌, ◌≢◌, ⊎_elim, ℕ, ◌<◌, ◌≤◌, true, false, List, ◌++◌, slice_index_or, bit_or, sym, ◌∙◌, ap, subst, arith}
use Rattle.std.specs.List.{All, AllWithin, Contains}
use Rattle.std.proofs.lemmas.Bool.{false≢true}
use Rattle.std.proofs.lemmas.List.Elements.{All-contains, All-append}
use Rattle.tg_rights.specs.RightSet.{RightSet, has, union}
use Rattle.tg_rights.proofs.RightLaws.{has-union}
use Rattle.tg_rights.specs.declared.Right.{Right}
use Rattle.tg_model.specs.declared.edge.Edge.{Edge}
use Rattle.tg_model.specs.Graph.{ProtectionGraph}
use Rattle.tg_model.specs.Opened.{label_in}
use Rattle.tg_model.specs.Picture.{Holds, Shown, IsPictureOf}
use Rattle.tg_could.specs.declared.chance.Chance.TheVariants.{Never, Perhaps}
use Rattle.tg_model.proofs.PictureLaws.{or_true}
use Rattle.tg_could.specs.Reached.{JoinsMade, with_edges}
use Rattle.tg_could.specs.Turns.{NeverHolds}
use Rattle.tg_could.proofs.AsIfLaws.{label_in-append}
use Rattle.tg_could.proofs.TurnLaws.{given_by}
use Rattle.tg_could.specs.Separation.{Sides, MayAdd, Walks, IsEven}
use Rattle.tg_could.specs.Names.{number_in}
use Rattle.tg_could.specs.View.{name_word, island_word_at, is_at_most, meets, IsOfOne, Joins, JoinsEntry, IsIn, IsEntered, Stands, IsGathered, AreGathered, IsPlaced, IsCheckedOn, IsCheckedSince, IsCounted, AreCounted, shown_with, sides_by, bound_of}
use Rattle.tg_could.specs.declared.question.Question.{Question}
use Rattle.tg_could.specs.declared.view.entries.PackedEdge.{PackedEdge}
use Rattle.tg_could.specs.declared.view.incoming.Incoming.{Incoming}
use Rattle.tg_could.specs.declared.view.islands.Islands.{Islands}
use Rattle.tg_could.specs.declared.search.names.Names.{Names}
use Rattle.tg_could.specs.declared.view.Facts.{Facts}
use Rattle.tg_could.proofs.MarkLaws.{IsNot, keeps-walks, none_holds, Parts-edges, pictured-never, pictured-same, pictured-alone}
use Rattle.tg_could.proofs.WordLaws.{within-trans, within-more, meets-down, meets-up, bridged-on, bridged-back, single-alike}

-- two answers
pub perhaps_not : Perhaps ≡ Never → ⊥
perhaps_not same = cc

module _ (f : Facts) (q : Question) (word : ℕ) where
  -- an edge that has an entry is counted, where all that stands over y was gathered
  pub stands-counted : AreGathered f.incoming f.islands.reached.items (number_in f.names q.x) q.right (number_in f.names q.y) word → (edge : Edge) → Stands f.names f.islands f.incoming edge → IsCounted f q word edge
  stands-counted are edge stands =
      let of_edge : edge.to ≡ q.y → has edge.label q.right ≡ true → (number_in f.names edge.from ≢ number_in f.names q.x) × (is_at_most (island_word_at f.names f.islands edge.from) word ≡ true) =
      λ at_y is.
      let d : ℕ × RightSet = (stands.entry.from, stands.entry.label) in
      let h = stands.is_in.holder d in
      let target : stands.entry.to ≡ number_in f.names q.y = stands.is.0 ∙ ap (number_in f.names) at_y in
      subst (λ (v : ℕ). (v ≢ number_in f.names q.x) × (is_at_most (name_word f.islands.reached.items v) word ≡ true)) (h.0 ∙ stands.is.1)
      (are stands.is_in.place d
      (subst (λ (v : ℕ). (bound_of f.incoming v).0 ≤ stands.is_in.place) target stands.is_in.first)
      (subst (λ (v : ℕ). stands.is_in.place < (bound_of f.incoming v).1) target stands.is_in.end)
      (ap (λ (m : RightSet). has m q.right) (h.1 ∙ stands.is.2) ∙ is)) in
      record {
        joins =
            subst (λ (from : ℕ). Joins f.islands from (number_in f.names edge.to) edge.label) stands.is.1
            (subst (λ (to : ℕ). Joins f.islands stands.entry.from to edge.label) stands.is.0
            (subst (Joins f.islands stands.entry.from stands.entry.to) stands.is.2 stands.joins));
        not_x = λ at_y is. (of_edge at_y is).0;
        within = λ at_y is. (of_edge at_y is).1;
      }

  module _ (edge : Edge) (counted : IsCounted f q word edge) where
    pub counted-not : IsNot q.x q.right q.y edge
    counted-not at_x at_y is = counted.not_x at_y is (ap (number_in f.names) at_x)

    walks : Walks (sides_by f.names f.islands word) edge
    walks =
        let from = island_word_at f.names f.islands edge.from in
        let to = island_word_at f.names f.islands edge.to in
        let joins = counted.joins in
        record {
          take_on = λ is f. meets-up from to word (joins.take is) f;
          take_back = λ is f. within-trans from to word (joins.take is) f;
          grant_on = λ is f. bridged-on from to word (joins.grant is) f;
          grant_back = λ is f. bridged-back from to word (joins.grant is) f;
        }

    pub counted-fits : meets (name_word f.islands.granted.items (number_in f.names q.x)) word ≡ false → MayAdd (sides_by f.names f.islands word) q.x q.right q.y edge.from edge.to edge.label
    counted-fits not_granted = record {
      keeps = keeps-walks (sides_by f.names f.islands word) q.right q.y edge walks (λ is at_y. counted.within at_y is);
      not_held = counted-not;
      not_granted = λ at_x is meeting.
          false≢true
          (sym (meets-down (island_word_at f.names f.islands edge.from) (name_word f.islands.granted.items (number_in f.names edge.to)) word (counted.joins.granted is)
          (subst (λ (v : ℕ). meets (name_word f.islands.granted.items (number_in f.names v)) word ≡ false) (sym at_x) not_granted)) ∙ meeting);
    }

module _ (silent : List ℕ) (opened : Shown) (added supposed : List Edge) (g : ProtectionGraph) (f : Facts) (q : Question) (word : ℕ) where
  -- the picture that was checked, with what was added and is supposed
  abbrev seen : Shown
  seen = shown_with (shown_with opened added) supposed

  module _ (picture : IsPictureOf seen g) (checked : IsCheckedOn silent opened f) (are : AreCounted f added supposed q word) where
    counted : All (IsCounted f q word) seen.edges
    counted =
        All-append (IsCounted f q word) (opened.edges ++ added) supposed
        (All-append (IsCounted f q word) opened.edges added
        (λ k d inside. stands-counted f q word are.gathered (slice_index_or opened.edges k d) (checked.edges k d inside)) are.are_added) are.are_supposed

    lacks : ¬ Holds (label_in seen.edges) q.x q.right q.y
    lacks = none_holds q.x q.right q.y seen.edges (λ k d inside. counted-not f q word (slice_index_or seen.edges k d) (counted k d inside))

    pub viewed-same : q.x ≡ q.y → NeverHolds silent g q.x q.right q.y
    viewed-same same = pictured-same silent seen g picture q.x q.right q.y same lacks

    pub viewed-alone : f.is_full ≡ true → All (λ v. v ≡ q.y) f.actors.items → NeverHolds silent g q.x q.right q.y
    viewed-alone full alone =
        pictured-alone silent seen g picture q.x q.right q.y (checked.full full)
        (λ k d inside acts.
        All-contains (λ v. v ≡ q.y) f.actors.items (slice_index_or opened.subjects k d) alone (checked.actors k d inside acts).is)
        lacks

    module _ (not_granted : meets (name_word f.islands.granted.items (number_in f.names q.x)) word ≡ false) (placed : All (IsPlaced f q.x q.y word) f.actors.items) where
      abbrev s : Sides
      s = sides_by f.names f.islands word

      even : (v : ℕ) → Contains f.actors.items v → IsEven s seen q.x q.y v
      even v acts =
          let is = All-contains (IsPlaced f q.x q.y word) f.actors.items v placed acts in
          record {
            alike = single-alike (island_word_at f.names f.islands v) word (All-contains (IsOfOne f.names f.islands) f.actors.items v checked.single acts).power;
            not_x = is.not_x;
            y_may_come = λ comes. is.y_may_come (omega (arith, comes.0, checked.made), omega (arith, comes.1, checked.limit));
            x_may_come = λ comes. is.x_may_come (omega (arith, comes.0, checked.made), omega (arith, comes.1, checked.limit));
          }

      pub viewed-never : NeverHolds silent g q.x q.right q.y
      viewed-never =
          pictured-never silent seen g picture s q.x q.right q.y
          (λ k d inside acts. even (slice_index_or opened.subjects k d) (checked.actors k d inside acts).is)
          (Parts-edges s q.x q.right q.y seen.edges
          (λ k d inside. counted-fits f q word (slice_index_or seen.edges k d) (counted k d inside) not_granted))

-- with both ends of each edge made, the picture with these edges is one of the graph with them
supposed-pictured : (p : Shown) (g : ProtectionGraph) (es : List Edge) → IsPictureOf p g → All (JoinsMade g.made) es → IsPictureOf (shown_with p es) (with_edges g es)
supposed-pictured p g es picture made = record {
  is_made = record {
    subjects = picture.is_made.subjects;
    ends = λ a b q h. ⊎_elim (λ old. picture.is_made.ends a b q old)
        (λ new.
        let given = given_by es a q b new in
        let ends = All-contains (JoinsMade g.made) es given.edge made given.there in
        (omega (arith, ends.0, given.from), omega (arith, ends.1, given.to)))
        (or_true (has (g.label a b) q) (has (label_in es a b) q) (sym (has-union (g.label a b) (label_in es a b) q) ∙ h));
  };
  subjects = picture.subjects;
  made = picture.made;
  limit = picture.limit;
  labels = λ a b. ap (λ (m : RightSet). union m (label_in es a b)) (picture.labels a b) ∙ sym (label_in-append p.edges es a b);
}

pub since-pictured : (silent : List ℕ) (p : Shown) (f : Facts) (added es : List Edge) (g : ProtectionGraph) → (since : IsCheckedSince silent p f added) → IsPictureOf p g → All (JoinsMade f.made) es →
    IsPictureOf (shown_with (shown_with since.opened added) es) (with_edges g es)
since-pictured silent p f added es g since picture made =
    let of_opened = subst (λ (s : Shown). IsPictureOf s g) since.is picture in
    supposed-pictured (shown_with since.opened added) g es of_opened
    (subst (λ (m : ℕ). All (JoinsMade m) es) (since.checked.made ∙ sym of_opened.made) made)

-- a word counts what a word counts that is within it
pub gathered-within : (words : List ℕ) (x : ℕ) (r : Right) (hs : List (ℕ × RightSet)) (low at word more : ℕ) → ((a : ℕ) → is_at_most a word ≡ true → is_at_most a more ≡ true) → AllWithin (IsGathered words x r word) hs low at → AllWithin (IsGathered words x r more) hs low at
gathered-within words x r hs low at word more wider all k d from below is =
    let h = all k d from below is in (h.0, wider (name_word words (slice_index_or hs k d).0) h.1)

-- what was gathered of two numbers by these words was gathered of two names
pub gathered-at : (f : Facts) (r : Right) (x y : ℕ) (words : List ℕ) (word : ℕ) {n m : ℕ} → words ≡ f.islands.reached.items → n ≡ number_in f.names x → m ≡ number_in f.names y → AreGathered f.incoming words n r m word → AreGathered f.incoming f.islands.reached.items (number_in f.names x) r (number_in f.names y) word
gathered-at f r x y words word {n = n} {m = m} are_words at_x at_y are =
    subst (λ (k : ℕ). AreGathered f.incoming f.islands.reached.items k r (number_in f.names y) word) at_x
    (subst (λ (k : ℕ). AreGathered f.incoming f.islands.reached.items n r k word) at_y
    (subst (λ (l : List ℕ). AreGathered f.incoming l n r m word) are_words are))

-- ---- checks

-- each edge that has an entry is as all entries do
pub entered-stand : (names : Names) (islands : Islands) (incoming : Incoming) (entries : List PackedEdge) (edges : List Edge) → All (IsEntered names entries) edges → All (JoinsEntry islands) entries → All (IsIn incoming) entries → All (Stands names islands incoming) edges
entered-stand names islands incoming entries edges entered joined in_parts k d inside =
    let none : PackedEdge = record { to = 0; from = 0; label = (slice_index_or edges k d).label } in
    let is = entered k d inside in
    record {
      entry = slice_index_or entries is.place none;
      is = is.is none;
      joins = joined is.place none is.inside;
      is_in = in_parts is.place none is.inside;
    }

-- ---- loops

-- a word with more bits counts what it counted
pub gathered-widen : (words : List ℕ) (x : ℕ) (r : Right) (hs : List (ℕ × RightSet)) (low at word more : ℕ) → AllWithin (IsGathered words x r word) hs low at → AllWithin (IsGathered words x r (bit_or word more)) hs low at
gathered-widen words x r hs low at word more = gathered-within words x r hs low at word (bit_or word more) (λ a h. within-more a word more h)
