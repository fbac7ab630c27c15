-- Marks that each edge and each subject of a picture fits part its graph.
use Rattle.std.proofs.Common.{◌≡◌, inl, ℕ, ◌+◌, ◌<◌, ◌≤◌, length, slice_index_or, true, List, refl, sym, ap, ◌∙◌, subst, arith}
use Rattle.std.specs.List.{All, AllWithin, Contains}
use Rattle.std.proofs.lemmas.List.{get_or_default}
use Rattle.std.proofs.lemmas.List.Elements.{All-contains, AllWithin-more}
use Rattle.tg_rights.specs.RightSet.{has}
use Rattle.tg_rights.specs.declared.Right.{Right}
use Rattle.tg_model.specs.declared.edge.Edge.{Edge}
use Rattle.tg_model.specs.Graph.{ProtectionGraph}
use Rattle.tg_model.specs.Opened.{label_in}
use Rattle.tg_model.specs.Picture.{Holds, Shown, IsPictureOf}
use Rattle.tg_could.specs.Turns.{Acts, IsSilent, NeverHolds, MayCome}
use Rattle.tg_could.specs.Separation.{Sides, KeepsSides, Walks, MayAdd, Parts, ComesLater, IsEven, IsIdle, SidesAreApart, Suits, place_in}
use Rattle.tg_could.proofs.SeparationLaws.{added, Parts-by, Parts-fewer, parted-never}
use Rattle.tg_could.proofs.StillLaws.{same-never, alone-never}
use Rattle.tg_could.proofs.TurnLaws.{Holds-member, given_by}
use Rattle.tg_model.specs.declared.opening.TheConstants.{MAX_WORKERS}

-- an edge isn't one from x to y that has the right
abbrev pub IsNot : ℕ → Right → ℕ → Edge → Type 0
IsNot x r y edge = edge.from ≡ x → edge.to ≡ y → ¬ (has edge.label r ≡ true)

pub none_holds : (x : ℕ) (r : Right) (y : ℕ) (edges : List Edge) → All (IsNot x r y) edges → ¬ Holds (label_in edges) x r y
none_holds x r y edges all h =
    let given = given_by edges x r y h in
    All-contains (IsNot x r y) edges given.edge all given.there given.from given.to given.holds

-- an edge that leads out of neither set by take and grant leads out of neither
pub keeps-walks : (s : Sides) (r : Right) (y : ℕ) (edge : Edge) → Walks s edge → (has edge.label r ≡ true → edge.to ≡ y → s.back edge.from ≡ true) → KeepsSides s r y (λ a b. edge.label) edge.from edge.to
keeps-walks s r y edge walks held = record {
  take_on = walks.take_on;
  take_back = walks.take_back;
  grant_on = walks.grant_on;
  grant_back = walks.grant_back;
  source = held;
}

module _ (s : Sides) (x : ℕ) (r : Right) (y : ℕ) where
  abbrev pub Fits : Edge → Type 0
  Fits edge = MayAdd s x r y edge.from edge.to edge.label

  -- an edge that carries nothing fits
  pub idle-fits : (edge : Edge) → IsIdle r y edge → Fits edge
  idle-fits edge idle = record {
    keeps = record {
      take_on = λ h. absurd (idle.no_take h);
      take_back = λ h. absurd (idle.no_take h);
      grant_on = λ h. absurd (idle.no_grant h);
      grant_back = λ h. absurd (idle.no_grant h);
      source = λ h at_y. absurd (idle.no_right at_y h);
    };
    not_held = λ at_x at_y. idle.no_right at_y;
    not_granted = λ at_x is. absurd (idle.no_grant is);
  }

  -- so does one that leads to another than y, between vertices in neither set
  pub apart-fits : (edge : Edge) → SidesAreApart (place_in s edge.from) (place_in s edge.to) → ¬ (edge.to ≡ y) → Fits edge
  apart-fits edge apart other = record {
    keeps = record {
      take_on = λ h f. absurd (apart.from_forward f);
      take_back = λ h f. absurd (apart.to_back f);
      grant_on = λ h f. absurd (apart.from_forward f);
      grant_back = λ h f. absurd (apart.to_forward f);
      source = λ h at_y. absurd (other at_y);
    };
    not_held = λ at_x at_y. absurd (other at_y);
    not_granted = λ at_x is. apart.from_forward;
  }

  pub suits-fits : (edge : Edge) → Suits (place_in s edge.from) (place_in s edge.to) x r y edge → Fits edge
  suits-fits edge suits = record {
    keeps = keeps-walks s r y edge suits.stays suits.source;
    not_held = suits.not_held;
    not_granted = suits.not_granted;
  }

  pub Parts-edges : (edges : List Edge) → All Fits edges → Parts s x r y (label_in edges)
  Parts-edges edges all =
      Parts-by s x r y (label_in edges)
      (λ a b q h.
      let given = given_by edges a q b h in
      added s x r y given.edge.from given.edge.to given.edge.label (All-contains Fits edges given.edge all given.there) a q b (sym given.from) (sym given.to) given.holds)

-- both ends of an edge of a picture that has a right were made
pub pictured-made : (p : Shown) (g : ProtectionGraph) → IsPictureOf p g → (k : ℕ) (d : Edge) → k < length p.edges → (q : Right) → has (slice_index_or p.edges k d).label q ≡ true →
    ((slice_index_or p.edges k d).from < p.made) × ((slice_index_or p.edges k d).to < p.made)
pictured-made p g picture k d inside q h =
    let e = slice_index_or p.edges k d in
    let there : Holds (label_in p.edges) e.from q e.to = Holds-member p.edges k e inside (get_or_default p.edges k d e inside) q h in
    let ends = picture.is_made.ends e.from e.to q (ap (λ m. has m q) (picture.labels e.from e.to) ∙ there) in
    (omega (arith, ends.0, picture.made), omega (arith, ends.1, picture.made))

-- so was each of its subjects
pub pictured-subject : (p : Shown) (g : ProtectionGraph) → IsPictureOf p g → (k d : ℕ) → k < length p.subjects → slice_index_or p.subjects k d < p.made
pictured-subject p g picture k d inside =
    let v = slice_index_or p.subjects k d in
    let there : Contains p.subjects v = (k, inside, get_or_default p.subjects k v d inside) in
    let below = picture.is_made.subjects v (subst (λ (l : List ℕ). Contains l v) (sym picture.subjects) there) in
    omega (arith, below, picture.made)

-- what holds of a subject, unless it is silent
abbrev pub OfActor : List ℕ → Shown → (ℕ → Type 0) → ℕ → Type 0
OfActor silent p P v = ¬ (Contains silent v × (v < p.made)) → P v

-- one subject more of a list that is another
pub one-more : (P : ℕ → Type 0) (items subjects : List ℕ) (i d : ℕ) → items ≡ subjects → i < length items → AllWithin P subjects 0 i → P (slice_index_or items i d) → AllWithin P subjects 0 (i + 1)
one-more P items subjects i d same low all here =
    subst (λ (l : List ℕ). AllWithin P l 0 (i + 1)) same
    (AllWithin-more P items 0 i (subst (λ (l : List ℕ). AllWithin P l 0 i) (sym same) all)
    (λ e. subst P (get_or_default items i d e low) here))

-- all subjects of a list that is another
pub all-seen : (P : ℕ → Type 0) (items subjects : List ℕ) (i : ℕ) → items ≡ subjects → length items ≤ i → AllWithin P subjects 0 i → All P subjects
all-seen P items subjects i same end seen k d inside = seen k d (omega arith) (omega (arith, inside, end, ap length same))

module _ (silent : List ℕ) (p : Shown) (g : ProtectionGraph) (picture : IsPictureOf p g) where
  -- what is on the graph is on the picture
  pub on_picture : (a b : ℕ) (q : Right) → Holds g.label a q b → Holds (label_in p.edges) a q b
  on_picture a b q h = ap (λ m. has m q) (sym (picture.labels a b)) ∙ h

  -- what holds of each of the subjects but the silent ones holds of who acts
  pub of_actors : (P : ℕ → Type 0) → All (λ v. ¬ (Contains silent v × (v < p.made)) → P v) p.subjects → (v : ℕ) → Acts (IsSilent silent g) g v → P v
  of_actors P all v acts =
      All-contains (λ v. ¬ (Contains silent v × (v < p.made)) → P v) p.subjects v all (subst (λ l. Contains l v) picture.subjects acts.0)
      (λ (inside, below). acts.1 (inside, omega (arith, below, picture.made)))

  pub pictured-never : (s : Sides) (x : ℕ) (r : Right) (y : ℕ) → All (λ v. ¬ (Contains silent v × (v < p.made)) → IsEven s p x y v) p.subjects → Parts s x r y (label_in p.edges) → NeverHolds silent g x r y
  pictured-never s x r y even parts =
      let among = of_actors (IsEven s p x y) even in
      let later : (v : ℕ) → MayCome g v → ComesLater p v = λ v comes. (omega (arith, comes.0, picture.made), omega (arith, comes.1, picture.limit)) in
      parted-never (IsSilent silent g) x r y g (record {
        made = picture.is_made;
        sides = s;
        separates = record {
          labels = Parts-fewer s x r y (label_in p.edges) parts g.label on_picture;
          alike = λ v is. (among v is).alike;
          not_taken = λ is. (among x is).not_x refl;
          y_may_come = λ comes v is. (among v is).y_may_come (later y comes);
          x_may_come = λ comes v is. (among v is).x_may_come (later x comes);
        };
      })

  pub pictured-same : (x : ℕ) (r : Right) (y : ℕ) → x ≡ y → ¬ Holds (label_in p.edges) x r y → NeverHolds silent g x r y
  pictured-same x r y same lacks = same-never (IsSilent silent g) x r y same g picture.is_made (λ h. lacks (on_picture x y r h))

  pub pictured-alone : (x : ℕ) (r : Right) (y : ℕ) → MAX_WORKERS ≤ length p.subjects → All (λ v. ¬ (Contains silent v × (v < p.made)) → v ≡ y) p.subjects → ¬ Holds (label_in p.edges) x r y → NeverHolds silent g x r y
  pictured-alone x r y many alone lacks =
      alone-never (IsSilent silent g) x r y g picture.is_made
      (record {
        alone = of_actors (λ v. v ≡ y) alone;
        full = inl (subst (λ (l : List ℕ). MAX_WORKERS ≤ length l) (sym picture.subjects) many);
      })
      (λ h. lacks (on_picture x y r h))
