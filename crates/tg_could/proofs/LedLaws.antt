-- What the right is led to could come about: whoever acts and is led to shares it, and hands it to x in the end.
use Rattle.std.proofs.Common.{◌≡◌, ◌≢◌, ◌⊎◌, inl, inr, ⊎_elim, ℕ, zero, suc, ◌+◌, ◌<◌, ◌≤◌, List, [], ◌∷◌, length, get_or, refl, sym, ap, ◌∙◌, subst, arith}
use Rattle.std.proofs.lemmas.Bool.{cases_eq}
use Rattle.std.specs.List.{Contains}
use Rattle.std.proofs.lemmas.List.Elements.{Contains-append_right}
use Rattle.tg_rights.specs.RightSet.{RightSet, has}
use Rattle.tg_rights.specs.declared.Right.{Right}
use Rattle.tg_rights.specs.declared.Right.TheVariants.{G}
use Rattle.tg_model.specs.declared.opening.TheConstants.{MAX_WORKERS}
use Rattle.tg_model.specs.Graph.{ProtectionGraph, IsSound, without_subject}
use Rattle.tg_model.specs.Picture.{Holds}
use Rattle.tg_model.specs.Walks.{begins, goes}
use Rattle.tg_model.proofs.SubjectLaws.{is_without}
use Rattle.tg_could.specs.Turns.{Acts, MayCome}
use Rattle.tg_could.specs.Led.{Way, back, forward, Led, source, maker, take_back, take_on, grant_on, grant_back, turns_forward, turns_back, IsBrought, is_held, is_got, is_given, is_made, HasHelp}
use Rattle.tg_could.proofs.MoveLaws.{IsFit, Leads, Grows, Grows-self, Grows-on, Grows-acts, stays, leads_on}
use Rattle.tg_could.proofs.TurnLaws.{no_right, right_edge}
use Rattle.tg_could.proofs.SpareLaws.{others_above, comes_to_be}
use Rattle.tg_could.proofs.ShareLaws.{HasBox, HasBox-on, HasCompanion, HasCompanion-on, TakeWalk, Once, InTime, Shares, Shares-more, gets, Link, link_by_walk, link_over, shares_on, shares_first}
use Rattle.tg_could.proofs.EndLaws.{shorter, Ends, ends_now, ends_on, ends_by, fetches, gives, by_help, by_companion}

-- ---- lists of names

first_or_rest : (first : ℕ) (xs : List ℕ) (x : ℕ) → Contains (first ∷ xs) x → (first ≡ x) ⊎ Contains xs x
first_or_rest first xs x (k, inside, at) = of_place k inside at
  where
    of_place : (k : ℕ) → k < length (first ∷ xs) → get_or (first ∷ xs) k x ≡ x → (first ≡ x) ⊎ Contains xs x
    of_place zero inside at = inl at
    of_place (suc k) inside at = inr (k, omega (arith, inside), at)

-- a list has a number, or it hasn't
pub contains_or : (xs : List ℕ) (x : ℕ) → Contains xs x ⊎ (Contains xs x → ⊥)
contains_or [] x = inr (λ (k, inside, at). omega (arith, inside))
contains_or (first ∷ xs) x =
    ⊎_elim (λ (same : first ≡ x). inl (0, omega arith, same))
    (λ other.
    ⊎_elim (λ is. inl (Contains-append_right (first ∷ []) xs x is))
    (λ none. inr (λ is. ⊎_elim other none (first_or_rest first xs x is))) (contains_or xs x))
    (cases_eq first x)

-- ---- what a walk leads to

module _ (silent : ℕ → Type 0) (g : ProtectionGraph) (fit : IsFit g) (name owner : ℕ) (may : g.made ≤ name → Acts silent g owner) (right : Right) (y : ℕ) where
  abbrev pub Sharing : ℕ → ℕ → Type 0
  Sharing = Shares silent g name owner may right y

  -- those who come to share the right one after the other, each with one name more than the one before it
  abbrev Chain : List ℕ → Type 0
  Chain [] = Unit {0}
  Chain (p ∷ sharers) = Chain sharers × Acts silent g p × (Contains sharers p → ⊥) × Sharing (length sharers + 1) p

  record IsSharer (sharers : List ℕ) (p : ℕ) : Type 0 where
    acts : Acts silent g p
    shares : Sharing (length sharers) p

  sharer : (sharers : List ℕ) → Chain sharers → (p : ℕ) → Contains sharers p → IsSharer sharers p
  sharer [] chain p is = absurd (omega (arith, is.1))
  sharer (first ∷ sharers) chain p is =
      ⊎_elim
      (λ same.
      subst (IsSharer (first ∷ sharers)) same (record {
        acts = chain.1;
        shares = Shares-more silent g name owner may right y first (length sharers + 1) (length (first ∷ sharers)) (omega arith) chain.3;
      }))
      (λ rest.
      let s = sharer sharers chain.0 p rest in
      record { acts = s.acts; shares = Shares-more silent g name owner may right y p (length sharers) (length (first ∷ sharers)) (omega arith) s.shares })
      (first_or_rest first sharers p is)

  -- they are no more than the subjects
  few_sharers : (sharers : List ℕ) → Chain sharers → (subjects : List ℕ) → ((p : ℕ) → Contains sharers p → Contains subjects p) → length sharers ≤ length subjects
  few_sharers [] chain subjects within = omega arith
  few_sharers (first ∷ sharers) chain subjects within =
      let less = shorter subjects first (within first (0, omega arith, refl)) in
      let rest = few_sharers sharers chain.0 (without_subject subjects first)
      (λ q is. (is_without subjects first q).1 (within q (Contains-append_right (first ∷ []) sharers q is), λ same. chain.2 (subst (Contains sharers) same is))) in
      omega (arith, less, rest)

  -- p is among them
  record AreWith (p : ℕ) : Type 0 where
    sharers : List ℕ
    chain : Chain sharers
    has : Contains sharers p

  with_one : (sharers : List ℕ) → Chain sharers → (p : ℕ) → Acts silent g p → Sharing (length sharers + 1) p → AreWith p
  with_one sharers chain p acts shares =
      ⊎_elim (λ is. record { sharers = sharers; chain = chain; has = is })
      (λ none. record { sharers = p ∷ sharers; chain = (chain, acts, none, shares); has = (0, omega arith, refl) })
      (contains_or sharers p)

  -- one of them leads to the vertex by take edges
  record IsForward (sharers : List ℕ) (v : ℕ) : Type 0 where
    p : ℕ
    has : Contains sharers p
    walk : TakeWalk silent g p v

  -- Forward: one of them leads to the vertex. Back: whoever acts and leads to the vertex shares the right with a name more.
  abbrev Comes : List ℕ → Way → ℕ → Type 0
  Comes sharers back v = (p : ℕ) → Acts silent g p → TakeWalk silent g p v → Sharing (length sharers + 1) p
  Comes sharers forward v = IsForward sharers v

  record DoesCome (way : Way) (v : ℕ) : Type 0 where
    sharers : List ℕ
    chain : Chain sharers
    comes : Comes sharers way v

  -- it goes on with the same ones
  with_them : (way : Way) (v : ℕ) → DoesCome way v → (then : Way) (w : ℕ) → ((sharers : List ℕ) → Chain sharers → Comes sharers way v → Comes sharers then w) → DoesCome then w
  with_them way v c then w on = record { sharers = c.sharers; chain = c.chain; comes = on c.sharers c.chain c.comes }

  flip : (p q : ℕ) (p_acts : Acts silent g p) (q_acts : Acts silent g q) (differ : p ≢ q) → Link silent g q p q_acts p_acts (λ same. differ (sym same)) → Link silent g p q p_acts q_acts differ
  flip p q p_acts q_acts differ link h grows room =
      leads_on silent h 1 0 1 (omega arith) (link h grows room)
      (λ k more used linked. stays silent k more.fit (linked.1, linked.0))

  module _ (n p q : ℕ) (p_acts : Acts silent g p) (q_acts : Acts silent g q) (shares : Sharing n p) where
    shared : ((differ : p ≢ q) → Link silent g p q p_acts q_acts differ) → Sharing (n + 1) q
    shared link =
        ⊎_elim (λ same. Shares-more silent g name owner may right y q n (n + 1) (omega arith) (subst (Sharing n) same shares))
        (λ differ.
        shares_on silent g name owner may right y p q p_acts q_acts differ (link differ) n shares (fit.made.subjects q q_acts.0))
        (cases_eq p q)

    -- q leads to p
    of_end : TakeWalk silent g q p → Sharing (n + 1) q
    of_end walk = shared (λ differ. link_by_walk silent g p q p_acts q_acts differ walk)

    -- p leads to q
    of_start : TakeWalk silent g p q → Sharing (n + 1) q
    of_start walk =
        shared (λ differ. flip p q p_acts q_acts differ (link_by_walk silent g q p q_acts p_acts (λ same. differ (sym same)) walk))

    -- p leads to one end of a grant edge, and q to the other
    on_grant : (a b : ℕ) → Holds g.label a G b → TakeWalk silent g p a → TakeWalk silent g q b → Sharing (n + 1) q
    on_grant a b edge to_a to_b = shared (λ differ. link_over silent g p q p_acts q_acts differ a b to_a edge to_b)

    back_grant : (a b : ℕ) → Holds g.label a G b → TakeWalk silent g p b → TakeWalk silent g q a → Sharing (n + 1) q
    back_grant a b edge to_b to_a =
        shared (λ differ. flip p q p_acts q_acts differ (link_over silent g q p q_acts p_acts (λ same. differ (sym same)) a b to_a edge to_b))

  comes : ¬ MayCome g y → (way : Way) (v : ℕ) → Led silent right y g way v → DoesCome way v
  comes not_y way v (source held) =
      record { sharers = []; chain = tt; comes = λ p acts walk. shares_first silent g name owner may right y p v acts held walk }
  comes not_y way v (maker may acts) = absurd (not_y may)
  comes not_y way v (take_back {b = b} edge led) =
      with_them back b (comes not_y back b led) back v (λ l chain c p acts walk. c p acts (goes walk edge))
  comes not_y way v (take_on {a = a} edge led) =
      with_them forward a (comes not_y forward a led) forward v (λ l chain f. record { p = f.p; has = f.has; walk = goes f.walk edge })
  comes not_y way v (grant_on {a = a} edge led) =
      with_them forward a (comes not_y forward a led) back v
      (λ l chain f q acts walk.
      let s = sharer l chain f.p f.has in
      on_grant (length l) f.p q s.acts acts s.shares a v edge f.walk walk)
  comes not_y way v (grant_back {b = b} edge led) =
      with_them forward b (comes not_y forward b led) back v
      (λ l chain f q acts walk.
      let s = sharer l chain f.p f.has in
      back_grant (length l) f.p q s.acts acts s.shares v b edge f.walk walk)
  comes not_y way v (turns_forward acts led) =
      let c = comes not_y back v led in
      let w = with_one c.sharers c.chain v acts (c.comes v acts (begins refl)) in
      record { sharers = w.sharers; chain = w.chain; comes = record { p = v; has = w.has; walk = begins refl } }
  comes not_y way v (turns_back acts led) =
      let c = comes not_y forward v led in
      let f = c.comes in
      let s = sharer c.sharers c.chain f.p f.has in
      let w = with_one c.sharers c.chain v acts (of_start (length c.sharers) f.p v s.acts acts s.shares f.walk) in
      let t = sharer w.sharers w.chain v w.has in
      record {
        sharers = w.sharers;
        chain = w.chain;
        comes = λ q q_acts walk. of_end (length w.sharers) v q t.acts q_acts t.shares walk;
      }

-- ---- what is brought could come about

-- a sound graph is fit
pub IsFit-sound : (g : ProtectionGraph) → IsSound g → IsFit g
IsFit-sound g sound = record {
  made = record {
    subjects = sound.subjects_made;
    ends = λ a b q is. sound.ends_made a b (right_edge (g.label a b) q is);
  };
  no_loop = λ a q is. no_right q (ap (λ (s : RightSet). has s q) (sym (sound.no_loop a)) ∙ is);
}

-- a graph that has grown has the same subjects, and the same help
pub few_on : (h k : ProtectionGraph) → Grows h k → length h.subjects ≤ MAX_WORKERS → length k.subjects ≤ MAX_WORKERS
few_on h k grows few = subst (λ (s : List ℕ). length s ≤ MAX_WORKERS) (sym grows.subjects) few

pub help_on : (silent : ℕ → Type 0) (y : ℕ) (h k : ProtectionGraph) → Grows h k → HasHelp silent h y → HasHelp silent k y
help_on silent y h k grows help =
    ⊎_elim (λ less. inl (subst (λ (s : List ℕ). length s < MAX_WORKERS) (sym grows.subjects) less))
    (λ (other, acts, differ). inr (other, Grows-acts silent h k grows other acts, differ)) help

-- one of those who share the right does with no more names than may be made
pub in_room : (silent : ℕ → Type 0) (g : ProtectionGraph) (fit : IsFit g) (name owner : ℕ) (may : g.made ≤ name → Acts silent g owner) (right : Right) (y : ℕ) → length g.subjects ≤ MAX_WORKERS → (sharers : List ℕ) → Chain silent g fit name owner may right y sharers → (p : ℕ) → Contains sharers p → Shares silent g name owner may right y MAX_WORKERS p
in_room silent g fit name owner may right y few sharers chain p is =
    let fewer = few_sharers silent g fit name owner may right y sharers chain g.subjects
    (λ q there. (sharer silent g fit name owner may right y sharers chain q there).acts.0) in
    Shares-more silent g name owner may right y p (length sharers) MAX_WORKERS (omega (arith, fewer, few))
    (sharer silent g fit name owner may right y sharers chain p is).shares

-- who acts and is led to shares the right
pub shares_in_room : (silent : ℕ → Type 0) (g : ProtectionGraph) (fit : IsFit g) (name owner : ℕ) (may : g.made ≤ name → Acts silent g owner) (right : Right) (y : ℕ) → length g.subjects ≤ MAX_WORKERS → ¬ MayCome g y → (p : ℕ) → Acts silent g p → Led silent right y g back p → Shares silent g name owner may right y MAX_WORKERS p
shares_in_room silent g fit name owner may right y few not_y p acts led =
    let c = comes silent g fit name owner may right y not_y back p led in
    let w = with_one silent g fit name owner may right y c.sharers c.chain p acts (c.comes p acts (begins refl)) in
    in_room silent g fit name owner may right y few w.sharers w.chain p w.has

-- ---- x was made

module _ (silent : ℕ → Type 0) (g : ProtectionGraph) (fit : IsFit g) (few : length g.subjects ≤ MAX_WORKERS) (room : g.made + MAX_WORKERS ≤ g.limit) (was_made : (p : ℕ) → silent p → p < g.made) (x : ℕ) (x_made : x < g.made) (right : Right) (y : ℕ) (differ : x ≢ y) where
  abbrev EndsSo : ProtectionGraph → Type 0
  EndsSo h = Ends silent h (λ k. Holds k.label x right y)

  -- no name is left to anybody: this one was made
  not_left : g.made ≤ x → Acts silent g x
  not_left low = absurd (omega (arith, low, x_made))

  abbrev SharesIt : ℕ → Type 0
  SharesIt p = Shares silent g x x not_left right y MAX_WORKERS p

  in_time : {P : ProtectionGraph → Type 0} → InTime silent g x x not_left MAX_WORKERS P → Leads silent g (MAX_WORKERS + 1) P
  in_time leads =
      comes_to_be silent g x x g MAX_WORKERS
      (leads g (Grows-self g fit) (λ low made. absurd (omega (arith, low, x_made)))
      (omega (arith, room, others_above x g.made x_made, others_above x g.limit (omega (arith, room, x_made)))))

  x_fetches : Acts silent g x → SharesIt x → EndsSo g
  x_fetches acts shares =
      ends_on silent g (MAX_WORKERS + 1) (in_time shares.share)
      (λ k more used box.
      ends_by silent k 0
      (fetches silent right y k more.fit x (Grows-acts silent g k more x acts) differ box.box box.both.0 box.full))

  -- one who shares the right holds grant over x on a graph that has grown
  module _ (a p : ℕ) (granter : Holds g.label a G x) (acts : Acts silent g p) (walk : TakeWalk silent g p a) (not_x : p ≢ x) where
    abbrev gets_grant : (h : ProtectionGraph) → Grows g h → Leads silent h 0 (λ k. Holds k.label p G x)
    gets_grant h grows = gets silent g h grows p acts a walk G x granter not_x

    -- what comes about comes with the grant
    with_grant : {P : ProtectionGraph → Type 0} (n : ℕ) → ((k l : ProtectionGraph) → Grows k l → P k → P l) → Leads silent g n P → ((l : ProtectionGraph) → Grows g l → l.made ≤ g.made + n → P l → Holds l.label p G x → EndsSo l) → EndsSo g
    with_grant n on leads go =
        ends_on silent g n leads
        (λ k more used there.
        ends_on silent k 0 (gets_grant k more)
        (λ l more_l used_l holds. go l (Grows-on g k l more more_l) (omega (arith, used, used_l)) (on k l more_l there) holds))

    other_than_y : p ≢ y → SharesIt p → EndsSo g
    other_than_y not_y shares =
        with_grant (MAX_WORKERS + 1) (λ k l more. HasBox-on right y g.made k l more p) (in_time shares.share)
        (λ l grown used box holds.
        ends_by silent l 0
        (gives silent right y x differ l grown.fit p (Grows-acts silent g l grown p acts) not_y box.box box.both.0 box.full holds))

    by_itself : p ≡ y → HasHelp silent g y → Once silent g (λ k. HasBox right y g.made k y) → EndsSo g
    by_itself same help once =
        with_grant 1 (λ k l more. HasBox-on right y g.made k l more y) (once g (Grows-self g fit) (omega (arith, room)))
        (λ l grown used box holds.
        by_help silent right y x differ box.box l grown.fit
        (subst (Acts silent l) same (Grows-acts silent g l grown p acts)) (omega (arith, room, used, grown.limit))
        (few_on g l grown few) (help_on silent y g l grown help)
        (λ is. omega (arith, was_made l.made is, grown.made))
        box.both.0 box.full (subst (λ (v : ℕ). Holds l.label v G x) same holds))

    from_other : p ≡ y → InTime silent g x x not_left MAX_WORKERS (λ k. HasCompanion silent g x right y k y) → EndsSo g
    from_other same leads =
        with_grant (MAX_WORKERS + 1) (λ k l more. HasCompanion-on silent g x right y k l more y) (in_time leads)
        (λ l grown used has holds.
        by_companion silent right y g x differ l grown.fit
        (subst (Acts silent l) same (Grows-acts silent g l grown p acts)) has (Grows-acts silent g l grown has.other has.acts)
        (subst (λ (v : ℕ). Holds l.label v G x) same holds))

    is_granted : HasHelp silent g y → SharesIt p → EndsSo g
    is_granted help shares =
        ⊎_elim
        (λ same.
        let of_y : SharesIt y = subst SharesIt same shares in
        ⊎_elim (by_itself same help) (from_other same) of_y.from)
        (λ not_y. other_than_y not_y shares)
        (cases_eq p y)

  pub brought_ends : ¬ MayCome g y → HasHelp silent g y → IsBrought silent right y g x → EndsSo g
  brought_ends not_y help (is_held held) = ends_now silent g held
  brought_ends not_y help (is_got acts led) = x_fetches acts (shares_in_room silent g fit x x not_left right y few not_y x acts led)
  brought_ends not_y help (is_given {a = a} granter led) =
      let c = comes silent g fit x x not_left right y not_y forward a led in
      let f = c.comes in
      let acts = (sharer silent g fit x x not_left right y c.sharers c.chain f.p f.has).acts in
      let shares = in_room silent g fit x x not_left right y few c.sharers c.chain f.p f.has in
      ⊎_elim (λ same. x_fetches (subst (Acts silent g) same acts) (subst SharesIt same shares))
      (λ other. is_granted a f.p granter acts f.walk other help shares)
      (cases_eq f.p x)
  brought_ends not_y help (is_made may acts led) = absurd (omega (arith, may.0, x_made))
