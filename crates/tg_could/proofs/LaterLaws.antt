-- Names that aren't made yet: who may make them does, and then all is made that a question is about.
use Rattle.std.proofs.Common.{◌≡◌, ◌≢◌, ◌⊎◌, inl, inr, ⊎_elim, ℕ, zero, suc, ◌+◌, ◌-◌, ◌<◌, ◌≤◌, length, refl, ◌∙◌, subst, arith}
use Rattle.std.proofs.lemmas.Bool.{cases_eq, cases_lt}
use Rattle.tg_rights.specs.RightSet.{only}
use Rattle.tg_rights.specs.declared.Right.{Right}
use Rattle.tg_rights.specs.declared.Right.TheVariants.{T, G}
use Rattle.tg_model.specs.declared.opening.TheConstants.{MAX_WORKERS}
use Rattle.tg_model.specs.Graph.{ProtectionGraph}
use Rattle.tg_model.specs.Picture.{Holds}
use Rattle.tg_model.specs.Walks.{begins, goes}
use Rattle.tg_could.specs.Turns.{Acts, MayCome}
use Rattle.tg_could.specs.Led.{Way, back, forward, Led, source, maker, take_back, take_on, grant_on, grant_back, turns_forward, turns_back, IsBrought, is_held, is_got, is_given, is_made, HasHelp}
use Rattle.tg_could.proofs.MoveLaws.{IsFit, Grows, Grows-self, Grows-on, Grows-acts, Leads, stays, leads_on, grants, has_itself, makes_one}
use Rattle.tg_could.proofs.SpareLaws.{others_below, others_above, HasNames}
use Rattle.tg_could.proofs.ShareLaws.{IsFull-on, HasBox, HasBox-on, HasCompanion, HasCompanion-on, TakeWalk, Once, InTime, Shares, gets}
use Rattle.tg_could.proofs.EndLaws.{Ends, ends_now, ends_on, ends_by, gives, by_spawning, by_companion}
use Rattle.tg_could.proofs.LedLaws.{few_on, help_on, shares_in_room, brought_ends}

-- a name may yet be made, or it may not
pub may_come_or : (h : ProtectionGraph) (v : ℕ) → MayCome h v ⊎ (MayCome h v → ⊥)
may_come_or h v =
    ⊎_elim (λ was. inr (λ comes. omega (arith, comes.0, was)))
    (λ later.
    ⊎_elim (λ below. inl (later, below)) (λ past. inr (λ comes. omega (arith, comes.1, past))) (cases_lt v h.limit))
    (cases_lt v h.made)

module _ (silent : ℕ → Type 0) where
  -- ---- making names one after the other

  -- who made all names up to one holds a right over it
  record HasMadeUpTo (limit p : ℕ) (q : Right) (v : ℕ) (k : ProtectionGraph) : Type 0 where
    held : Holds k.label p q v
    made : k.made ≡ v + 1
    same : k.limit ≡ limit

  makes_up_to : (n : ℕ) (h : ProtectionGraph) → IsFit h → (p : ℕ) → Acts silent h p → (q : Right) (v : ℕ) → h.made + n ≡ v → v < h.limit → Leads silent h (n + 1) (HasMadeUpTo h.limit p q v)
  makes_up_to zero h fit p acts q v at room =
      let here : h.made ≡ v = omega (arith, at) in
      leads_on silent h 1 0 (0 + 1) (omega arith) (makes_one silent h fit p acts (only q) (omega (arith, here, room)))
      (λ k more used has.
      stays silent k more.fit (record {
        held = subst (λ (w : ℕ). Holds k.label p q w) here (has.held q (has_itself q));
        made = omega (arith, has.made, here);
        same = has.limit;
      }))
  makes_up_to (suc n) h fit p acts q v at room =
      leads_on silent h 1 (n + 1) (suc n + 1) (omega arith) (makes_one silent h fit p acts (only q) (omega (arith, at, room)))
      (λ k more used has.
      leads_on silent k (n + 1) 0 (n + 1) (omega arith)
      (makes_up_to n k more.fit p (Grows-acts silent h k more p acts) q v (omega (arith, has.made, at)) (omega (arith, has.limit, room)))
      (λ l more_l used_l there. stays silent l more_l.fit (record { held = there.held; made = there.made; same = there.same ∙ has.limit })))

  module _ (right : Right) (y : ℕ) where
    -- ---- where walks begin

    -- The walks to a vertex begin with one who holds the right or may make y, and lead on on each graph that has grown, where they
    -- still lead to that one.
    record IsFrom (h : ProtectionGraph) (way : Way) (v : ℕ) : Type 0 where
      first : ℕ
      starts : Holds h.label first right y ⊎ (MayCome h y × Acts silent h first)
      carries : (k : ProtectionGraph) → Grows h k → Led silent right y k back first → Led silent right y k way v

    module _ (h : ProtectionGraph) where
      from_on : {way then : Way} {v w : ℕ} → IsFrom h way v → ((k : ProtectionGraph) → Grows h k → Led silent right y k way v → Led silent right y k then w) → IsFrom h then w
      from_on f on = record { first = f.first; starts = f.starts; carries = λ k grows first. on k grows (f.carries k grows first) }

      is_from : (way : Way) (v : ℕ) → Led silent right y h way v → IsFrom h way v
      is_from way v (source held) = record { first = v; starts = inl held; carries = λ k grows led. led }
      is_from way v (maker comes acts) = record { first = v; starts = inr (comes, acts); carries = λ k grows led. led }
      is_from way v (take_back {b = b} edge led) = from_on (is_from back b led) (λ k grows. take_back (grows.labels v T b edge))
      is_from way v (take_on {a = a} edge led) = from_on (is_from forward a led) (λ k grows. take_on (grows.labels a T v edge))
      is_from way v (grant_on {a = a} edge led) = from_on (is_from forward a led) (λ k grows. grant_on (grows.labels a G v edge))
      is_from way v (grant_back {b = b} edge led) = from_on (is_from forward b led) (λ k grows. grant_back (grows.labels v G b edge))
      is_from way v (turns_forward acts led) = from_on (is_from back v led) (λ k grows. turns_forward (Grows-acts silent h k grows v acts))
      is_from way v (turns_back acts led) = from_on (is_from forward v led) (λ k grows. turns_back (Grows-acts silent h k grows v acts))

    -- where y may still be made, or was made before, walks lead on
    pub led_on : (h k : ProtectionGraph) → Grows h k → (MayCome h y → MayCome k y) → (way : Way) (v : ℕ) → Led silent right y h way v → Led silent right y k way v
    led_on h k grows still way v led =
        let f = is_from h way v led in
        f.carries k grows
        (⊎_elim (λ held. source (grows.labels f.first right y held))
        (λ (comes, acts). maker (still comes) (Grows-acts silent h k grows f.first acts)) f.starts)

    -- whom walks lead to shows that y was made, where it may not yet be
    pub over_made : (h : ProtectionGraph) → IsFit h → ¬ MayCome h y → (way : Way) (v : ℕ) → Led silent right y h way v → y < h.made
    over_made h fit past way v led =
        let f = is_from h way v led in
        ⊎_elim (λ held. (fit.made.ends f.first y right held).1) (λ (comes, acts). absurd (past comes)) f.starts

  -- ---- making a name that may come

  -- who acts makes all names up to one that may come
  makes_name : (h : ProtectionGraph) → IsFit h → (p : ℕ) → Acts silent h p → (q : Right) (v : ℕ) → MayCome h v → Leads silent h (v + 1) (HasMadeUpTo h.limit p q v)
  makes_name h fit p acts q v comes =
      let n : ℕ = v - h.made in
      let at : h.made + n ≡ v = omega (arith, comes.0) in
      leads_on silent h (n + 1) 0 (v + 1) (omega (arith, at)) (makes_up_to n h fit p acts q v at comes.1)
      (λ k more used has. stays silent k more.fit has)

  -- and all names before it
  record IsNext (limit v : ℕ) (k : ProtectionGraph) : Type 0 where
    made : k.made ≡ v
    same : k.limit ≡ limit

  makes_below : (h : ProtectionGraph) → IsFit h → (p : ℕ) → Acts silent h p → (v : ℕ) → MayCome h v → Leads silent h (v + 1) (IsNext h.limit v)
  makes_below h fit p acts v comes =
      ⊎_elim
      (λ (next : h.made ≡ v).
      leads_on silent h 0 0 (v + 1) (omega arith) (stays silent h fit (record { made = next; same = refl }))
      (λ k more used there. stays silent k more.fit there))
      (λ other.
      let low : MayCome h (v - 1) = (omega (arith, comes.0, other), omega (arith, comes.1)) in
      leads_on silent h (v - 1 + 1) 0 (v + 1) (omega arith) (makes_name h fit p acts G (v - 1) low)
      (λ k more used has. stays silent k more.fit (record { made = omega (arith, has.made, comes.0, other); same = has.same })))
      (cases_eq h.made v)

-- ---- y isn't made yet: whoever makes it holds the right

module _ (silent : ℕ → Type 0) (g : ProtectionGraph) (fit : IsFit g) (x : ℕ) (right : Right) (y : ℕ) (differ : x ≢ y) where
  abbrev EndsSo : ProtectionGraph → Type 0
  EndsSo h = Ends silent h (λ k. Holds k.label x right y)

  -- one who acts leads to the vertex by take edges
  record IsWalkedTo (v : ℕ) : Type 0 where
    p : ℕ
    acts : Acts silent g p
    walk : TakeWalk silent g p v

  abbrev Walked : Way → ℕ → Type 0
  Walked back v = Unit {0}
  Walked forward v = IsWalkedTo v

  walked : (way : Way) (v : ℕ) → Led silent right y g way v → Walked way v
  walked way v (source held) = tt
  walked way v (maker may acts) = tt
  walked way v (take_back edge led) = tt
  walked way v (take_on {a = a} edge led) =
      let w = walked forward a led in
      record { p = w.p; acts = w.acts; walk = goes w.walk edge }
  walked way v (grant_on edge led) = tt
  walked way v (grant_back edge led) = tt
  walked way v (turns_forward acts led) = record { p = v; acts = acts; walk = begins refl }
  walked way v (turns_back acts led) = tt

  -- x acts, and makes y itself
  makes_itself : MayCome g y → Acts silent g x → EndsSo g
  makes_itself comes acts =
      ends_on silent g (y + 1) (makes_name silent g fit x acts right y comes) (λ k more used has. ends_now silent k has.held)

  -- one who acts and has grant over x makes y
  makes_and_grants : (h : ProtectionGraph) → IsFit h → MayCome h y → (p : ℕ) → Acts silent h p → Holds h.label p G x → EndsSo h
  makes_and_grants h fit_h comes p acts granter =
      ends_on silent h (y + 1) (makes_name silent h fit_h p acts right y comes)
      (λ k more used has.
      ends_by silent k 0 (grants silent k more.fit p (Grows-acts silent h k more p acts) x y right differ (more.labels p G x granter) has.held))

  -- one who acts makes both
  makes_both : MayCome g y → MayCome g x → (p : ℕ) → Acts silent g p → EndsSo g
  makes_both comes comes_x p acts =
      ⊎_elim
      (λ less.
      ends_on silent g (x + 1) (makes_name silent g fit p acts G x comes_x)
      (λ k more used has.
      makes_and_grants k more.fit (omega (arith, has.made, less), omega (arith, comes.1, has.same)) p (Grows-acts silent g k more p acts) has.held))
      (λ more_or_same.
      let less : y < x = omega (arith, more_or_same, differ) in
      ends_on silent g (y + 1) (makes_name silent g fit p acts right y comes)
      (λ k more used has.
      let k_acts = Grows-acts silent g k more p acts in
      ends_on silent k (x + 1) (makes_name silent k more.fit p k_acts G x (omega (arith, has.made, less), omega (arith, comes_x.1, has.same)))
      (λ l more_l used_l has_l.
      ends_by silent l 0 (grants silent l more_l.fit p (Grows-acts silent k l more_l p k_acts) x y right differ has_l.held (more_l.labels p right y has.held)))))
      (cases_lt x y)

  pub new_ends : MayCome g y → IsBrought silent right y g x → EndsSo g
  new_ends comes (is_held held) = ends_now silent g held
  new_ends comes (is_got acts led) = makes_itself comes acts
  new_ends comes (is_given {a = a} granter led) =
      let w = walked forward a led in
      ⊎_elim (λ same. makes_itself comes (subst (Acts silent g) same w.acts))
      (λ other.
      ends_on silent g 0 (gets silent g g (Grows-self g fit) w.p w.acts a w.walk G x granter other)
      (λ k more used holds.
      makes_and_grants k more.fit (omega (arith, used, comes.0), omega (arith, comes.1, more.limit)) w.p (Grows-acts silent g k more w.p w.acts) holds))
      (cases_eq w.p x)
  new_ends comes (is_made {p = p} comes_x acts led) = makes_both comes comes_x p acts

-- ---- x isn't made yet: one who shares the right makes it when it is the next name, or at the end

module _ (silent : ℕ → Type 0) (g : ProtectionGraph) (fit : IsFit g) (few : length g.subjects ≤ MAX_WORKERS) (was_made : (p : ℕ) → silent p → p < g.made) (x : ℕ) (right : Right) (y : ℕ) (differ : x ≢ y) (comes : MayCome g x) (room : g.made + MAX_WORKERS + 1 ≤ g.limit) (past : ¬ MayCome g y) (help : HasHelp silent g y) (p : ℕ) (acts : Acts silent g p) (led : Led silent right y g back p) where
  abbrev GoesSo : ProtectionGraph → Type 0
  GoesSo h = Ends silent h (λ k. Holds k.label x right y)

  -- x is the next name
  is_next : g.made ≡ x → GoesSo g
  is_next next =
      ends_on silent g (x + 1) (makes_name silent g fit p acts G x comes)
      (λ k more used has.
      let still : MayCome g y → MayCome k y = λ may. absurd (past may) in
      let brought = is_given has.held (turns_forward (Grows-acts silent g k more p acts) (led_on silent right y g k more still back p led)) in
      brought_ends silent k more.fit (few_on g k more few) (omega (arith, has.made, has.same, next, room))
      (λ q is. omega (arith, was_made q is, more.made)) x (omega (arith, has.made)) right y differ
      (λ may. past (omega (arith, over_made silent right y g fit past back p led, may.0, more.made), omega (arith, may.1, has.same)))
      (help_on silent y g k more help) brought)

  left : g.made ≤ x → Acts silent g p
  left low = acts

  abbrev SharesIt : ℕ → Type 0
  SharesIt q = Shares silent g x p left right y MAX_WORKERS q

  -- what comes about in time ends with x made by p
  with_x : {P : ProtectionGraph → Type 0} → ((k l : ProtectionGraph) → Grows k l → P k → P l) → InTime silent g x p left MAX_WORKERS P → ((l : ProtectionGraph) → Grows g l → P l → Holds l.label p G x → GoesSo l) → GoesSo g
  with_x on leads go =
      let names : HasNames silent g x p g MAX_WORKERS = omega (arith, room, comes.0, comes.1, others_below x g.made comes.0, others_above x g.limit comes.1) in
      ends_on silent g (MAX_WORKERS + 1) (leads g (Grows-self g fit) (λ low made. absurd (omega (arith, low, made))) names)
      (λ k more used within.
      ⊎_elim (λ made. go k more within.there (within.kept comes.0 made))
      (λ not_yet.
      ends_on silent k (x + 1) (makes_name silent k more.fit p (Grows-acts silent g k more p acts) G x (not_yet, omega (arith, comes.1, more.limit)))
      (λ l more_l used_l has. go l (Grows-on g k l more more_l) (on k l more_l within.there) has.held))
      (cases_lt x k.made))

  other_than_y : p ≢ y → SharesIt p → GoesSo g
  other_than_y not_y shares =
      with_x (λ k l more. HasBox-on right y g.made k l more p) shares.share
      (λ l grown box holds.
      ends_by silent l 0
      (gives silent right y x differ l grown.fit p (Grows-acts silent g l grown p acts) not_y box.box box.both.0 box.full holds))

  from_other : p ≡ y → InTime silent g x p left MAX_WORKERS (λ k. HasCompanion silent g x right y k y) → GoesSo g
  from_other same leads =
      with_x (λ k l more. HasCompanion-on silent g x right y k l more y) leads
      (λ l grown has holds.
      by_companion silent right y g x differ l grown.fit
      (subst (Acts silent l) same (Grows-acts silent g l grown p acts)) has (Grows-acts silent g l grown has.other has.acts)
      (subst (λ (v : ℕ). Holds l.label v G x) same holds))

  -- y spawns x
  by_itself : g.made ≢ x → p ≡ y → Once silent g (λ k. HasBox right y g.made k y) → GoesSo g
  by_itself ahead same once =
      ends_on silent g 1 (once g (Grows-self g fit) (omega (arith, room)))
      (λ k more used box.
      let y_acts : Acts silent k y = subst (Acts silent k) same (Grows-acts silent g k more p acts) in
      ends_on silent k (x + 1) (makes_below silent k more.fit y y_acts x (omega (arith, used, comes.0, ahead), omega (arith, comes.1, more.limit)))
      (λ l more_l used_l next.
      let grown = Grows-on g k l more more_l in
      subst (λ (v : ℕ). Ends silent l (λ m. Holds m.label v right y)) next.made
      (by_spawning silent right y l grown.fit (Grows-acts silent k l more_l y y_acts) (omega (arith, next.made, comes.1, grown.limit))
      (few_on g l grown few) (help_on silent y g l grown help) (λ is. omega (arith, was_made l.made is, grown.made))
      box.box (more_l.labels y T box.box box.both.0) (IsFull-on right y k l more_l.labels box.box box.full))))

  is_later : g.made ≢ x → GoesSo g
  is_later ahead =
      let shares : SharesIt p = shares_in_room silent g fit x p left right y few past p acts led in
      ⊎_elim
      (λ same.
      let of_y : SharesIt y = subst SharesIt same shares in
      ⊎_elim (by_itself ahead same) (from_other same) of_y.from)
      (λ not_y. other_than_y not_y shares)
      (cases_eq p y)

  pub late_ends : GoesSo g
  late_ends = ⊎_elim is_next is_later (cases_eq g.made x)
