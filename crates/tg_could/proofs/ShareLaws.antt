-- Who acts and may get the right shares it with others, through objects that it makes.
use Rattle.std.proofs.Common.{◌≡◌, ◌≢◌, ◌⊎◌, inl, inr, ⊎_elim, ℕ, ◌+◌, ◌<◌, ◌≤◌, sym, subst, arith}
use Rattle.std.proofs.lemmas.Bool.{cases_eq}
use Rattle.tg_rights.specs.declared.Right.{Right}
use Rattle.tg_rights.specs.declared.Right.TheVariants.{T, G}
use Rattle.tg_model.specs.Graph.{ProtectionGraph}
use Rattle.tg_model.specs.Picture.{Holds}
use Rattle.tg_model.specs.Walks.{Walk, begins, goes}
use Rattle.tg_could.specs.Turns.{Acts}
use Rattle.tg_could.proofs.MoveLaws.{Grows, Grows-on, Grows-acts, Leads, stays, leads_on, takes, grants, makes}
use Rattle.tg_could.proofs.SpareLaws.{Kept, HasNames, Spares, spares_on, spares_by, spares_none, spares_one, others_most}

-- p holds take and grant over z
abbrev pub HasBoth : ℕ → ℕ → ProtectionGraph → Type 0
HasBoth p z h = Holds h.label p T z × Holds h.label p G z

pub both_on : (h k : ProtectionGraph) → Grows h k → (p z : ℕ) → HasBoth p z h → HasBoth p z k
both_on h k grows p z both = (grows.labels p T z both.0, grows.labels p G z both.1)

-- the right over y can be fetched out of an object: it holds it, or take over one who does
pub record IsFull (right : Right) (y : ℕ) (h : ProtectionGraph) (box : ℕ) : Type 0 where
  pub either : Holds h.label box right y ⊎ ((s : ℕ) × Holds h.label box T s × Holds h.label s right y)

-- one who acts holds take and grant over an object that was made later, out of which the right can be fetched
pub record HasBox (right : Right) (y : ℕ) (first : ℕ) (h : ProtectionGraph) (p : ℕ) : Type 0 where
  pub box : ℕ
  pub later : first ≤ box
  pub both : HasBoth p box h
  pub full : IsFull right y h box

-- two hold take and grant over one object
abbrev pub AreLinked : ℕ → ProtectionGraph → ℕ → ℕ → Type 0
AreLinked link h p q = HasBoth p link h × HasBoth q link h

pub IsFull-on : (right : Right) (y : ℕ) (h k : ProtectionGraph) → ((a : ℕ) (q : Right) (b : ℕ) → Holds h.label a q b → Holds k.label a q b) → (box : ℕ) → IsFull right y h box → IsFull right y k box
IsFull-on right y h k still box full = record {
  either = ⊎_elim (λ is. inl (still box right y is))
      (λ (s, taker, held). inr (s, still box T s taker, still s right y held)) full.either;
}

pub HasBox-on : (right : Right) (y first : ℕ) (h k : ProtectionGraph) → Grows h k → (p : ℕ) → HasBox right y first h p → HasBox right y first k p
HasBox-on right y first h k grows p has = record {
  box = has.box;
  later = has.later;
  both = both_on h k grows p has.box has.both;
  full = IsFull-on right y h k grows.labels has.box has.full;
}

module _ (silent : ℕ → Type 0) (g : ProtectionGraph) where
  -- a walk of take edges leads from p to a vertex
  abbrev pub TakeWalk : ℕ → ℕ → Type 0
  TakeWalk p = Walk (λ c. c ≡ p) (λ a b. Holds g.label a T b)

  -- another one who acts has such an object, and is linked to p by one that was made later and isn't the one with this name
  pub record HasCompanion (name : ℕ) (right : Right) (y : ℕ) (h : ProtectionGraph) (p : ℕ) : Type 0 where
    pub other : ℕ
    pub acts : Acts silent g other
    pub differ : p ≢ other
    pub box : HasBox right y g.made h other
    pub link : ℕ
    pub apart : link ≢ name
    pub linked : AreLinked link h p other

  pub HasCompanion-on : (name : ℕ) (right : Right) (y : ℕ) (h k : ProtectionGraph) → Grows h k → (p : ℕ) → HasCompanion name right y h p → HasCompanion name right y k p
  HasCompanion-on name right y h k grows p has = record {
    other = has.other;
    acts = has.acts;
    differ = has.differ;
    box = HasBox-on right y g.made h k grows has.other has.box;
    link = has.link;
    apart = has.apart;
    linked = (both_on h k grows p has.link has.linked.0, both_on h k grows has.other has.link has.linked.1);
  }

  -- from each graph that has grown from the first one and on which a name is left this comes about, and takes that one
  abbrev pub Once : (ProtectionGraph → Type 0) → Type 0
  Once P = (h : ProtectionGraph) → Grows g h → h.made < h.limit → Leads silent h 1 P

  module _ (h : ProtectionGraph) (grows : Grows g h) where
    acts_on : (p : ℕ) → Acts silent g p → Acts silent h p
    acts_on p acts = Grows-acts silent g h grows p acts

    was_made : (p : ℕ) → Acts silent g p → p < h.made
    was_made p acts = grows.fit.made.subjects p (acts_on p acts).0

  -- ---- taking along a walk

  -- who acts gets each right of a vertex that a walk leads to
  pub gets : (h : ProtectionGraph) → Grows g h → (p : ℕ) → Acts silent g p → (v : ℕ) → TakeWalk p v → (q : Right) (z : ℕ) → Holds g.label v q z → p ≢ z → Leads silent h 0 (λ k. Holds k.label p q z)
  gets h grows p acts v (begins at) q z held differ =
      stays silent h grows.fit (subst (λ (c : ℕ). Holds h.label c q z) at (grows.labels v q z held))
  gets h grows p acts v (goes {b = b} walk edge) q z held differ =
      ⊎_elim
      (λ same. stays silent h grows.fit (subst (λ (c : ℕ). Holds h.label c q z) (sym same) (grows.labels v q z held)))
      (λ other.
      leads_on silent h 0 0 0 (omega arith) (gets h grows p acts b walk T v edge other)
      (λ k more used taker.
      takes silent k more.fit p (acts_on k (Grows-on g h k grows more) p acts) v z q differ taker (more.labels v q z (grows.labels v q z held))))
      (cases_eq p v)

  -- and take over the vertex itself
  comes_to : (h : ProtectionGraph) → Grows g h → (p : ℕ) → Acts silent g p → (v : ℕ) → TakeWalk p v → p ≢ v → Leads silent h 0 (λ k. Holds k.label p T v)
  comes_to h grows p acts v (begins at) differ = absurd (differ (sym at))
  comes_to h grows p acts v (goes {b = b} walk edge) differ = gets h grows p acts b walk T v edge differ

  -- who holds take over one takes both take and grant of that one's over an object
  takes_both : (h : ProtectionGraph) → Grows g h → (p : ℕ) → Acts silent g p → (via z : ℕ) → p ≢ z → Holds h.label p T via → HasBoth via z h → Leads silent h 0 (HasBoth p z)
  takes_both h grows p acts via z differ taker both =
      leads_on silent h 0 0 0 (omega arith) (takes silent h grows.fit p (acts_on h grows p acts) via z T differ taker both.0)
      (λ k more used got.
      leads_on silent k 0 0 0 (omega arith)
      (takes silent k more.fit p (acts_on k (Grows-on g h k grows more) p acts) via z G differ (more.labels p T via taker) (more.labels via G z both.1))
      (λ l last used_too got_too. stays silent l last.fit (last.labels p T z got, got_too)))

  -- who holds grant over one grants to that one both take and grant over an object
  grants_both : (h : ProtectionGraph) → Grows g h → (p : ℕ) → Acts silent g p → (via z : ℕ) → via ≢ z → Holds h.label p G via → HasBoth p z h → Leads silent h 0 (HasBoth via z)
  grants_both h grows p acts via z differ granter both =
      leads_on silent h 0 0 0 (omega arith) (grants silent h grows.fit p (acts_on h grows p acts) via z T differ granter both.0)
      (λ k more used got.
      leads_on silent k 0 0 0 (omega arith)
      (grants silent k more.fit p (acts_on k (Grows-on g h k grows more) p acts) via z G differ (more.labels p G via granter) (more.labels p G z both.1))
      (λ l last used_too got_too. stays silent l last.fit (last.labels via T z got, got_too)))

  -- ---- links

  module _ (p q : ℕ) (p_acts : Acts silent g p) (q_acts : Acts silent g q) (differ : p ≢ q) where
    abbrev pub Link : Type 0
    Link = (h : ProtectionGraph) → Grows g h → h.made < h.limit → Leads silent h 1 (λ k. AreLinked h.made k p q)

    -- q, which holds take over a vertex, takes from it what is there
    linked : (h : ProtectionGraph) → Grows g h → (link via : ℕ) → q < link → HasBoth p link h → HasBoth via link h → Holds h.label q T via → Leads silent h 0 (λ k. AreLinked link k p q)
    linked h grows link via later own there taker =
        leads_on silent h 0 0 0 (omega arith) (takes_both h grows q q_acts via link (λ same. omega (arith, same, later)) taker there)
        (λ k more used took. stays silent k more.fit (both_on h k more p link own, took))

    -- q comes to take over p, and takes what p made
    pub link_by_walk : TakeWalk q p → Link
    link_by_walk walk h grows room =
        let q_made = was_made h grows q q_acts in
        leads_on silent h 1 0 1 (omega arith) (makes silent h grows.fit p (acts_on h grows p p_acts) room)
        (λ k more used own.
        let from = Grows-on g h k grows more in
        leads_on silent k 0 0 0 (omega arith) (comes_to k from q q_acts p walk (λ same. differ (sym same)))
        (λ l more_l used_l taker.
        let own_l = both_on k l more_l p h.made own in
        linked l (Grows-on g k l from more_l) h.made p q_made own_l own_l taker))

    -- p comes to grant over b and puts there what it made, and q is b or takes it from there
    module _ (a b : ℕ) (to_a : TakeWalk p a) (granter : Holds g.label a G b) (to_b : TakeWalk q b) where
      fetched : (h : ProtectionGraph) → Grows g h → (link : ℕ) → q < link → HasBoth p link h → HasBoth b link h → Leads silent h 0 (λ k. AreLinked link k p q)
      fetched h grows link later own there =
          ⊎_elim (λ same. stays silent h grows.fit (own, subst (λ (v : ℕ). HasBoth v link h) (sym same) there))
          (λ other.
          leads_on silent h 0 0 0 (omega arith) (comes_to h grows q q_acts b to_b other)
          (λ k more used taker.
          linked k (Grows-on g h k grows more) link b later (both_on h k more p link own) (both_on h k more b link there) taker))
          (cases_eq q b)

      over_other : p ≢ b → Link
      over_other other h grows room =
          let q_made = was_made h grows q q_acts in
          let b_made = (grows.fit.made.ends a b G (grows.labels a G b granter)).1 in
          leads_on silent h 1 0 1 (omega arith) (makes silent h grows.fit p (acts_on h grows p p_acts) room)
          (λ k more used own.
          let from = Grows-on g h k grows more in
          leads_on silent k 0 0 0 (omega arith) (gets k from p p_acts a to_a G b granter other)
          (λ l more_l used_l holds.
          let from_l = Grows-on g k l from more_l in
          let own_l = both_on k l more_l p h.made own in
          leads_on silent l 0 0 0 (omega arith)
          (grants_both l from_l p p_acts b h.made (λ same. omega (arith, same, b_made)) holds own_l)
          (λ m more_m used_m there. fetched m (Grows-on g l m from_l more_m) h.made q_made (both_on l m more_m p h.made own_l) there)))

      pub link_over : Link
      link_over =
          ⊎_elim (λ same. link_by_walk (subst (TakeWalk q) (sym same) to_b)) over_other (cases_eq p b)

  -- ---- handing on

  -- p hands on its object through a link
  module _ (right : Right) (y : ℕ) (p q : ℕ) (p_acts : Acts silent g p) (q_acts : Acts silent g q) where
    hands_on : (h : ProtectionGraph) → Grows g h → HasBox right y g.made h p → q < g.made → (k : ProtectionGraph) → Grows h k → AreLinked h.made k p q → Leads silent k 0 (λ l. HasBox right y g.made l q)
    hands_on h grows has q_made k more linked =
        let box_made = (grows.fit.made.ends p has.box T has.both.0).1 in
        let from = Grows-on g h k grows more in
        leads_on silent k 0 0 0 (omega arith)
        (grants_both k from p p_acts h.made has.box (λ same. omega (arith, same, box_made)) linked.0.1 (both_on h k more p has.box has.both))
        (λ l more_l used_l there.
        let from_l = Grows-on g k l from more_l in
        leads_on silent l 0 0 0 (omega arith)
        (takes_both l from_l q q_acts h.made has.box (λ same. omega (arith, same, has.later, q_made)) (more_l.labels q T h.made linked.1.0) there)
        (λ m more_m used_m both.
        stays silent m more_m.fit (record {
          box = has.box;
          later = has.later;
          both = both;
          full = IsFull-on right y l m more_m.labels has.box (IsFull-on right y k l more_l.labels has.box (IsFull-on right y h k more.labels has.box has.full));
        })))

  -- ---- where it begins

  module _ (right : Right) (y : ℕ) (p s : ℕ) (acts : Acts silent g p) (source : Holds g.label s right y) where
    -- p makes an object, and puts a right into it
    puts : (h : ProtectionGraph) → Grows g h → h.made < h.limit → (q : Right) (z : ℕ) → Holds h.label p q z → ((k : ProtectionGraph) → Grows h k → (box : ℕ) → Holds k.label box q z → IsFull right y k box) → Leads silent h 1 (λ k. HasBox right y g.made k p)
    puts h grows room q z held fills =
        let z_made = (grows.fit.made.ends p z q held).1 in
        leads_on silent h 1 0 1 (omega arith) (makes silent h grows.fit p (acts_on h grows p acts) room)
        (λ k more used own.
        leads_on silent k 0 0 0 (omega arith)
        (grants silent k more.fit p (acts_on k (Grows-on g h k grows more) p acts) h.made z q (λ same. omega (arith, same, z_made)) own.1 (more.labels p q z held))
        (λ l more_l used_l there.
        stays silent l more_l.fit (record {
          box = h.made;
          later = grows.made;
          both = both_on k l more_l p h.made own;
          full = fills l (Grows-on h k l more more_l) h.made there;
        })))

    pub first : TakeWalk p s → Once (λ k. HasBox right y g.made k p)
    first walk h grows room =
        ⊎_elim
        (λ same.
        puts h grows room right y (subst (λ (v : ℕ). Holds h.label v right y) (sym same) (grows.labels s right y source))
        (λ k more box there. record { either = inl there }))
        (λ other.
        leads_on silent h 0 1 1 (omega arith) (comes_to h grows p acts s walk other)
        (λ k more used taker.
        let from = Grows-on g h k grows more in
        puts k from (omega (arith, room, used, more.limit)) T s taker
        (λ l more_l box there. record { either = inr (s, there, more_l.labels s right y (from.labels s right y source)) })))
        (cases_eq p s)

  -- ---- with a name that is left to its owner

  module _ (name owner : ℕ) (may : g.made ≤ name → Acts silent g owner) where
    -- from each graph that has grown from the first one this comes about, where so many other names are left
    abbrev pub InTime : ℕ → (ProtectionGraph → Type 0) → Type 0
    InTime names P = (h : ProtectionGraph) → Grows g h → Kept silent g name owner h → HasNames silent g name owner h names → Spares silent g name owner h names P

    -- p comes to have such an object with so many names: with one alone, or from another one
    pub record Shares (right : Right) (y : ℕ) (names : ℕ) (p : ℕ) : Type 0 where
      pub share : InTime names (λ k. HasBox right y g.made k p)
      pub from : Once (λ k. HasBox right y g.made k p) ⊎ InTime names (λ k. HasCompanion name right y k p)

    InTime-more : {P : ProtectionGraph → Type 0} (n m : ℕ) → n ≤ m → InTime n P → InTime m P
    InTime-more n m more leads h grows kept room =
        spares_by silent g name owner h n m more (leads h grows kept (omega (arith, room, more))) (λ k grown there. there)

    pub Shares-more : (right : Right) (y p n m : ℕ) → n ≤ m → Shares right y n p → Shares right y m p
    Shares-more right y p n m more shares = record {
      share = InTime-more n m more shares.share;
      from = ⊎_elim (λ once. inl once) (λ from. inr (InTime-more n m more from)) shares.from;
    }

    pub shares_first : (right : Right) (y p s : ℕ) → Acts silent g p → Holds g.label s right y → TakeWalk p s → Shares right y 1 p
    shares_first right y p s acts source walk =
        let once = first right y p s acts source walk in
        record {
          share = λ h grows kept room.
              spares_by silent g name owner h 1 1 (omega arith) (spares_one silent g name owner may {P = λ k l. HasBox right y g.made l p} once h grows kept room)
              (λ k more one. one.there);
          from = inl once;
        }

    module _ (right : Right) (y : ℕ) (p q : ℕ) (p_acts : Acts silent g p) (q_acts : Acts silent g q) (differ : p ≢ q) (link : Link p q p_acts q_acts differ) where
      -- after the object of p a link, and the outcome of both
      through : (n : ℕ) → Shares right y n p → {P : ProtectionGraph → Type 0} → ((k : ProtectionGraph) → Grows g k → k.made ≢ name → HasBox right y g.made k p → (l : ProtectionGraph) → Grows k l → AreLinked k.made l p q → Leads silent l 0 P) → InTime (n + 1) P
      through n shares go h grows kept room =
          spares_on silent g name owner h n 1 (n + 1) (omega arith) (shares.share h grows kept (omega (arith, room)))
          (λ k more kept_k used has.
          let from = Grows-on g h k grows more in
          let left : HasNames silent g name owner k 1 = omega (arith, room, used, others_most name h.limit k.limit 0 (omega (arith, more.limit))) in
          spares_on silent g name owner k 1 0 1 (omega arith) (spares_one silent g name owner may {P = λ s l. AreLinked s.made l p q} link k from kept_k left)
          (λ l more_l kept_l used_l one.
          spares_none silent g name owner l kept_l
          (go one.start (Grows-on g k one.start from one.more) one.apart (HasBox-on right y g.made k one.start one.more p has) l one.grown one.there)))

      pub shares_on : (n : ℕ) → Shares right y n p → q < g.made → Shares right y (n + 1) q
      shares_on n shares q_made = record {
        share = through n shares (λ k from apart has l more linked. hands_on right y p q p_acts q_acts k from has q_made l more linked);
        from = inr
            (through n shares (λ k from apart has l more linked.
            stays silent l more.fit (record {
              other = p;
              acts = p_acts;
              differ = λ same. differ (sym same);
              box = HasBox-on right y g.made k l more p has;
              link = k.made;
              apart = apart;
              linked = (linked.1, linked.0);
            })));
      }
