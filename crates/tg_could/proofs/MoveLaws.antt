-- Turns that only add: what one who acts brings about by taking, granting and making.
use Rattle.std.proofs.Common.{◌≡◌, ◌≢◌, inl, ℕ, ◌+◌, ◌<◌, ◌≤◌, true, List, [], ◌∷◌, ◌++◌, refl, sym, ap, ◌∙◌, subst, arith}
use Rattle.std.specs.List.{Contains}
use Rattle.tg_rights.specs.RightSet.{RightSet, has, only, union}
use Rattle.tg_rights.proofs.RightLaws.{holds_all-each, holds_all-only}
use Rattle.tg_rights.specs.declared.Right.{Right}
use Rattle.tg_rights.specs.declared.Right.TheVariants.{T, G}
use Rattle.tg_model.specs.declared.law.Law.TheVariants.{Cell}
use Rattle.tg_model.specs.declared.command.Command.{Command}
use Rattle.tg_model.specs.declared.command.Command.TheVariants.{Take, Grant}
use Rattle.tg_model.specs.declared.command.Deed.{Deed}
use Rattle.tg_model.specs.declared.command.Deed.TheVariants.{Create, Plain}
use Rattle.tg_model.specs.Graph.{ProtectionGraph, IsSubject}
use Rattle.tg_model.specs.Picture.{Holds, IsMade}
use Rattle.tg_model.specs.Rules.{HoldsOver, effect, step, with_vertex}
use Rattle.tg_model.proofs.AllowedLaws.{step-allowed, step-created}
use Rattle.tg_model.proofs.PictureLaws.{Holds-still, Holds-added}
use Rattle.tg_could.specs.Turns.{Turn, Acts, AreTurns, after}
use Rattle.tg_could.proofs.SeparationLaws.{IsMade-step}
use Rattle.tg_could.proofs.StillLaws.{still-step}

-- ---- turns, one list after another

pub AreTurns-append : (silent : ℕ → Type 0) (g : ProtectionGraph) (turns more : List Turn) → AreTurns silent g turns → AreTurns silent (after g turns) more → AreTurns silent g (turns ++ more)
AreTurns-append silent g [] more are then = then
AreTurns-append silent g (turn ∷ turns) more are then = (are.0, AreTurns-append silent (step g turn.0 turn.1) turns more are.1 then)

pub after-append : (g : ProtectionGraph) (turns more : List Turn) → after g (turns ++ more) ≡ after (after g turns) more
after-append g [] more = refl
after-append g (turn ∷ turns) more = after-append (step g turn.0 turn.1) turns more

-- ---- graphs that grow

-- what is in the graph was made, and no vertex holds a right over itself
pub record IsFit (h : ProtectionGraph) : Type 0 where
  pub made : IsMade h
  pub no_loop : (a : ℕ) (q : Right) → ¬ Holds h.label a q a

pub IsFit-step : (h : ProtectionGraph) → IsFit h → (p : ℕ) → IsSubject h p → (deed : Deed) → IsFit (step h p deed)
IsFit-step h fit p subject deed = record {
  made = IsMade-step h fit.made p subject deed;
  no_loop = λ a q is. fit.no_loop a q (still-step h fit.made p subject a q a (inl refl) deed is);
}

-- the other graph has what this one has, and the same subjects
pub record Grows (h k : ProtectionGraph) : Type 0 where
  pub labels : (a : ℕ) (q : Right) (b : ℕ) → Holds h.label a q b → Holds k.label a q b
  pub subjects : k.subjects ≡ h.subjects
  pub made : h.made ≤ k.made
  pub limit : h.limit ≤ k.limit
  pub fit : IsFit k

pub Grows-self : (h : ProtectionGraph) → IsFit h → Grows h h
Grows-self h fit = record { labels = λ a q b is. is; subjects = refl; made = omega arith; limit = omega arith; fit = fit }

pub Grows-on : (h k l : ProtectionGraph) → Grows h k → Grows k l → Grows h l
Grows-on h k l one two =
    record {
      labels = λ a q b is. two.labels a q b (one.labels a q b is);
      subjects = two.subjects ∙ one.subjects;
      made = omega (arith, one.made, two.made);
      limit = omega (arith, one.limit, two.limit);
      fit = two.fit;
    }

pub has_itself : (q : Right) → has (only q) q ≡ true
has_itself q = sym (holds_all-only (only q) q) ∙ holds_all-each (only q) (only q) (λ r h. h)

over : (label : ℕ → ℕ → RightSet) (a : ℕ) (q : Right) (b : ℕ) → Holds label a q b → HoldsOver label a b (only q)
over label a q b is = holds_all-only (label a b) q ∙ is

-- an object was made, over which p holds these rights
pub record HasMade (h : ProtectionGraph) (p : ℕ) (rights : RightSet) (k : ProtectionGraph) : Type 0 where
  pub held : (q : Right) → has rights q ≡ true → Holds k.label p q h.made
  pub made : k.made ≡ h.made + 1
  pub limit : k.limit ≡ h.limit

module _ (silent : ℕ → Type 0) where
  pub Grows-acts : (h k : ProtectionGraph) → Grows h k → (p : ℕ) → Acts silent h p → Acts silent k p
  Grows-acts h k grows p acts = (subst (λ l. Contains l p) (sym grows.subjects) acts.0, acts.1)

  -- some turns of who acts lead to a graph that has grown by no more than so many names, and of which this holds
  pub record Leads (h : ProtectionGraph) (names : ℕ) (P : ProtectionGraph → Type 0) : Type 0 where
    pub turns : List Turn
    pub are : AreTurns silent h turns
    pub to : ProtectionGraph
    pub reached : after h turns ≡ to
    pub grows : Grows h to
    pub used : to.made ≤ h.made + names
    pub there : P to

  pub stays : {P : ProtectionGraph → Type 0} (h : ProtectionGraph) → IsFit h → P h → Leads h 0 P
  stays h fit there = record {
    turns = [];
    are = tt;
    to = h;
    reached = refl;
    grows = Grows-self h fit;
    used = omega arith;
    there = there;
  }

  pub leads_on : {P Q : ProtectionGraph → Type 0} (h : ProtectionGraph) (n m both : ℕ) → n + m ≤ both → Leads h n P → ((k : ProtectionGraph) → Grows h k → k.made ≤ h.made + n → P k → Leads k m Q) → Leads h both Q
  leads_on h n m both sum first go =
      let second = go first.to first.grows first.used first.there in
      record {
        turns = first.turns ++ second.turns;
        are = AreTurns-append silent h first.turns second.turns first.are
            (subst (λ (k : ProtectionGraph). AreTurns silent k second.turns) (sym first.reached) second.are);
        to = second.to;
        reached = after-append h first.turns second.turns
            ∙ (ap (λ (k : ProtectionGraph). after k second.turns) first.reached ∙ second.reached);
        grows = Grows-on h first.to second.to first.grows second.grows;
        used = omega (arith, sum, first.used, second.used);
        there = second.there;
      }

  -- the same turns, where no more names than so many were made
  pub leads_within : {P : ProtectionGraph → Type 0} (h : ProtectionGraph) (n m : ℕ) → Leads h n P → ((k : ProtectionGraph) → P k → k.made ≤ h.made + m) → Leads h m P
  leads_within h n m leads most = record {
    turns = leads.turns;
    are = leads.are;
    to = leads.to;
    reached = leads.reached;
    grows = leads.grows;
    used = most leads.to leads.there;
    there = leads.there;
  }

  module _ (h : ProtectionGraph) (fit : IsFit h) (p : ℕ) (acts : Acts silent h p) where
    -- one turn leads to a graph that has what this one has
    one_turn : {P : ProtectionGraph → Type 0} (deed : Deed) (k : ProtectionGraph) → step h p deed ≡ k → ((a : ℕ) (q : Right) (b : ℕ) → Holds h.label a q b → Holds k.label a q b) → k.subjects ≡ h.subjects → h.made ≤ k.made → h.limit ≤ k.limit → (n : ℕ) → k.made ≤ h.made + n → P k → Leads h n P
    one_turn deed k is labels subjects made limit n used there = record {
      turns = (p, deed) ∷ [];
      are = (acts, tt);
      to = k;
      reached = is;
      grows = record { labels = labels; subjects = subjects; made = made; limit = limit; fit = subst IsFit is (IsFit-step h fit p acts.0 deed) };
      used = used;
      there = there;
    }

    -- who holds take over one takes a right of that one's
    pub takes : (via z : ℕ) (q : Right) → p ≢ z → Holds h.label p T via → Holds h.label via q z → Leads h 0 (λ k. Holds k.label p q z)
    takes via z q differ taker held =
        let command : Command = Take (only q) via z in
        let is = step-allowed h p command (
          (λ same. fit.no_loop via T (subst (λ (v : ℕ). Holds h.label v T via) same taker)),
          (λ same. fit.no_loop z q (subst (λ (v : ℕ). Holds h.label v q z) same held)),
          differ,
          over h.label p T via taker,
          over h.label via q z held,
        ) in
        one_turn (Plain command) (effect h p command) is (Holds-still h.label p z (only q)) refl (omega arith) (omega arith) 0 (omega arith)
        (Holds-added h.label p z (only q) q (has_itself q))

    -- who holds grant over one grants to that one a right of its own
    pub grants : (via z : ℕ) (q : Right) → via ≢ z → Holds h.label p G via → Holds h.label p q z → Leads h 0 (λ k. Holds k.label via q z)
    grants via z q differ granter held =
        let command : Command = Grant (only q) via z in
        let is = step-allowed h p command (
          (λ same. fit.no_loop via G (subst (λ (v : ℕ). Holds h.label v G via) same granter)),
          differ,
          (λ same. fit.no_loop z q (subst (λ (v : ℕ). Holds h.label v q z) same held)),
          over h.label p G via granter,
          over h.label p q z held,
        ) in
        one_turn (Plain command) (effect h p command) is (Holds-still h.label via z (only q)) refl (omega arith) (omega arith) 0 (omega arith)
        (Holds-added h.label via z (only q) q (has_itself q))

    -- who acts makes an object, over which it holds these rights
    pub makes_one : (rights : RightSet) → h.made < h.limit → Leads h 1 (HasMade h p rights)
    makes_one rights room =
        one_turn (Create rights Cell []) (with_vertex h p rights (record { law = Cell; state = [] })) (step-created h p rights Cell [] room)
        (Holds-still h.label p h.made rights) refl (omega arith) (omega arith) 1 (omega arith)
        (record { held = λ q is. Holds-added h.label p h.made rights q is; made = refl; limit = refl })

    -- one over which it holds take and grant
    pub makes : h.made < h.limit → Leads h 1 (λ k. Holds k.label p T h.made × Holds k.label p G h.made)
    makes room =
        leads_on h 1 0 1 (omega arith) (makes_one (union (only T) (only G)) room)
        (λ k more used has. stays k more.fit (has.held T refl, has.held G refl))
