-- The end: who shares the right hands it to x.
use Rattle.std.proofs.Common.{◌≡◌, ◌≢◌, ⊎_elim, ℕ, ◌+◌, ◌<◌, ◌≤◌, ◌==◌, Bool, not, cond, List, [], ◌∷◌, ◌++◌, length, get_or, refl, sym, ap, ◌∙◌, subst, arith, eq-eqb}
use Rattle.std.proofs.lemmas.Bool.{cases_eq}
use Rattle.std.proofs.lemmas.List.Filters.{length-filter_both}
use Rattle.std.proofs.lemmas.List.Sums.{get_or-le-sum_by, length-filter}
use Rattle.std.specs.List.{Contains}
use Rattle.std.proofs.lemmas.List.Elements.{Contains-append_left, Contains-push}
use Rattle.tg_rights.specs.RightSet.{only}
use Rattle.tg_rights.specs.declared.Right.{Right}
use Rattle.tg_rights.specs.declared.Right.TheVariants.{T, G}
use Rattle.tg_model.specs.declared.law.Law.TheVariants.{Cell}
use Rattle.tg_model.specs.declared.opening.TheConstants.{MAX_WORKERS}
use Rattle.tg_model.specs.declared.command.Command.TheVariants.{Retire}
use Rattle.tg_model.specs.declared.command.Deed.{Deed}
use Rattle.tg_model.specs.declared.command.Deed.TheVariants.{Spawn, Plain}
use Rattle.tg_model.specs.Graph.{ProtectionGraph, without_subject}
use Rattle.tg_model.specs.Picture.{Holds}
use Rattle.tg_model.specs.Rules.{step}
use Rattle.tg_model.proofs.AllowedLaws.{step-allowed, step-spawned}
use Rattle.tg_model.proofs.PictureLaws.{Holds-still, Holds-added}
use Rattle.tg_model.proofs.SubjectLaws.{is_without}
use Rattle.tg_could.specs.Turns.{Turn, Acts, AreTurns, after}
use Rattle.tg_could.specs.Led.{HasHelp}
use Rattle.tg_could.proofs.MoveLaws.{AreTurns-append, after-append, IsFit, IsFit-step, Grows, Grows-acts, Leads, stays, leads_on, takes, grants}
use Rattle.tg_could.proofs.ShareLaws.{IsFull, IsFull-on, HasBox-on, HasCompanion}

-- ---- one subject less

pub shorter : (subjects : List ℕ) (x : ℕ) → Contains subjects x → length (without_subject subjects x) < length subjects
shorter subjects x (k, inside, at) =
    let both = length-filter_both (λ s. not (s == x)) (λ s. not (not (s == x))) (λ s. refl) subjects in
    let counted = length-filter (λ s. not (not (s == x))) subjects in
    let count : Bool → ℕ = λ t. cond (not (not t)) 1 0 in
    let one : count (get_or subjects k x == x) ≡ 1 = ap count (eq-eqb (get_or subjects k x) x at) in
    let most = get_or-le-sum_by (λ s. cond (not (not (s == x))) 1 0) subjects k x inside in
    omega (arith, both, counted, one, most)

module _ (silent : ℕ → Type 0) where
  -- some turns of who acts lead to a graph of which this holds
  pub record Ends (h : ProtectionGraph) (P : ProtectionGraph → Type 0) : Type 0 where
    pub turns : List Turn
    pub are : AreTurns silent h turns
    pub there : P (after h turns)

  pub ends_now : {P : ProtectionGraph → Type 0} (h : ProtectionGraph) → P h → Ends h P
  ends_now h there = record { turns = []; are = tt; there = there }

  pub ends_on : {P Q : ProtectionGraph → Type 0} (h : ProtectionGraph) (n : ℕ) → Leads silent h n P → ((k : ProtectionGraph) → Grows h k → k.made ≤ h.made + n → P k → Ends k Q) → Ends h Q
  ends_on {Q = Q} h n first go =
      let second = go first.to first.grows first.used first.there in
      record {
        turns = first.turns ++ second.turns;
        are = AreTurns-append silent h first.turns second.turns first.are
            (subst (λ (k : ProtectionGraph). AreTurns silent k second.turns) (sym first.reached) second.are);
        there = subst Q (sym (after-append h first.turns second.turns ∙ ap (λ (k : ProtectionGraph). after k second.turns) first.reached)) second.there;
      }

  -- what is led to is an end
  pub ends_by : {P : ProtectionGraph → Type 0} (h : ProtectionGraph) (n : ℕ) → Leads silent h n P → Ends h P
  ends_by h n leads = ends_on h n leads (λ k more used there. ends_now k there)

  ends_after : {Q : ProtectionGraph → Type 0} (h : ProtectionGraph) (p : ℕ) → Acts silent h p → (deed : Deed) (k : ProtectionGraph) → step h p deed ≡ k → Ends k Q → Ends h Q
  ends_after {Q = Q} h p acts deed k is rest = record {
    turns = (p, deed) ∷ rest.turns;
    are = (acts, subst (λ (l : ProtectionGraph). AreTurns silent l rest.turns) (sym is) rest.are);
    there = subst (λ (l : ProtectionGraph). Q (after l rest.turns)) (sym is) rest.there;
  }

  module _ (right : Right) (y : ℕ) where
    -- who holds take over an object out of which the right can be fetched fetches it
    pub fetches : (h : ProtectionGraph) → IsFit h → (p : ℕ) → Acts silent h p → p ≢ y → (box : ℕ) → Holds h.label p T box → IsFull right y h box → Leads silent h 0 (λ k. Holds k.label p right y)
    fetches h fit p acts not_y box taker full =
        ⊎_elim (λ held. takes silent h fit p acts box y right not_y taker held)
        (λ (s, take, held).
        ⊎_elim (λ same. stays silent h fit (subst (λ (v : ℕ). Holds h.label v right y) (sym same) held))
        (λ other.
        leads_on silent h 0 0 0 (omega arith) (takes silent h fit p acts box s T other taker take)
        (λ k more used got.
        takes silent k more.fit p (Grows-acts silent h k more p acts) s y right not_y got (more.labels s right y held)))
        (cases_eq p s))
        full.either

    -- and grants it to x
    pub gives : (x : ℕ) → x ≢ y → (h : ProtectionGraph) → IsFit h → (p : ℕ) → Acts silent h p → p ≢ y → (box : ℕ) → Holds h.label p T box → IsFull right y h box → Holds h.label p G x → Leads silent h 0 (λ k. Holds k.label x right y)
    gives x differ h fit p acts not_y box taker full granter =
        leads_on silent h 0 0 0 (omega arith) (fetches h fit p acts not_y box taker full)
        (λ k more used got. grants silent k more.fit p (Grows-acts silent h k more p acts) x y right differ (more.labels p G x granter) got)

    -- y spawns one over whom it has grant
    spawns : {Q : ProtectionGraph → Type 0} (h : ProtectionGraph) → IsFit h → Acts silent h y → h.made < h.limit → length h.subjects < MAX_WORKERS → ¬ silent h.made → ((k : ProtectionGraph) → IsFit k → ((a : ℕ) (q : Right) (b : ℕ) → Holds h.label a q b → Holds k.label a q b) → Acts silent k y → Acts silent k h.made → Holds k.label y G h.made → Ends k Q) → Ends h Q
    spawns h fit acts room few speaks go =
        let deed : Deed = Spawn (only G) Cell [] in
        let is = step-spawned h y (only G) Cell [] room few in
        let still : (a : ℕ) (q : Right) (b : ℕ) → Holds h.label a q b → Holds (step h y deed).label a q b =
        λ a q b there. subst (λ (k : ProtectionGraph). Holds k.label a q b) (sym is) (Holds-still h.label y h.made (only G) a q b there) in
        let over_new : Holds (step h y deed).label y G h.made =
        subst (λ (k : ProtectionGraph). Holds k.label y G h.made) (sym is) (Holds-added h.label y h.made (only G) G refl) in
        let acts_still : Acts silent (step h y deed) y =
        (subst (λ (k : ProtectionGraph). Contains k.subjects y) (sym is) (Contains-append_left h.subjects (h.made ∷ []) y acts.0), acts.1) in
        let new_acts : Acts silent (step h y deed) h.made =
        (subst (λ (k : ProtectionGraph). Contains k.subjects h.made) (sym is) (Contains-push h.subjects h.made), speaks) in
        ends_after h y acts deed (step h y deed) refl (go (step h y deed) (IsFit-step h fit y acts.0 deed) still acts_still new_acts over_new)

    -- where as many act as may be, another one retires first
    with_place : {Q : ProtectionGraph → Type 0} (h : ProtectionGraph) → IsFit h → Acts silent h y → length h.subjects ≤ MAX_WORKERS → HasHelp silent h y → ((k : ProtectionGraph) → IsFit k → Acts silent k y → length k.subjects < MAX_WORKERS → ((a : ℕ) (q : Right) (b : ℕ) → Holds h.label a q b → Holds k.label a q b) → k.made ≡ h.made → k.limit ≡ h.limit → Ends k Q) → Ends h Q
    with_place h fit acts most help go =
        ⊎_elim (λ few. go h fit acts few (λ a q b there. there) refl refl)
        (λ (p, p_acts, other).
        let is = step-allowed h p Retire tt in
        ends_after h p p_acts (Plain Retire) _ is
        (go _ (subst IsFit is (IsFit-step h fit p p_acts.0 (Plain Retire)))
        ((is_without h.subjects p y).1 (acts.0, λ same. other (sym same)), acts.1) (omega (arith, shorter h.subjects p p_acts.0, most))
        (λ a q b there. there) refl refl))
        help

    module _ (x : ℕ) (differ : x ≢ y) (box : ℕ) where
      -- who was spawned gets what y has, and gives the right to x
      by_new : (k : ProtectionGraph) → IsFit k → Acts silent k y → (w : ℕ) → Acts silent k w → w ≢ y → w ≢ box → w ≢ x → Holds k.label y G w → Holds k.label y T box → IsFull right y k box → Holds k.label y G x → Ends k (λ l. Holds l.label x right y)
      by_new k fit acts w w_acts not_y not_box not_x over taker full granter =
          ends_on k 0 (grants silent k fit y acts w box T not_box over taker)
          (λ l more used took.
          ends_on l 0
          (grants silent l more.fit y (Grows-acts silent k l more y acts) w x G not_x (more.labels y G w over) (more.labels y G x granter))
          (λ m more_m used_m granted.
          let acts_l : Acts silent l w = Grows-acts silent k l more w w_acts in
          ends_by m 0
          (gives x differ m more_m.fit w (Grows-acts silent l m more_m w acts_l) not_y box (more_m.labels w T box took)
          (IsFull-on right y l m more_m.labels box (IsFull-on right y k l more.labels box full)) granted)))

      -- y itself can't hold the right: it spawns one who gives it to x
      by_spawned : (h : ProtectionGraph) → IsFit h → Acts silent h y → h.made < h.limit → length h.subjects < MAX_WORKERS → ¬ silent h.made → Holds h.label y T box → IsFull right y h box → Holds h.label y G x → Ends h (λ k. Holds k.label x right y)
      by_spawned h fit acts room few speaks taker full granter =
          let y_made = fit.made.subjects y acts.0 in
          let box_made = (fit.made.ends y box T taker).1 in
          let x_made = (fit.made.ends y x G granter).1 in
          spawns h fit acts room few speaks
          (λ k k_fit still y_acts new_acts over_new.
          by_new k k_fit y_acts h.made new_acts
          (λ same. omega (arith, same, y_made)) (λ same. omega (arith, same, box_made)) (λ same. omega (arith, same, x_made))
          over_new (still y T box taker) (IsFull-on right y h k still box full) (still y G x granter))

      pub by_help : (h : ProtectionGraph) → IsFit h → Acts silent h y → h.made < h.limit → length h.subjects ≤ MAX_WORKERS → HasHelp silent h y → ¬ silent h.made → Holds h.label y T box → IsFull right y h box → Holds h.label y G x → Ends h (λ k. Holds k.label x right y)
      by_help h fit acts room most help speaks taker full granter =
          with_place h fit acts most help
          (λ k k_fit y_acts few still made limit.
          by_spawned k k_fit y_acts (omega (arith, room, made, limit)) few (subst (λ (v : ℕ). ¬ silent v) (sym made) speaks)
          (still y T box taker) (IsFull-on right y h k still box full) (still y G x granter))

    -- or x isn't made yet and the next name, so that y spawns it
    pub by_spawning : (h : ProtectionGraph) → IsFit h → Acts silent h y → h.made < h.limit → length h.subjects ≤ MAX_WORKERS → HasHelp silent h y → ¬ silent h.made → (box : ℕ) → Holds h.label y T box → IsFull right y h box → Ends h (λ k. Holds k.label h.made right y)
    by_spawning h fit acts room most help speaks box taker full =
        let y_made = fit.made.subjects y acts.0 in
        let box_made = (fit.made.ends y box T taker).1 in
        with_place h fit acts most help
        (λ k k_fit y_acts few still made limit.
        subst (λ (v : ℕ). Ends k (λ l. Holds l.label v right y)) made
        (spawns k k_fit y_acts (omega (arith, room, made, limit)) few (subst (λ (v : ℕ). ¬ silent v) (sym made) speaks)
        (λ l l_fit still_l acts_l new_acts over_new.
        ends_on l 0
        (grants silent l l_fit y acts_l k.made box T (λ same. omega (arith, same, made, box_made)) over_new (still_l y T box (still y T box taker)))
        (λ m more used took.
        ends_by m 0
        (fetches m more.fit k.made (Grows-acts silent l m more k.made new_acts) (λ same. omega (arith, same, made, y_made)) box took
        (IsFull-on right y l m more.labels box (IsFull-on right y k l still_l box (IsFull-on right y h k still box full))))))))

    -- or the one hands it to x from whom y has its object
    pub by_companion : (g : ProtectionGraph) (x : ℕ) → x ≢ y → (h : ProtectionGraph) → IsFit h → Acts silent h y → (has : HasCompanion silent g x right y h y) → Acts silent h has.other → Holds h.label y G x → Ends h (λ k. Holds k.label x right y)
    by_companion g x differ h fit acts has other_acts granter =
        let not_y : has.other ≢ y = λ same. has.differ (sym same) in
        ⊎_elim
        (λ same.
        ends_on h 0 (fetches h fit has.other other_acts not_y has.box.box has.box.both.0 has.box.full)
        (λ k more used there. ends_now k (subst (λ (v : ℕ). Holds k.label v right y) same there)))
        (λ not_x.
        ends_on h 0 (grants silent h fit y acts has.link x G has.apart has.linked.0.1 granter)
        (λ k more used there.
        ends_on k 0
        (takes silent k more.fit has.other (Grows-acts silent h k more has.other other_acts) has.link x G not_x (more.labels has.other T has.link has.linked.1.0) there)
        (λ l more_l used_l holds.
        let acts_k : Acts silent k has.other = Grows-acts silent h k more has.other other_acts in
        let box = HasBox-on right y g.made k l more_l has.other (HasBox-on right y g.made h k more has.other has.box) in
        ends_by l 0
        (gives x differ l more_l.fit has.other (Grows-acts silent k l more_l has.other acts_k) not_y box.box box.both.0 box.full holds))))
        (cases_eq has.other x)
