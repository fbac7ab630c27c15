-- A separation stays one after every turn, and so x never holds the right.
use Rattle.std.proofs.Common.{◌≡◌, ⊎_elim, ℕ, ◌+◌, ◌<◌, ◌≤◌, ◌==◌, ◌&&◌, Bool, true, false, cond, List, [], ◌∷◌, refl, sym, ap, ◌∙◌, subst, arith, eq-eqb}
use Rattle.std.proofs.lemmas.Bool.{ne_eqb, cond-false, cond-true}
use Rattle.std.proofs.lemmas.List.Elements.{Contains-push_cases}
use Rattle.tg_rights.specs.RightSet.{RightSet, has, only, minus}
use Rattle.tg_rights.proofs.RightLaws.{has-minus, has-holds_all}
use Rattle.tg_rights.specs.declared.Right.{Right}
use Rattle.tg_rights.specs.declared.Right.TheVariants.{T, G}
use Rattle.tg_model.specs.declared.value.Value.{Value}
use Rattle.tg_model.specs.declared.command.Command.{Command}
use Rattle.tg_model.specs.declared.command.Command.TheVariants.{Take, Grant, Remove}
use Rattle.tg_model.specs.declared.command.Deed.{Deed}
use Rattle.tg_model.specs.declared.command.Deed.TheVariants.{Create, Spawn, Plain}
use Rattle.tg_model.specs.Graph.{ProtectionGraph, IsSubject, with_rights, without_rights}
use Rattle.tg_model.specs.Rules.{HoldsOver, Permits, labels_after, effect, with_vertex, with_subject, step}
use Rattle.tg_model.proofs.AllowedLaws.{plain_cases, create_cases, spawn_cases}
use Rattle.tg_model.proofs.SubjectLaws.{subject_before}
use Rattle.tg_model.specs.Picture.{Holds, IsMade}
use Rattle.tg_model.proofs.PictureLaws.{Holds-with_rights}
use Rattle.tg_could.specs.Turns.{Turn, Acts, AreTurns, after, MayCome}
use Rattle.tg_could.specs.Separation.{Sides, MayAdd, Parts, Separates}

-- ---- which rights are where after a change of labels

first_true : (a b : Bool) → (a && b) ≡ true → a ≡ true
first_true true b h = refl
first_true false b h = h

right_kept : (t : Bool) (m rights : RightSet) (x : Right) → has (cond t (minus m rights) m) x ≡ true → has m x ≡ true
right_kept true m rights x h = first_true (has m x) _ (sym (has-minus m rights x) ∙ h)
right_kept false m rights x h = h

module _ (label : ℕ → ℕ → RightSet) where
  -- who holds all of a set holds each right of it
  pub Holds-each : (a b : ℕ) (rights : RightSet) → HoldsOver label a b rights → (right : Right) → has rights right ≡ true → Holds label a right b
  Holds-each a b rights holds right is = has-holds_all (label a b) rights holds right is

  pub Holds-without_rights : (p q : ℕ) (rights : RightSet) (a : ℕ) (right : Right) (b : ℕ) → Holds (without_rights label p q rights) a right b → Holds label a right b
  Holds-without_rights p q rights a right b h = right_kept ((a == p) && (b == q)) (label a b) rights right h

-- ---- right by right

module _ (s : Sides) (x : ℕ) (r : Right) (y : ℕ) where
  -- a right from a to b is one of those that may be added
  pub record Adds (a : ℕ) (q : Right) (b : ℕ) : Type 0 where
    pub rights : RightSet
    pub has_it : has rights q ≡ true
    pub may : MayAdd s x r y a b rights

  pub added : (a b : ℕ) (rights : RightSet) → MayAdd s x r y a b rights → (c : ℕ) (q : Right) (d : ℕ) → c ≡ a → d ≡ b → has rights q ≡ true → Adds c q d
  added a b rights may c q d at_a at_b is = record {
    rights = rights;
    has_it = is;
    may = subst (λ (v : ℕ). MayAdd s x r y v d rights) (sym at_a) (subst (λ (v : ℕ). MayAdd s x r y a v rights) (sym at_b) may);
  }

  -- where each right that stands may be added, the sets part
  pub Parts-by : (label : ℕ → ℕ → RightSet) → ((a b : ℕ) (q : Right) → Holds label a q b → Adds a q b) → Parts s x r y label
  Parts-by label by = record {
    edges = λ a b. record {
      take_on = λ h. let e = by a b T h in e.may.keeps.take_on e.has_it;
      take_back = λ h. let e = by a b T h in e.may.keeps.take_back e.has_it;
      grant_on = λ h. let e = by a b G h in e.may.keeps.grant_on e.has_it;
      grant_back = λ h. let e = by a b G h in e.may.keeps.grant_back e.has_it;
      source = λ h. let e = by a b r h in e.may.keeps.source e.has_it;
    };
    without = λ h. let e = by x y r h in e.may.not_held refl refl e.has_it;
    not_given = λ a h. let e = by a x G h in e.may.not_granted refl e.has_it;
  }

  module _ (label : ℕ → ℕ → RightSet) (parts : Parts s x r y label) where
    -- and where the sets part, it may
    adds_of : (a b : ℕ) (q : Right) → Holds label a q b → Adds a q b
    adds_of a b q h =
        let e = parts.edges a b in
        record {
          rights = label a b;
          has_it = h;
          may = record {
            keeps = record { take_on = e.take_on; take_back = e.take_back; grant_on = e.grant_on; grant_back = e.grant_back; source = e.source };
            not_held = λ at_x at_y is. parts.without (subst (λ (v : ℕ). Holds label v r y) at_x (subst (λ (v : ℕ). Holds label a r v) at_y is));
            not_granted = λ at_x is. parts.not_given a (subst (λ (v : ℕ). Holds label a G v) at_x is);
          };
        }

    pub Parts-fewer : (g : ℕ → ℕ → RightSet) → ((a b : ℕ) (q : Right) → Holds g a q b → Holds label a q b) → Parts s x r y g
    Parts-fewer g there = Parts-by g (λ a b q h. adds_of a b q (there a b q h))

    pub Parts-with_rights : (p q : ℕ) (rights : RightSet) → MayAdd s x r y p q rights → Parts s x r y (with_rights label p q rights)
    Parts-with_rights p q rights may =
        Parts-by (with_rights label p q rights)
        (λ a b t h.
        ⊎_elim (adds_of a b t) (λ (at_p, at_q, is). added p q rights may a t b at_p at_q is) (Holds-with_rights label p q rights a t b h))

-- ---- the commands

module _ (silent : ℕ → Type 0) (s : Sides) (x : ℕ) (r : Right) (y : ℕ) (g : ProtectionGraph) (separates : Separates silent s x r y g) (p : ℕ) (acts : Acts silent g p) where
  abbrev parts : Parts s x r y g.label
  parts = separates.labels

  alike : s.forward p ≡ s.back p
  alike = separates.alike p acts

  -- who takes: from via, over which p has the take right
  may_take : (via z : ℕ) (rights : RightSet) → Holds g.label p T via → HoldsOver g.label via z rights → MayAdd s x r y p z rights
  may_take via z rights taker holds =
      let first = parts.edges p via in
      let next = parts.edges via z in
      let each = Holds-each g.label via z rights holds in
      record {
        keeps = record {
          take_on = λ is f. next.take_on (each T is) (first.take_on taker f);
          take_back = λ is f. first.take_back taker (next.take_back (each T is) f);
          grant_on = λ is f. next.grant_on (each G is) (first.take_on taker f);
          grant_back = λ is f. first.take_back taker (next.grant_back (each G is) f);
          source = λ is e. first.take_back taker (next.source (each r is) e);
        };
        not_held = λ at_x at_y is.
            separates.not_taken (subst (Acts silent g) at_x acts)
            (sym (ap s.back at_x) ∙ first.take_back taker (next.source (each r is) at_y));
        not_granted = λ at_x is f. parts.not_given via (subst (Holds g.label via G) at_x (each G is)) (first.take_on taker f);
      }

  -- who grants: to via, over which p has the grant right
  may_grant : (via z : ℕ) (rights : RightSet) → Holds g.label p G via → HoldsOver g.label p z rights → MayAdd s x r y via z rights
  may_grant via z rights granter holds =
      let first = parts.edges p via in
      let next = parts.edges p z in
      let each = Holds-each g.label p z rights holds in
      record {
        keeps = record {
          take_on = λ is f. next.take_on (each T is) (alike ∙ first.grant_back granter f);
          take_back = λ is f. first.grant_on granter (alike ∙ next.take_back (each T is) f);
          grant_on = λ is f. next.grant_on (each G is) (alike ∙ first.grant_back granter f);
          grant_back = λ is f. first.grant_on granter (alike ∙ next.grant_back (each G is) f);
          source = λ is e. first.grant_on granter (alike ∙ next.source (each r is) e);
        };
        not_held = λ at_x at_y is.
            parts.not_given p (subst (Holds g.label p G) at_x granter) (alike ∙ next.source (each r is) at_y);
        not_granted = λ at_x is f.
            parts.not_given p (subst (Holds g.label p G) at_x (each G is)) (alike ∙ first.grant_back granter f);
      }

  Parts-after : (command : Command) → Permits g.label g.value p command → Parts s x r y (labels_after g.label p command)
  Parts-after (Take rights via z) allowed =
      Parts-with_rights s x r y g.label parts p z rights
      (may_take via z rights (Holds-each g.label p via (only T) allowed.3 T refl) allowed.4)
  Parts-after (Grant rights via z) allowed =
      Parts-with_rights s x r y g.label parts via z rights
      (may_grant via z rights (Holds-each g.label p via (only G) allowed.3 G refl) allowed.4)
  Parts-after (Remove rights z) allowed =
      Parts-fewer s x r y g.label parts _ (λ a b q. Holds-without_rights g.label p z rights a q b)
  Parts-after command allowed = parts

  Separates-effect : (command : Command) → Permits g.label g.value p command → Separates silent s x r y (effect g p command)
  Separates-effect command allowed =
      let before : (q : ℕ) → Acts silent (effect g p command) q → Acts silent g q = λ q is. (subject_before g.subjects p command q is.0, is.1) in
      record {
        labels = Parts-after command allowed;
        alike = λ q is. separates.alike q (before q is);
        not_taken = λ is. separates.not_taken (before x is);
        y_may_come = λ comes q is. separates.y_may_come comes q (before q is);
        x_may_come = λ comes q is. separates.x_may_come comes q (before q is);
      }

-- ---- a new vertex

module _ (silent : ℕ → Type 0) (s : Sides) (x : ℕ) (r : Right) (y : ℕ) (g : ProtectionGraph) (separates : Separates silent s x r y g) (made : IsMade g) (p : ℕ) (acts : Acts silent g p) (room : g.made < g.limit) where
  abbrev n : ℕ
  n = g.made

  abbrev more : Sides
  more = record {
    forward = λ c. cond (c == n) (s.forward p) (s.forward c);
    back = λ c. cond (c == n) (s.back p) (s.back c);
  }

  old_forward : (c : ℕ) → c < n → more.forward c ≡ s.forward c
  old_forward c below = cond-false (c == n) _ _ (ne_eqb c n (λ e. omega (arith, e, below)))

  old_back : (c : ℕ) → c < n → more.back c ≡ s.back c
  old_back c below = cond-false (c == n) _ _ (ne_eqb c n (λ e. omega (arith, e, below)))

  new_forward : more.forward n ≡ s.forward p
  new_forward = cond-true (n == n) _ _ (eq-eqb n n refl)

  new_back : more.back n ≡ s.back p
  new_back = cond-true (n == n) _ _ (eq-eqb n n refl)

  p_made : p < n
  p_made = made.subjects p acts.0

  -- what was there is parted as before
  old_parts : Parts more x r y g.label
  old_parts =
      let parts = separates.labels in
      record {
        edges = λ a b. let e = parts.edges a b in record {
          take_on = λ h f. let k = made.ends a b T h in old_forward b k.1 ∙ e.take_on h (sym (old_forward a k.0) ∙ f);
          take_back = λ h f. let k = made.ends a b T h in old_back a k.0 ∙ e.take_back h (sym (old_back b k.1) ∙ f);
          grant_on = λ h f. let k = made.ends a b G h in old_back b k.1 ∙ e.grant_on h (sym (old_forward a k.0) ∙ f);
          grant_back = λ h f. let k = made.ends a b G h in old_back a k.0 ∙ e.grant_back h (sym (old_forward b k.1) ∙ f);
          source = λ h at. let k = made.ends a b r h in old_back a k.0 ∙ e.source h at;
        };
        without = parts.without;
        not_given = λ a h f. parts.not_given a h (sym (old_forward a (made.ends a x G h).0) ∙ f);
      }

  may_make : (rights : RightSet) → MayAdd more x r y p n rights
  may_make rights =
      let alike = separates.alike p acts in
      record {
        keeps = record {
          take_on = λ is f. new_forward ∙ (sym (old_forward p p_made) ∙ f);
          take_back = λ is f. old_back p p_made ∙ (sym new_back ∙ f);
          grant_on = λ is f. new_back ∙ (sym alike ∙ (sym (old_forward p p_made) ∙ f));
          grant_back = λ is f. old_back p p_made ∙ (sym alike ∙ (sym new_forward ∙ f));
          source = λ is e. old_back p p_made ∙ separates.y_may_come (omega (arith, e), omega (arith, e, room)) p acts;
        };
        not_held = λ at_x at_y is.
            separates.not_taken (subst (Acts silent g) at_x acts)
            (sym (ap s.back at_x) ∙ separates.y_may_come (omega (arith, at_y), omega (arith, at_y, room)) p acts);
        not_granted = λ at_x is f.
            separates.x_may_come (omega (arith, at_x), omega (arith, at_x, room)) p acts (sym alike ∙ (sym (old_forward p p_made) ∙ f));
      }

  old_alike : (q : ℕ) → Acts silent g q → more.forward q ≡ more.back q
  old_alike q is = let below = made.subjects q is.0 in old_forward q below ∙ (separates.alike q is ∙ sym (old_back q below))

  still : (v : ℕ) → (g.made + 1 ≤ v) × (v < g.limit) → MayCome g v
  still v comes = (omega (arith, comes.0), comes.1)

  old_taken : Acts silent g x → ¬ (more.back x ≡ true)
  old_taken is f = separates.not_taken is (sym (old_back x (made.subjects x is.0)) ∙ f)

  old_y : MayCome g y → (q : ℕ) → Acts silent g q → more.back q ≡ true
  old_y comes q is = old_back q (made.subjects q is.0) ∙ separates.y_may_come comes q is

  old_x : MayCome g x → (q : ℕ) → Acts silent g q → ¬ (more.back q ≡ true)
  old_x comes q is f = separates.x_may_come comes q is (sym (old_back q (made.subjects q is.0)) ∙ f)

  Separates-vertex : (rights : RightSet) (value : Value) → Separates silent more x r y (with_vertex g p rights value)
  Separates-vertex rights value = record {
    labels = Parts-with_rights more x r y g.label old_parts p n rights (may_make rights);
    alike = old_alike;
    not_taken = old_taken;
    y_may_come = λ comes. old_y (still y comes);
    x_may_come = λ comes. old_x (still x comes);
  }

  Separates-subject : (rights : RightSet) (value : Value) → Separates silent more x r y (with_subject g p rights value)
  Separates-subject rights value =
      let back_at : (q : ℕ) → q ≡ n → more.back q ≡ s.back p = λ q at_n. ap more.back at_n ∙ new_back in
      let old_or_new : (P : ℕ → Type 0) (q : ℕ) → (Acts silent g q → P q) → (q ≡ n → P q) → Acts silent (with_subject g p rights value) q → P q =
      λ P q old new is. ⊎_elim (λ was. old (was, is.1)) (λ at_n. new (sym at_n)) (Contains-push_cases g.subjects n q is.0) in
      record {
        labels = Parts-with_rights more x r y g.label old_parts p n rights (may_make rights);
        alike = λ q. old_or_new (λ k. more.forward k ≡ more.back k) q (old_alike q)
            (λ at_n. ap more.forward at_n ∙ (new_forward ∙ (separates.alike p acts ∙ sym (back_at q at_n))));
        not_taken = old_or_new (λ k. ¬ (more.back k ≡ true)) x old_taken
            (λ at_n f. separates.x_may_come (omega (arith, at_n), omega (arith, at_n, room)) p acts (sym (back_at x at_n) ∙ f));
        y_may_come = λ comes q. old_or_new (λ k. more.back k ≡ true) q (old_y (still y comes) q)
            (λ at_n. back_at q at_n ∙ separates.y_may_come (still y comes) p acts);
        x_may_come = λ comes q. old_or_new (λ k. ¬ (more.back k ≡ true)) q (old_x (still x comes) q)
            (λ at_n f. separates.x_may_come (still x comes) p acts (sym (back_at q at_n) ∙ f));
      }

-- ---- what was made

module _ (g : ProtectionGraph) (made : IsMade g) (p : ℕ) (subject : IsSubject g p) where
  ends_with : (m : ℕ) (a b : ℕ) (rights : RightSet) → g.made ≤ m → ((q : Right) → has rights q ≡ true → (a < m) × (b < m)) → (c d : ℕ) (q : Right) → Holds (with_rights g.label a b rights) c q d → (c < m) × (d < m)
  ends_with m a b rights more below c d q h =
      ⊎_elim (λ old. let k = made.ends c d q old in (omega (arith, k.0, more), omega (arith, k.1, more)))
      (λ (at_a, at_b, is). let k = below q is in (omega (arith, at_a, k.0), omega (arith, at_b, k.1)))
      (Holds-with_rights g.label a b rights c q d h)

  ends_after : (command : Command) → Permits g.label g.value p command → (c d : ℕ) (q : Right) → Holds (labels_after g.label p command) c q d → (c < g.made) × (d < g.made)
  ends_after (Take rights via z) allowed =
      ends_with g.made p z rights (omega arith) (λ q is. (made.subjects p subject, (made.ends via z q (Holds-each g.label via z rights allowed.4 q is)).1))
  ends_after (Grant rights via z) allowed =
      ends_with g.made via z rights (omega arith)
      (λ q is. ((made.ends p via G (Holds-each g.label p via (only G) allowed.3 G refl)).1, (made.ends p z q (Holds-each g.label p z rights allowed.4 q is)).1))
  ends_after (Remove rights z) allowed = λ c d q h. made.ends c d q (Holds-without_rights g.label p z rights c q d h)
  ends_after command allowed = made.ends

  ends_made : (rights : RightSet) → (c d : ℕ) (q : Right) → Holds (with_rights g.label p g.made rights) c q d → (c < g.made + 1) × (d < g.made + 1)
  ends_made rights = ends_with (g.made + 1) p g.made rights (omega arith) (λ q is. let below = made.subjects p subject in (omega (arith, below), omega arith))

  pub IsMade-step : (deed : Deed) → IsMade (step g p deed)
  IsMade-step (Create rights law state) =
      create_cases g p IsMade rights law state made
      (λ room. record {
        subjects = λ x is. let below = made.subjects x is in omega (arith, below);
        ends = ends_made rights;
      })
  IsMade-step (Spawn rights law state) =
      spawn_cases g p IsMade rights law state made
      (λ room few. record {
        subjects = λ x is. ⊎_elim (λ was. let below = made.subjects x was in omega (arith, below)) (λ new. omega (arith, new)) (Contains-push_cases g.subjects g.made x is);
        ends = ends_made rights;
      })
  IsMade-step (Plain command) =
      plain_cases g p IsMade command made
      (λ allowed. record {
        subjects = λ x is. made.subjects x (subject_before g.subjects p command x is);
        ends = ends_after command allowed;
      })

-- ---- turns

-- some sides part x from the right
pub record IsParted (silent : ℕ → Type 0) (x : ℕ) (r : Right) (y : ℕ) (g : ProtectionGraph) : Type 0 where
  pub made : IsMade g
  pub sides : Sides
  pub separates : Separates silent sides x r y g

module _ (silent : ℕ → Type 0) (x : ℕ) (r : Right) (y : ℕ) where
  module _ (g : ProtectionGraph) (parted : IsParted silent x r y g) (p : ℕ) (acts : Acts silent g p) where
    -- what the step of one who acts leaves parted
    record IsLeft (h : ProtectionGraph) : Type 0 where
      sides : Sides
      separates : Separates silent sides x r y h

    abbrev as_it_was : IsLeft g
    as_it_was = record { sides = parted.sides; separates = parted.separates }

    left : (deed : Deed) → IsLeft (step g p deed)
    left (Create rights law state) =
        create_cases g p IsLeft rights law state as_it_was
        (λ room. record {
          sides = _;
          separates = Separates-vertex silent parted.sides x r y g parted.separates parted.made p acts room rights (record { law = law; state = state });
        })
    left (Spawn rights law state) =
        spawn_cases g p IsLeft rights law state as_it_was
        (λ room few. record {
          sides = _;
          separates = Separates-subject silent parted.sides x r y g parted.separates parted.made p acts room rights (record { law = law; state = state });
        })
    left (Plain command) =
        plain_cases g p IsLeft command as_it_was
        (λ allowed. record {
          sides = parted.sides;
          separates = Separates-effect silent parted.sides x r y g parted.separates p acts command allowed;
        })

    IsParted-step : (deed : Deed) → IsParted silent x r y (step g p deed)
    IsParted-step deed =
        let l = left deed in
        record { made = IsMade-step g parted.made p acts.0 deed; sides = l.sides; separates = l.separates }

  pub parted-never : (g : ProtectionGraph) → IsParted silent x r y g → (turns : List Turn) → AreTurns silent g turns → ¬ Holds (after g turns).label x r y
  parted-never g parted [] are = parted.separates.labels.without
  parted-never g parted (turn ∷ turns) are =
      parted-never (step g turn.0 turn.1) (IsParted-step g parted turn.0 are.0 turn.1) turns are.1
