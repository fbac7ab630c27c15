-- What an owner keeps to itself stays its own, and what nobody else may change stays as it was left.
use Rattle.std.proofs.Common.{◌≡◌, ⊎_elim, inl, inr, ℕ, ◌+◌, ◌<◌, ◌≤◌, ◌==◌, ◌&&◌, Bool, true, false, cond, List, [], ◌∷◌, refl, sym, ap, ◌∙◌, subst, arith}
use Rattle.std.proofs.lemmas.Bool.{cases_Bool, cond-false, false≢true, ne_eqb}
use Rattle.std.specs.List.{All}
use Rattle.std.proofs.lemmas.List.Elements.{All-nil, All-head, All-tail, All-cons}
use Rattle.std.specs.List.{Contains}
use Rattle.std.proofs.Common.{Option, Some, None}
use Rattle.tg_rights.specs.RightSet.{RightSet, has, no_rights, only, union, is_none_held}
use Rattle.tg_rights.proofs.RightLaws.{has-holds_all, has-none_held}
use Rattle.tg_rights.specs.declared.Right.{Right}
use Rattle.tg_rights.specs.declared.Right.TheVariants.{T, W, A}
use Rattle.tg_model.specs.declared.edge.Edge.{Edge}
use Rattle.tg_model.specs.declared.law.Law.{Law}
use Rattle.tg_model.specs.declared.value.Value.{Value}
use Rattle.tg_model.specs.declared.command.Command.{Command}
use Rattle.tg_model.specs.declared.command.Command.TheVariants.{Take, Grant, Remove, Read, Write, Append}
use Rattle.tg_model.specs.declared.command.Deed.{Deed}
use Rattle.tg_model.specs.declared.command.Deed.TheVariants.{Create, Spawn, Plain}
use Rattle.tg_model.specs.declared.reply.Denial.{Denial}
use Rattle.tg_model.specs.declared.reply.Reply.TheVariants.{Name, Values}
use Rattle.tg_model.specs.Graph.{ProtectionGraph, IsSound, with_rights}
use Rattle.tg_model.specs.Opened.{Plan, label_in, start_of}
use Rattle.tg_model.specs.Picture.{Holds}
use Rattle.tg_model.specs.Rules.{HoldsOver, Permits, effect, step, with_value, written_at, state_of, denial_of, denied_or, answer_of}
use Rattle.tg_model.proofs.AllowedLaws.{plain_cases, create_cases, spawn_cases}
use Rattle.tg_model.proofs.NameLaws.{name_is_next}
use Rattle.tg_model.proofs.PictureLaws.{Holds-with_rights}
use Rattle.tg_could.proofs.SeparationLaws.{Holds-without_rights}
use Rattle.tg_journal.specs.declared.entry.Entry.{Entry}
use Rattle.tg_journal.specs.History.{IsLegal, graph_after}
use Rattle.tg_could.specs.Turns.{Turn, AreTurns, IsSilent, NeverHolds, after}
use Rattle.examples.specs.Alone.{changes, IsAlone, IsUntaken, HandsOn, LeavesBe, Puts, ReadsValue, TellsOnlyValue, Withholds}

module _ (which : Right → Bool) (owner y : ℕ) (g : ProtectionGraph) (alone : IsAlone which owner y g) (p : ℕ) where
  each : (a b : ℕ) (rights : RightSet) → HoldsOver g.label a b rights → (right : Right) → has rights right ≡ true → Holds g.label a right b
  each a b rights holds right is = has-holds_all (g.label a b) rights holds right is

  -- labels with more of what isn't kept
  more : (new : ProtectionGraph) (a b : ℕ) (rights : RightSet) → new.label ≡ with_rights g.label a b rights → g.made ≤ new.made
      → ((right : Right) → which right ≡ true → has rights right ≡ true → b ≡ y → a ≡ owner) → (has rights T ≡ true → b ≡ owner → ⊥) → IsAlone which owner y new
  more new a b rights labels made kept untaken = record {
    made = let k = alone.made in omega (arith, k, made);
    alone = λ x right is held.
        ⊎_elim (λ old. alone.alone x right is old) (λ (at_a, at_b, has_it). at_a ∙ kept right is has_it (sym at_b))
        (Holds-with_rights g.label a b rights x right y (subst (λ (l : ℕ → ℕ → RightSet). Holds l x right y) labels held));
    untaken = record {
      made = let k = alone.untaken.made in omega (arith, k, made);
      nobody = λ x held.
          ⊎_elim (alone.untaken.nobody x) (λ (at_a, at_b, has_it). untaken has_it (sym at_b))
          (Holds-with_rights g.label a b rights x T owner (subst (λ (l : ℕ → ℕ → RightSet). Holds l x T owner) labels held));
    };
  }

  same_labels : (new : ProtectionGraph) → new.label ≡ g.label → new.made ≡ g.made → IsAlone which owner y new
  same_labels new labels made = record {
    made = let k = alone.made in omega (arith, k, made);
    alone = λ x right is held. alone.alone x right is (subst (λ (l : ℕ → ℕ → RightSet). Holds l x right y) labels held);
    untaken = record {
      made = let k = alone.untaken.made in omega (arith, k, made);
      nobody = λ x held. alone.untaken.nobody x (subst (λ (l : ℕ → ℕ → RightSet). Holds l x T owner) labels held);
    };
  }

  -- one who takes from the owner: there is none
  not_taken : (via : ℕ) → via ≡ owner → HoldsOver g.label p via (only T) → ⊥
  not_taken via same holds = alone.untaken.nobody p (subst (Holds g.label p T) same (each p via (only T) holds T refl))

  pub alone-effect : (command : Command) → Permits g.label g.value p command → (p ≡ owner → HandsOn which y (Plain command) → ⊥) → IsAlone which owner y (effect g p command)
  alone-effect (Take rights via z) allowed never =
      more (effect g p (Take rights via z)) p z rights refl (omega arith)
      (λ right is has_it at_y. absurd (not_taken via (alone.alone via right is (subst (Holds g.label via right) at_y (each via z rights allowed.4 right has_it))) allowed.3))
      (λ has_it at_owner. alone.untaken.nobody via (subst (Holds g.label via T) at_owner (each via z rights allowed.4 T has_it)))
  alone-effect (Grant rights via z) allowed never =
      more (effect g p (Grant rights via z)) via z rights refl (omega arith)
      (λ right is has_it at_y. absurd (never (alone.alone p right is (subst (Holds g.label p right) at_y (each p z rights allowed.4 right has_it))) (at_y, (right, is, has_it))))
      (λ has_it at_owner. alone.untaken.nobody p (subst (Holds g.label p T) at_owner (each p z rights allowed.4 T has_it)))
  alone-effect (Remove rights z) allowed never = record {
    made = alone.made;
    alone = λ x right is held. alone.alone x right is (Holds-without_rights g.label p z rights x right y held);
    untaken = record {
      made = alone.untaken.made;
      nobody = λ x held. alone.untaken.nobody x (Holds-without_rights g.label p z rights x T owner held);
    };
  }
  alone-effect command allowed never = same_labels (effect g p command) refl refl

  -- a new vertex is another
  of_new : (new : ProtectionGraph) (rights : RightSet) → new.label ≡ with_rights g.label p g.made rights → g.made ≤ new.made → IsAlone which owner y new
  of_new new rights labels made =
      let below = alone.made in
      let owner_below = alone.untaken.made in
      more new p g.made rights labels made (λ right is has_it at_y. absurd (omega (arith, at_y, below))) (λ has_it at_owner. omega (arith, at_owner, owner_below))

  pub alone-step : (deed : Deed) → (p ≡ owner → HandsOn which y deed → ⊥) → IsAlone which owner y (step g p deed)
  alone-step (Create rights law state) never =
      create_cases g p (IsAlone which owner y) rights law state alone (λ room. of_new _ rights refl (omega arith))
  alone-step (Spawn rights law state) never =
      spawn_cases g p (IsAlone which owner y) rights law state alone (λ room few. of_new _ rights refl (omega arith))
  alone-step (Plain command) never = plain_cases g p (IsAlone which owner y) command alone (λ allowed. alone-effect command allowed never)

module _ (owner y : ℕ) (g : ProtectionGraph) (alone : IsAlone changes owner y g) (p : ℕ) where
  -- what is written elsewhere leaves y
  elsewhere : (z v : ℕ) → (z ≡ y → ⊥) → written_at g.value z v y ≡ g.value y
  elsewhere z v apart = cond-false (y == z) _ _ (ne_eqb y z (λ e. apart (sym e)))

  held : (z : ℕ) (right : Right) → HoldsOver g.label p z (only right) → has (only right) right ≡ true → Holds g.label p right z
  held z right holds is = has-holds_all (g.label p z) (only right) holds right is

  left-effect : (command : Command) → Permits g.label g.value p command → (p ≡ owner → Puts y (Plain command) → ⊥) → (effect g p command).value y ≡ g.value y
  left-effect (Write z v) allowed never =
      elsewhere z v (λ at_y. never (alone.alone p W refl (subst (Holds g.label p W) at_y (held z W allowed.1 refl))) at_y)
  left-effect (Append z v) allowed never =
      elsewhere z v (λ at_y. never (alone.alone p A refl (subst (Holds g.label p A) at_y (held z A allowed.1 refl))) at_y)
  left-effect command allowed never = refl

  not_new : (value : Value) → with_value g.value g.made value y ≡ g.value y
  not_new value = let below = alone.made in cond-false (y == g.made) _ _ (ne_eqb y g.made (λ e. omega (arith, e, below)))

  abbrev IsLeft : ProtectionGraph → Type 0
  IsLeft h = h.value y ≡ g.value y

  pub left-step : (deed : Deed) → (p ≡ owner → Puts y deed → ⊥) → (step g p deed).value y ≡ g.value y
  left-step (Create rights law state) never = create_cases g p IsLeft rights law state refl (λ room. not_new (record { law = law; state = state }))
  left-step (Spawn rights law state) never = spawn_cases g p IsLeft rights law state refl (λ room few. not_new (record { law = law; state = state }))
  left-step (Plain command) never = plain_cases g p IsLeft command refl (λ allowed. left-effect command allowed never)

-- ---- histories

pub alone-after : (which : Right → Bool) (owner y : ℕ) (g : ProtectionGraph) (es : List Entry) → IsAlone which owner y g → All (Withholds which owner y) es → IsAlone which owner y (graph_after g es)
alone-after which owner y g [] alone never = alone
alone-after which owner y g (e ∷ es) alone never =
    alone-after which owner y (step g e.worker e.deed) es
    (alone-step which owner y g alone e.worker e.deed (All-head (Withholds which owner y) e es never)) (All-tail (Withholds which owner y) e es never)

pub left-after : (owner y : ℕ) (g : ProtectionGraph) (es : List Entry) → IsAlone changes owner y g → All (Withholds changes owner y) es → All (LeavesBe owner y) es → (graph_after g es).value y ≡ g.value y
left-after owner y g [] alone never puts = refl
left-after owner y g (e ∷ es) alone never puts =
    left-after owner y (step g e.worker e.deed) es
    (alone-step changes owner y g alone e.worker e.deed (All-head (Withholds changes owner y) e es never)) (All-tail (Withholds changes owner y) e es never) (All-tail (LeavesBe owner y) e es puts)
    ∙ left-step owner y g alone e.worker e.deed (All-head (LeavesBe owner y) e es puts)

-- ---- what readers are told

told : (stored : Option Value) (o : Option Denial) → TellsOnlyValue stored (denied_or o (Values (state_of stored)))
told stored None = inl refl
told stored (Some denial) = inr (denial, refl)

pub told-read : (g : ProtectionGraph) (x y : ℕ) → TellsOnlyValue (g.value y) (answer_of g x (Plain (Read y)))
told-read g x y = told (g.value y) (denial_of g.label g.value x (Read y))

pub reads-tell : (owner y : ℕ) (g : ProtectionGraph) (es : List Entry) → IsAlone changes owner y g → IsLegal g es → All (Withholds changes owner y) es → All (LeavesBe owner y) es → All (ReadsValue y (g.value y)) es
reads-tell owner y g [] alone legal never puts = All-nil (ReadsValue y (g.value y))
reads-tell owner y g (e ∷ es) alone legal never puts =
    let left = left-step owner y g alone e.worker e.deed (All-head (LeavesBe owner y) e es puts) in
    All-cons (ReadsValue y (g.value y)) e es
    (λ reads. subst (TellsOnlyValue (g.value y)) (sym (legal.0.reply ∙ ap (answer_of g e.worker) reads)) (told-read g e.worker y))
    (subst (λ (stored : Option Value). All (ReadsValue y stored) es) left
    (reads-tell owner y (step g e.worker e.deed) es
    (alone-step changes owner y g alone e.worker e.deed (All-head (Withholds changes owner y) e es never)) legal.1 (All-tail (Withholds changes owner y) e es never) (All-tail (LeavesBe owner y) e es puts)))

-- ---- what could ever come about

module _ (silent : ℕ → Type 0) (which : Right → Bool) (owner y : ℕ) (quiet : silent owner) where
  alone-turns : (g : ProtectionGraph) (turns : List Turn) → IsAlone which owner y g → AreTurns silent g turns → IsAlone which owner y (after g turns)
  alone-turns g [] alone are = alone
  alone-turns g (turn ∷ turns) alone are =
      alone-turns (step g turn.0 turn.1) turns
      (alone-step which owner y g alone turn.0 turn.1 (λ same hands. are.0.1 (subst silent (sym same) quiet))) are.1

pub alone-never : (silent : List ℕ) (which : Right → Bool) (owner y : ℕ) (g : ProtectionGraph) → Contains silent owner → IsAlone which owner y g → (x : ℕ) (right : Right) → which right ≡ true → (x ≡ owner → ⊥) → NeverHolds silent g x right y
alone-never silent which owner y g quiet alone x right is other turns are held =
    other ((alone-turns (IsSilent silent g) which owner y (quiet, alone.untaken.made) g turns alone are).alone x right is held)

-- ---- what the owner makes

held_edge : (s : RightSet) (q : Right) → has s q ≡ true → is_none_held s ≡ false
held_edge s q h =
    ⊎_elim (λ none. absurd (false≢true (sym (has-none_held s none q) ∙ h))) (λ some. some) (cases_Bool (is_none_held s))

and_false : (a b : Bool) → b ≡ false → (a && b) ≡ false
and_false true b h = h
and_false false b h = refl

module _ (which : Right → Bool) (owner : ℕ) (g : ProtectionGraph) (sound : IsSound g) (untaken : IsUntaken owner g) where
  unheld : (x : ℕ) (right : Right) → Holds g.label x right g.made → ⊥
  unheld x right held = let ends = sound.ends_made x g.made (held_edge (g.label x g.made) right held) in omega (arith, ends.1)

  of_made : (rights : RightSet) (new : ProtectionGraph) → new.label ≡ with_rights g.label owner g.made rights → new.made ≡ g.made + 1 → IsAlone which owner g.made new
  of_made rights new labels made = record {
    made = omega (arith, made);
    alone = λ x right is held.
        ⊎_elim (λ old. absurd (unheld x right old)) (λ (at_owner, _, _). at_owner)
        (Holds-with_rights g.label owner g.made rights x right g.made (subst (λ (l : ℕ → ℕ → RightSet). Holds l x right g.made) labels held));
    untaken = record {
      made = let k = untaken.made in omega (arith, k, made);
      nobody = λ x held.
          ⊎_elim (untaken.nobody x) (λ (_, at_owner, _). let k = untaken.made in omega (arith, k, at_owner))
          (Holds-with_rights g.label owner g.made rights x T owner (subst (λ (l : ℕ → ℕ → RightSet). Holds l x T owner) labels held));
    };
  }

  -- what the owner has just made is its own alone
  pub alone-made : (name : ℕ) (rights : RightSet) (law : Law) (state : List ℕ) → answer_of g owner (Create rights law state) ≡ Name name → IsAlone which owner name (step g owner (Create rights law state))
  alone-made name rights law state answer =
      let next = name_is_next g owner (Create rights law state) name answer in
      subst (λ (n : ℕ). IsAlone which owner n (step g owner (Create rights law state))) (sym next.0)
      (create_cases g owner (λ h. h.made ≡ g.made + 1 → IsAlone which owner g.made h) rights law state (λ none. omega (arith, none))
      (λ room made. of_made rights _ refl made) (next.1 ∙ ap (λ (n : ℕ). n + 1) next.0))

-- at first nobody may take from the owner, to whom no edge leads
none_to : (owner x : ℕ) (edges : List Edge) → All (λ e. e.to ≡ owner → ⊥) edges → label_in edges x owner ≡ no_rights
none_to owner x [] none = refl
none_to owner x (e ∷ edges) none =
    ap (λ t. cond t (union e.label (label_in edges x owner)) (label_in edges x owner))
    (and_false (x == e.from) (owner == e.to) (ne_eqb owner e.to (λ same. All-head (λ (k : Edge). k.to ≡ owner → ⊥) e edges none (sym same))))
    ∙ none_to owner x edges (All-tail (λ (k : Edge). k.to ≡ owner → ⊥) e edges none)

pub untaken-start : (owner : ℕ) (p : Plan) → owner < p.workers → All (λ e. e.to ≡ owner → ⊥) p.edges → IsUntaken owner (start_of p)
untaken-start owner p made none = record {
  made = made;
  nobody = λ x held. false≢true (ap (λ r. has r T) (sym (none_to owner x p.edges none)) ∙ held);
}
