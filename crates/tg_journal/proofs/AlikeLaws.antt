-- A graph that is another's where subjects reach answers as the other does, and stays alike, also when the rest is forgotten.
use Rattle.std.proofs.Common.{◌≡◌, ◌↔◌, ◌⊎◌, ⊎_elim, inl, inr, ◌<◌, ◌≤◌, ◌==◌, ◌&&◌, ◌++◌, ◌∷◌, [], ℕ, Bool, true, false, cond, List, length, Option, Some, None, refl, sym, ap, subst, ◌∙◌, arith}
use Rattle.std.specs.Prelude.{nat_lt}
use Rattle.std.specs.List.{Contains}
use Rattle.std.proofs.lemmas.Bool.{eq-eqb}
use Rattle.tg_rights.specs.RightSet.{RightSet, no_rights, union, is_none_held}
use Rattle.tg_rights.proofs.RightLaws.{none_held-same}
use Rattle.tg_model.specs.declared.value.Value.{Value}
use Rattle.tg_model.specs.declared.command.Command.{Command}
use Rattle.tg_model.specs.declared.command.Deed.{Deed}
use Rattle.tg_model.specs.declared.command.Deed.TheVariants.{Create, Spawn, Plain}
use Rattle.tg_model.specs.declared.reply.Denial.{Denial}
use Rattle.tg_model.specs.declared.opening.TheConstants.{MAX_WORKERS}
use Rattle.tg_model.specs.Walks.{begins, goes, Walk-within}
use Rattle.tg_model.specs.Graph.{ProtectionGraph, IsSubject, IsReachable, IsSound}
use Rattle.tg_model.specs.Near.{SameNear, SameValuesNear}
use Rattle.tg_model.specs.Opened.{Plan, IsPlan, start_of}
use Rattle.tg_model.specs.Rules.{denial_of, denied_or, reply_of, step, answer_of, effect, with_vertex, with_subject, unless_denied}
use Rattle.tg_model.proofs.AllowedLaws.{permits-no_denial}
use Rattle.tg_model.proofs.NearLaws.{denial_of-near, reply_of-near, labels_after-same, values_after-same}
use Rattle.tg_model.proofs.ReachLaws.{IsReachable-step, lt-IsReachable}
use Rattle.tg_model.proofs.SoundLaws.{IsSound-step, IsSound-start_of}
use Rattle.tg_journal.specs.declared.entry.Entry.{Entry}
use Rattle.tg_journal.specs.Auditing.{AlikeWhereReached, MayMatter, HasComeTo}
use Rattle.tg_journal.specs.History.{IsLegalEntry}
use Rattle.tg_journal.specs.Live.{IsSameGraph, IsSweptGraph}

-- ---- what holds of a sound graph at names that weren't made

unmade_row : (g : ProtectionGraph) → IsSound g → (x y : ℕ) → g.made ≤ x → g.label x y ≡ no_rights
unmade_row g sound x y later = none_held-same (g.label x y) (empty (is_none_held (g.label x y)) refl)
  where
    empty : (b : Bool) → b ≡ is_none_held (g.label x y) → is_none_held (g.label x y) ≡ true
    empty true is = sym is
    empty false is = absurd (omega (arith, later, (sound.ends_made x y (sym is)).0))

-- ---- one step

-- the graph with other labels and values
abbrev other : ProtectionGraph → (ℕ → ℕ → RightSet) → (ℕ → Option Value) → ProtectionGraph
other g f v = record { subjects = g.subjects; made = g.made; limit = g.limit; label = f; value = v }

module _ (g : ProtectionGraph) (f : ℕ → ℕ → RightSet) (v : ℕ → Option Value) (x : ℕ) (sound : IsSound g) (subject : IsSubject g x) (labels : (a b : ℕ) → MayMatter g a → f a b ≡ g.label a b) (values : (y : ℕ) → IsReachable g y → v y ≡ g.value y) where
  reached : IsReachable g x
  reached = begins subject

  near : SameNear g.label f x
  near = record {
    own = λ y. labels x y (inl reached);
    next = λ via y edge. labels via y (inl (goes reached edge));
  }

  values_near : SameValuesNear g.label g.value v x
  values_near y edge = values y (goes reached edge)

  same_denial : (command : Command) → denial_of f v x command ≡ denial_of g.label g.value x command
  same_denial command = denial_of-near g.label f x g.value v near values_near command

  other_answer : (deed : Deed) → answer_of (other g f v) x deed ≡ answer_of g x deed
  other_answer (Create label law state) = refl
  other_answer (Spawn label law state) = refl
  other_answer (Plain command) =
      ap (λ d. denied_or d (reply_of f v g.made x command)) (same_denial command)
      ∙ elim (denial_of g.label g.value x command) as (λ d. denial_of g.label g.value x command ≡ d → denied_or d (reply_of f v g.made x command) ≡ denied_or d (reply_of g.label g.value g.made x command)) [
        | None ↦ λ none. reply_of-near g.label f x g.value v g.made command near values_near (permits-no_denial g.label g.value x command none)
        | Some d ↦ λ e. refl
      ] refl

  -- what holds of the graphs, and of what each deed makes of them, holds of them after a step
  two : (R : ProtectionGraph → ProtectionGraph → Type 0) (b : Bool) (k h s t : ProtectionGraph) → R k s → R h t → R (cond b k h) (cond b s t)
  two R true k h s t first second = first
  two R false k h s t first second = second

  both_step : (R : ProtectionGraph → ProtectionGraph → Type 0) → R (other g f v) g
      → ((label : RightSet) (value : Value) → R (with_vertex (other g f v) x label value) (with_vertex g x label value))
      → ((label : RightSet) (value : Value) → R (with_subject (other g f v) x label value) (with_subject g x label value))
      → ((command : Command) → R (effect (other g f v) x command) (effect g x command)) → (deed : Deed) → R (step (other g f v) x deed) (step g x deed)
  both_step R same vertex subject served (Create label law state) = two R (nat_lt g.made g.limit) _ _ _ _ (vertex label (record { law = law; state = state })) same
  both_step R same vertex subject served (Spawn label law state) =
      two R (nat_lt g.made g.limit) _ _ _ _ (two R (nat_lt (length g.subjects) MAX_WORKERS) _ _ _ _ (subject label (record { law = law; state = state })) same) same
  both_step R same vertex subject served (Plain command) =
      subst (λ (d : Option Denial). R (unless_denied d (other g f v) (effect (other g f v) x command)) (step g x (Plain command))) (sym (same_denial command))
      (elim (denial_of g.label g.value x command) as (λ d. R (unless_denied d (other g f v) (effect (other g f v) x command)) (unless_denied d g (effect g x command))) [
        | None ↦ served command
        | Some d ↦ same
      ])

  -- what is reached after a step was before it, or was made by it
  abbrev Known : ProtectionGraph → Type 0
  Known h = (y : ℕ) → IsReachable h y → (y < h.made) × (IsReachable g y ⊎ (y ≡ g.made))

  mattered : (h : ProtectionGraph) → g.made ≤ h.made → Known h → (a : ℕ) → MayMatter h a → MayMatter g a
  mattered h more known a (inl reachable) = ⊎_elim (λ now. inl now) (λ new. inr (omega (arith, new))) (known a reachable).1
  mattered h more known a (inr later) = inr (omega (arith, later, more))

  alike_created : (label : RightSet) (value : Value) (subjects : List ℕ) → Known (record (with_vertex g x label value) { subjects = subjects }) → AlikeWhereReached (record (with_vertex g x label value) { subjects = subjects }) (record (with_vertex (other g f v) x label value) { subjects = subjects })
  alike_created label value subjects known = record {
    subjects = refl;
    made = refl;
    limit = refl;
    label = λ a c matters. ap (λ s. cond ((a == x) && (c == g.made)) (union s label) s) (labels a c (mattered (record (with_vertex g x label value) { subjects = subjects }) (omega arith) known a matters));
    value = λ y reachable. ⊎_elim (λ now. ap (λ o. cond (y == g.made) (Some value) o) (values y now)) (λ new. rw (eq-eqb y g.made new) refl) (known y reachable).1;
  }

  alike_served : (command : Command) → Known (effect g x command) → AlikeWhereReached (effect g x command) (effect (other g f v) x command)
  alike_served command known = record {
    subjects = refl;
    made = refl;
    limit = refl;
    label = λ a c matters. labels_after-same g.label f x command a c (labels a c (mattered (effect g x command) (omega arith) known a matters));
    value = λ y reachable. let (low, was) = known y reachable in
        values_after-same g.value v command y (⊎_elim (values y) (λ new. absurd (omega (arith, low, new))) was);
  }

  other_step : (deed : Deed) → HasComeTo (step g x deed) (step (other g f v) x deed)
  other_step deed =
      let then = IsSound-step g sound x subject deed in
      record {
        sound = then;
        alike = both_step (λ k h. Known h → AlikeWhereReached h k) (λ _. record { subjects = refl; made = refl; limit = refl; label = labels; value = values })
            (λ label value. alike_created label value g.subjects) (λ label value. alike_created label value (g.subjects ++ g.made ∷ [])) alike_served deed
            (λ y reachable. (lt-IsReachable (step g x deed) then y reachable, IsReachable-step g x subject sound deed y reachable));
      }

module _ (g k : ProtectionGraph) (come : HasComeTo g k) where
  parts : k ≡ other g k.label k.value
  parts = λ i. record { subjects = come.alike.subjects i; made = come.alike.made i; limit = come.alike.limit i; label = k.label; value = k.value }

  subject_alike : (x : ℕ) → IsSubject k x → IsSubject g x
  subject_alike x is = subst (λ (s : List ℕ). Contains s x) come.alike.subjects is

  subject_kept : (x : ℕ) → IsSubject g x → IsSubject k x
  subject_kept x is = subst (λ (s : List ℕ). Contains s x) (sym come.alike.subjects) is

  module _ (x : ℕ) (subject : IsSubject g x) (deed : Deed) where
    -- the answers are the same
    pub answer_alike : answer_of k x deed ≡ answer_of g x deed
    answer_alike =
        ap (λ k. answer_of k x deed) parts
        ∙ other_answer g k.label k.value x come.sound subject come.alike.label come.alike.value deed

    -- and the graphs stay alike
    pub step_alike : HasComeTo (step g x deed) (step k x deed)
    step_alike =
        subst (λ (k : ProtectionGraph). HasComeTo (step g x deed) (step k x deed)) (sym parts)
        (other_step g k.label k.value x come.sound subject come.alike.label come.alike.value deed)

  pub entry_alike : (e : Entry) → IsLegalEntry k e ↔ IsLegalEntry g e
  entry_alike e = (
    λ legal.
        let subject = subject_alike e.worker legal.subject in
        record { subject = subject; fits = legal.fits; reply = legal.reply ∙ answer_alike e.worker subject e.deed },
    λ legal. record {
      subject = subject_kept e.worker legal.subject;
      fits = legal.fits;
      reply = legal.reply ∙ sym (answer_alike e.worker legal.subject e.deed);
    },
  )

  -- lack of memory for a deed
  pub as_before : (new : ProtectionGraph) → IsSameGraph k new → HasComeTo g new
  as_before new before = record {
    sound = come.sound;
    alike = record {
      subjects = before.subjects ∙ come.alike.subjects;
      made = before.made ∙ come.alike.made;
      limit = before.limit ∙ come.alike.limit;
      label = λ a c matters. ap (λ f. f a c) before.label ∙ come.alike.label a c matters;
      value = λ y reachable.
          before.value y (omega (arith, lt-IsReachable g come.sound y reachable, come.alike.made))
          ∙ come.alike.value y reachable;
    };
  }

  -- ---- what is reached in one graph is in the other

  abbrev InBoth : ℕ → Type 0
  InBoth y = IsReachable g y × IsReachable k y

  pub reached_in_kept : (y : ℕ) → IsReachable g y → IsReachable k y
  reached_in_kept y reachable =
      (Walk-within InBoth (λ c first. (begins first, begins (subject_kept c first)))
      (λ b c (in_g, in_k) edge. (goes in_g edge, goes in_k (ap is_none_held (come.alike.label b c (inl in_g)) ∙ edge))) y reachable).1

  pub reached_in_whole : (y : ℕ) → IsReachable k y → IsReachable g y
  reached_in_whole y reachable =
      (Walk-within InBoth (λ c first. (begins (subject_alike c first), begins first))
      (λ b c (in_g, in_k) edge. (goes in_g (sym (ap is_none_held (come.alike.label b c (inl in_g))) ∙ edge), goes in_k edge)) y reachable).0

  -- what no subject reaches may be forgotten
  pub swept_alike : (new : ProtectionGraph) → IsSweptGraph k new → HasComeTo g new
  swept_alike new swept = record {
    sound = come.sound;
    alike = record {
      subjects = swept.subjects ∙ come.alike.subjects;
      made = swept.made ∙ come.alike.made;
      limit = swept.limit ∙ come.alike.limit;
      label = λ a c matters. elim matters [
        | inl reachable ↦ swept.label a c (reached_in_kept a reachable) ∙ come.alike.label a c (inl reachable)
        | inr later ↦
            swept.no_label a c (λ reachable. omega (arith, later, lt-IsReachable g come.sound a (reached_in_whole a reachable)))
            ∙ sym (unmade_row g come.sound a c later)
      ];
      value = λ y reachable. swept.value y (reached_in_kept y reachable) ∙ come.alike.value y reachable;
    };
  }

-- an audit begins with the graph that an opening starts from
pub opened_alike : (p : Plan) (k : ProtectionGraph) → IsPlan p → k ≡ start_of p → HasComeTo (start_of p) k
opened_alike p k is same = record {
  sound = IsSound-start_of p is;
  alike = record {
    subjects = ap (λ k. k.subjects) same;
    made = ap (λ k. k.made) same;
    limit = ap (λ k. k.limit) same;
    label = λ a c matters. ap (λ k. k.label a c) same;
    value = λ y reachable. ap (λ k. k.value y) same;
  };
}
