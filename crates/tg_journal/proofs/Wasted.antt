-- A subject that makes vertices and gives them up leads to the graph in which so many more were made that nobody reaches.
use Rattle.std.proofs.Common.{◌≡◌, ⊎_elim, ◌<◌, ◌≤◌, ◌==◌, ◌&&◌, ◌+◌, ◌-◌, ◌++◌, ◌∷◌, [], ℕ, zero, suc, Bool, true, false, cond, Option, Some, None, refl, sym, ap, subst, ◌∙◌, arith}
use Rattle.std.specs.Prelude.{nat_lt, IsSome}
use Rattle.std.proofs.lemmas.Bool.{ltb-true, lt-ltb, eqb-true, eq-eqb, ne_eqb, and_parts, cond-true, cond-false, cases_Bool, cases_lt, false≢true}
use Rattle.tg_rights.specs.RightSet.{RightSet, no_rights, only, union, minus, holds_all}
use Rattle.tg_rights.specs.declared.Right.TheVariants as right
use Rattle.tg_rights.proofs.RightLaws.{holds_all-union}
use Rattle.tg_model.specs.declared.command.Command.{Command}
use Rattle.tg_model.specs.declared.command.Command.TheVariants.{Remove}
use Rattle.tg_model.specs.declared.command.Deed.{Deed}
use Rattle.tg_model.specs.declared.command.Deed.TheVariants.{Create, Plain}
use Rattle.tg_model.specs.declared.law.Law.TheVariants.{Cell}
use Rattle.tg_model.specs.declared.reply.Reply.TheVariants.{Done, Name}
use Rattle.tg_model.specs.declared.value.Value.{Value}
use Rattle.tg_model.specs.Graph.{ProtectionGraph, IsSound, IsSubject, without_rights}
use Rattle.tg_model.specs.Rules.{Permits, answer_of, effect, step, with_value, with_vertex}
use Rattle.tg_model.proofs.AllowedLaws.{answer-allowed, step-allowed}
use Rattle.tg_journal.specs.declared.entry.Entry.{Entry}
use Rattle.tg_journal.specs.History.{IsLegal, IsLegalEntry, graph_after}
use Rattle.tg_journal.proofs.HistoryLaws.{IsLegal-append, graph_after-append}
use Rattle.tg_journal.specs.Raised.{LeadsTo, with_unreached}
use Rattle.tg_snapshot.specs.Snapshot.{unreached_value}
use Rattle.tg_snapshot.proofs.GraphLaws.{none_held}
use Rattle.tg_journal.proofs.RaisedLaws.{IsSound-unreached}

-- ---- numbers and values

not_below : (a b : ℕ) → b ≤ a → nat_lt a b ≡ false
not_below a b le = ⊎_elim (λ less. absurd (omega (arith, ltb-true a b less, le))) (λ is. is) (cases_Bool (nat_lt a b))

none_of : (o : Option Value) → (IsSome o → ⊥) → o ≡ None
none_of None other = refl
none_of (Some value) other = absurd (other refl)

unstored : (g : ProtectionGraph) → IsSound g → (y : ℕ) → g.made ≤ y → g.value y ≡ None
unstored g sound y later = none_of (g.value y) (λ some. omega (arith, later, (sound.values y).0 some))

-- ---- one vertex more

-- what is given and given up again leaves none
back : (t : Bool) (s : RightSet) → (t ≡ true → s ≡ no_rights) → cond t (minus (cond t (union s (only right.R)) s) (only right.R)) (cond t (union s (only right.R)) s) ≡ s
back true s none = let empty = none refl in ap (λ (s : RightSet). minus (union s (only right.R)) (only right.R)) empty ∙ sym empty
back false s none = refl

module _ (g : ProtectionGraph) (x : ℕ) (sound : IsSound g) (subject : IsSubject g x) (room : g.made < g.limit) where
  abbrev making : Deed
  making = Create (only right.R) Cell (0 ∷ [])

  abbrev giving_up : Command
  giving_up = Remove (only right.R) g.made

  abbrev then : ProtectionGraph
  then = with_vertex g x (only right.R) unreached_value

  low : x < g.made
  low = sound.subjects_made x subject

  step_made : step g x making ≡ then
  step_made = cond-true (nat_lt g.made g.limit) then g (lt-ltb g.made g.limit room)

  answer_made : answer_of g x making ≡ Name g.made
  answer_made = cond-true (nat_lt g.made g.limit) _ _ (lt-ltb g.made g.limit room)

  at_itself : ((x == x) && (g.made == g.made)) ≡ true
  at_itself = ap (λ (t : Bool). t && (g.made == g.made)) (eq-eqb x x refl) ∙ eq-eqb g.made g.made refl

  holds : holds_all (then.label x g.made) (only right.R) ≡ true
  holds =
      ap (λ (s : RightSet). holds_all s (only right.R)) (cond-true ((x == x) && (g.made == g.made)) (union (g.label x g.made) (only right.R)) (g.label x g.made) at_itself)
      ∙ holds_all-union (g.label x g.made) (only right.R)

  permits : Permits then.label then.value x giving_up
  permits = (λ same. omega (arith, same, low), holds)

  labels : (a b : ℕ) → without_rights then.label x g.made (only right.R) a b ≡ g.label a b
  labels a b = back ((a == x) && (b == g.made)) (g.label a b) unmade
    where
      unmade : ((a == x) && (b == g.made)) ≡ true → g.label a b ≡ no_rights
      unmade at =
          let same : b ≡ g.made = eqb-true b g.made (and_parts (a == x) (b == g.made) at).1 in
          none_held (g.label a b) (λ edge. omega (arith, same, (sound.ends_made a b edge).1))

  values : (y : ℕ) → with_value g.value g.made unreached_value y ≡ (with_unreached g (g.made + 1)).value y
  values y = ⊎_elim older (λ later. decide later (y == g.made) refl) (cases_lt y g.made)
    where
      older : y < g.made → with_value g.value g.made unreached_value y ≡ (with_unreached g (g.made + 1)).value y
      older less =
          cond-false (y == g.made) _ _ (ne_eqb y g.made (λ same. omega (arith, same, less)))
          ∙ sym (cond-true (nat_lt y g.made) _ _ (lt-ltb y g.made less))

      decide : g.made ≤ y → (b : Bool) → b ≡ (y == g.made) → with_value g.value g.made unreached_value y ≡ (with_unreached g (g.made + 1)).value y
      decide later true is =
          cond-true (y == g.made) _ _ (sym is)
          ∙ sym (cond-false (nat_lt y g.made) _ _ (not_below y g.made later) ∙ cond-true (nat_lt y (g.made + 1)) _ _ (lt-ltb y (g.made + 1) (let same : y ≡ g.made = eqb-true y g.made (sym is) in omega (arith, same))))
      decide later false is =
          cond-false (y == g.made) _ _ (sym is)
          ∙ unstored g sound y later
          ∙ sym (cond-false (nat_lt y g.made) _ _ (not_below y g.made later) ∙ cond-false (nat_lt y (g.made + 1)) _ _ (not_below y (g.made + 1) (above later is)))
        where
          above : g.made ≤ y → false ≡ (y == g.made) → g.made + 1 ≤ y
          above later is = ⊎_elim (λ less. omega (arith, less)) (λ le. let same : y ≡ g.made = omega (arith, le, later) in absurd (false≢true (is ∙ eq-eqb y g.made same))) (cases_lt g.made y)

  given_up : effect then x giving_up ≡ with_unreached g (g.made + 1)
  given_up = λ i. record { subjects = g.subjects; made = g.made + 1; limit = g.limit; label = λ a b. labels a b i; value = λ y. values y i }

  abbrev first_entry : Entry
  first_entry = record { worker = x; deed = making; reply = Name g.made }

  abbrev second_entry : Entry
  second_entry = record { worker = x; deed = Plain giving_up; reply = Done }

  second_legal : IsLegalEntry then second_entry
  second_legal = record { subject = subject; fits = tt; reply = sym (answer-allowed then x giving_up permits) }

  one_more : LeadsTo g (with_unreached g (g.made + 1))
  one_more = record {
    entries = first_entry ∷ second_entry ∷ [];
    legal = (record { subject = subject; fits = refl; reply = sym answer_made }, (subst (λ (h : ProtectionGraph). IsLegalEntry h second_entry) (sym step_made) second_legal, tt));
    graph = ap (λ (h : ProtectionGraph). step h x (Plain giving_up)) step_made ∙ step-allowed then x giving_up permits ∙ given_up;
  }

-- ---- as many as wanted

nested : {A : Type 0} (a b c : Bool) (v s n : A) → (a ≡ true → b ≡ true) → (b ≡ true → c ≡ true) → cond b (cond a v (cond b s n)) (cond c s n) ≡ cond a v (cond c s n)
nested true true c v s n first second = refl
nested true false c v s n first second = absurd (false≢true (first refl))
nested false true true v s n first second = refl
nested false true false v s n first second = absurd (false≢true (second refl))
nested false false c v s n first second = refl

unchanged : (g : ProtectionGraph) → IsSound g → with_unreached g g.made ≡ g
unchanged g sound = λ i. record { subjects = g.subjects; made = g.made; limit = g.limit; label = g.label; value = λ y. same y i }
  where
    same : (y : ℕ) → (with_unreached g g.made).value y ≡ g.value y
    same y =
        ⊎_elim (λ less. cond-true (nat_lt y g.made) _ _ (lt-ltb y g.made less))
        (λ le. cond-false (nat_lt y g.made) _ _ (not_below y g.made le) ∙ cond-false (nat_lt y g.made) _ _ (not_below y g.made le) ∙ sym (unstored g sound y le))
        (cases_lt y g.made)

twice : (g : ProtectionGraph) (made : ℕ) → g.made + 1 ≤ made → with_unreached (with_unreached g (g.made + 1)) made ≡ with_unreached g made
twice g made more = λ i. record { subjects = g.subjects; made = made; limit = g.limit; label = g.label; value = λ y. same y i }
  where
    same : (y : ℕ) → (with_unreached (with_unreached g (g.made + 1)) made).value y ≡ (with_unreached g made).value y
    same y =
        nested (nat_lt y g.made) (nat_lt y (g.made + 1)) (nat_lt y made) (g.value y) (Some unreached_value) None
        (λ is. lt-ltb y (g.made + 1) (omega (arith, ltb-true y g.made is)))
        (λ is. lt-ltb y made (omega (arith, ltb-true y (g.made + 1) is, more)))

joined : (g h k : ProtectionGraph) → LeadsTo g h → LeadsTo h k → LeadsTo g k
joined g h k first second = record {
  entries = first.entries ++ second.entries;
  legal = IsLegal-append g first.entries second.entries first.legal (subst (λ (h : ProtectionGraph). IsLegal h second.entries) (sym first.graph) second.legal);
  graph = graph_after-append g first.entries second.entries ∙ ap (λ (h : ProtectionGraph). graph_after h second.entries) first.graph ∙ second.graph;
}

leads : (more : ℕ) (g : ProtectionGraph) (x made : ℕ) → IsSound g → IsSubject g x → made ≡ g.made + more → made ≤ g.limit → LeadsTo g (with_unreached g made)
leads zero g x made sound subject is within =
    let none : g.made ≡ made = omega (arith, is) in
    subst (λ (n : ℕ). LeadsTo g (with_unreached g n)) none (record { entries = []; legal = tt; graph = sym (unchanged g sound) })
leads (suc more) g x made sound subject is within =
    let next : ProtectionGraph = with_unreached g (g.made + 1) in
    let rest = leads more next x made (IsSound-unreached g (g.made + 1) sound (omega arith)) subject (omega (arith, is)) within in
    joined g next (with_unreached g made) (one_more g x sound subject (omega (arith, is, within)))
    (subst (LeadsTo next) (twice g made (omega (arith, is))) rest)

pub leads_to_unreached : (g : ProtectionGraph) (x made : ℕ) → IsSound g → IsSubject g x → g.made ≤ made → made ≤ g.limit → LeadsTo g (with_unreached g made)
leads_to_unreached g x made sound subject more within = leads (made - g.made) g x made sound subject (omega (arith, more)) within
