-- Who stays a subject: a worker none of whose entries is a retire. And who is none any more: one of whose entries is.
use Rattle.std.proofs.Common.{◌≡◌, ◌≢◌, ◌∙◌, ℕ, ◌<◌, ◌==◌, Bool, true, false, List, [], ◌∷◌, ◌++◌, ap, arith, refl, subst, sym, ⊎_elim}
use Rattle.std.specs.List.{Contains}
use Rattle.std.proofs.lemmas.Bool.{cases_eq}
use Rattle.std.proofs.lemmas.List.Elements.{Contains-append_left, filter-append}
use Rattle.tg_model.specs.declared.command.Command.TheVariants.{Retire}
use Rattle.tg_model.specs.declared.command.Deed.{Deed}
use Rattle.tg_model.specs.declared.command.Deed.TheVariants.{Create, Plain, Spawn}
use Rattle.tg_model.specs.Graph.{ProtectionGraph, IsSound, IsSubject}
use Rattle.tg_model.specs.Rules.{step}
use Rattle.tg_model.proofs.AllowedLaws.{spawn_cases}
use Rattle.tg_model.proofs.SoundLaws.{IsSound-step, command-subjects, create-subjects, le-step-made, retired}
use Rattle.tg_journal.specs.declared.entry.Entry.{Entry}
use Rattle.tg_journal.specs.History.{IsLegal, graph_after}
use Rattle.tg_journal.proofs.HistoryLaws.{no_subject-after}
use Rattle.tg_passes.specs.Passes.{own_entries}
use Rattle.tg_passes.proofs.Signing.{no_own, only_own}
use Rattle.tg_shared.specs.Sessions.{retired_behind, retired_by}

-- ---- whether a retire is among entries

by_once : (deed : Deed) → retired_by true deed ≡ true
by_once (Plain Retire) = refl
by_once deed = refl

behind_once : (es : List Entry) → retired_behind true es ≡ true
behind_once [] = refl
behind_once (e ∷ es) = ap (λ b. retired_behind b es) (by_once e.deed) ∙ behind_once es

pub behind_append : (retired : Bool) (es more : List Entry) → retired_behind retired (es ++ more) ≡ retired_behind (retired_behind retired es) more
behind_append retired [] more = refl
behind_append retired (e ∷ es) more = behind_append (retired_by retired e.deed) es more

-- where none is among all, none is among the later ones
pub none_later : (es more : List Entry) → retired_behind false (es ++ more) ≡ false → retired_behind false more ≡ false
none_later es more none = later (retired_behind false es) (sym (behind_append false es more) ∙ none)
  where
    later : (b : Bool) → retired_behind b more ≡ false → retired_behind false more ≡ false
    later false is = is
    later true is = let no : ⊥ = cc (behind_once more, is) in absurd no

own_here : (worker : ℕ) (e : Entry) (es : List Entry) → e.worker ≡ worker → own_entries worker (e ∷ es) ≡ e ∷ own_entries worker es
own_here worker e es is = filter-append (λ (x : Entry). x.worker == worker) (e ∷ []) es ∙ ap (λ l. l ++ own_entries worker es) (only_own worker e is)

own_there : (worker : ℕ) (e : Entry) (es : List Entry) → e.worker ≢ worker → own_entries worker (e ∷ es) ≡ own_entries worker es
own_there worker e es isnt = filter-append (λ (x : Entry). x.worker == worker) (e ∷ []) es ∙ ap (λ l. l ++ own_entries worker es) (no_own worker e isnt)

-- ---- who is none any more

gone_by : (g : ProtectionGraph) (w : ℕ) (b : Bool) (deed : Deed) → IsSound g → IsSubject g w → (b ≡ true → ¬ IsSubject g w) → retired_by b deed ≡ true → (w < (step g w deed).made) × (¬ IsSubject (step g w deed) w)
gone_by g w b (Plain Retire) sound here before is =
    let low = sound.subjects_made w here in
    let grows = le-step-made g w (Plain Retire) in
    (omega (arith, low, grows), λ again. ((retired g w w).0 again).1 refl)
gone_by g w b deed sound here before is = absurd (before is here)

gone_behind : (g : ProtectionGraph) (w : ℕ) (es : List Entry) (b : Bool) → IsSound g → IsLegal g es → (b ≡ true → (w < g.made) × (¬ IsSubject g w)) → retired_behind b (own_entries w es) ≡ true → ¬ IsSubject (graph_after g es) w
gone_behind g w [] b sound legal before is = (before is).1
gone_behind g w (e ∷ es) b sound legal before is =
    let next : ProtectionGraph = step g e.worker e.deed in
    let after : IsSound next = IsSound-step g sound e.worker legal.0.subject e.deed in
    ⊎_elim
    (λ (own : e.worker ≡ w). gone_behind next w es (retired_by b e.deed) after legal.1
    (λ t. subst (λ (n : ℕ). (n < next.made) × (¬ IsSubject next n)) own (gone_by g e.worker b e.deed sound legal.0.subject (λ t. subst (λ (n : ℕ). ¬ IsSubject g n) (sym own) (before t).1) t))
    (sym (ap (retired_behind b) (own_here w e es own)) ∙ is))
    (λ (other : e.worker ≢ w). gone_behind next w es b after legal.1
    (λ t. let k = before t in let low = k.0 in let grows = le-step-made g e.worker e.deed in (omega (arith, low, grows), no_subject-after g (e ∷ []) w k.0 k.1))
    (sym (ap (retired_behind b) (own_there w e es other)) ∙ is))
    (cases_eq e.worker w)

-- a worker one of whose entries in a legal history is a retire is no subject after it
pub who_retired : (g : ProtectionGraph) (w : ℕ) (es : List Entry) → IsSound g → IsLegal g es → retired_behind false (own_entries w es) ≡ true → ¬ IsSubject (graph_after g es) w
who_retired g w es sound legal is = gone_behind g w es false sound legal (λ no. let never : ⊥ = cc in absurd never) is

-- ---- who stays

stays_by : (g : ProtectionGraph) (x w : ℕ) (deed : Deed) → (x ≡ w → retired_by false deed ≡ false) → IsSubject g w → IsSubject (step g x deed) w
stays_by g x w (Create label law state) none here = subst (λ (l : List ℕ). Contains l w) (sym (create-subjects g x label law state)) here
stays_by g x w (Spawn label law state) none here = spawn_cases g x (λ k. IsSubject k w) label law state here (λ room few. Contains-append_left g.subjects (g.made ∷ []) w here)
stays_by g x w (Plain Retire) none here = (retired g x w).1 (here, λ is. let no : ⊥ = cc (none (sym is)) in absurd no)
stays_by g x w (Plain command) none here = subst (λ (l : List ℕ). Contains l w) (sym (command-subjects g x command (λ is. let no : ⊥ = cc in absurd no))) here

-- a subject none of whose entries is a retire is one after them
pub who_stays : (g : ProtectionGraph) (w : ℕ) (es : List Entry) → IsSubject g w → retired_behind false (own_entries w es) ≡ false → IsSubject (graph_after g es) w
who_stays g w [] here none = here
who_stays g w (e ∷ es) here none =
    ⊎_elim
    (λ (own : e.worker ≡ w).
    let all : retired_behind false (e ∷ own_entries w es) ≡ false = sym (ap (retired_behind false) (own_here w e es own)) ∙ none in
    who_stays (step g e.worker e.deed) w es (stays_by g e.worker w e.deed (λ _. first e.deed (own_entries w es) all) here) (none_later (e ∷ []) (own_entries w es) all))
    (λ (other : e.worker ≢ w). who_stays (step g e.worker e.deed) w es (stays_by g e.worker w e.deed (λ is. absurd (other is)) here) (sym (ap (retired_behind false) (own_there w e es other)) ∙ none))
    (cases_eq e.worker w)
  where
    first : (deed : Deed) (rest : List Entry) → retired_behind (retired_by false deed) rest ≡ false → retired_by false deed ≡ false
    first deed rest is = only (retired_by false deed) is
      where
        only : (b : Bool) → retired_behind b rest ≡ false → b ≡ false
        only false is = refl
        only true is = let no : ⊥ = cc (behind_once rest, is) in absurd no
