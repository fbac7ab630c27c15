-- Which names are answered.
use Rattle.std.proofs.Common.{◌≡◌, ℕ, ◌+◌, Bool, true, false, cond, nat_lt, List, Option, Some, None, length, refl, sym, ◌∙◌, ap}
use Rattle.tg_rights.specs.RightSet.{RightSet}
use Rattle.tg_model.specs.declared.value.Value.{Value}
use Rattle.tg_model.specs.declared.command.Command.{Command}
use Rattle.tg_model.specs.declared.command.Command.TheVariants.{Take}
use Rattle.tg_model.specs.declared.command.Deed.{Deed}
use Rattle.tg_model.specs.declared.command.Deed.TheVariants.{Create, Spawn, Plain}
use Rattle.tg_model.specs.declared.opening.TheConstants.{MAX_WORKERS}
use Rattle.tg_model.specs.declared.reply.Reply.{Reply}
use Rattle.tg_model.specs.declared.reply.Reply.TheVariants.{Done, Edges, Name, Values, VerticesFull, WorkersFull}
use Rattle.tg_model.specs.declared.reply.Denial.{Denial}
use Rattle.tg_model.specs.Graph.{ProtectionGraph}
use Rattle.tg_model.specs.Rules.{denial_of, denied_or, reply_of, with_vertex, with_subject, step, answer_of}

-- a create that answers a name makes the vertex of that name
created_name : (b : Bool) (g k : ProtectionGraph) (n name : ℕ) → cond b (Name n) VerticesFull ≡ Name name → (name ≡ n) × ((cond b k g).made ≡ k.made)
created_name true g k n name answer = let same : name ≡ n = cc in (same, refl)
created_name false g k n name answer = let no : ⊥ = cc in absurd no

-- a spawn too
spawned_name : (b c : Bool) (g k : ProtectionGraph) (n name : ℕ) → cond b (cond c (Name n) WorkersFull) VerticesFull ≡ Name name → (name ≡ n) × ((cond b (cond c k g) g).made ≡ k.made)
spawned_name true true g k n name answer = let same : name ≡ n = cc in (same, refl)
spawned_name true false g k n name answer = let no : ⊥ = cc in absurd no
spawned_name false c g k n name answer = let no : ⊥ = cc in absurd no

-- a command that is served is answered that it is done, or what it asked for
pub each_reply : (P : Reply → Type 0) → P Done → ((values : List ℕ) → P (Values values)) → ((edges : List (ℕ × RightSet)) → P (Edges edges))
    → (label : ℕ → ℕ → RightSet) (value : ℕ → Option Value) (n x : ℕ) (command : Command) → P (reply_of label value n x command)
each_reply P done values edges label value n x (Take rights y z) = done
each_reply P done values edges label value n x command = search

-- none is answered a name
reply_no_name : (label : ℕ → ℕ → RightSet) (value : ℕ → Option Value) (n x : ℕ) (command : Command) (name : ℕ) → reply_of label value n x command ≡ Name name → ⊥
reply_no_name label value n x command name = each_reply (λ r. r ≡ Name name → ⊥) (λ e. cc e) (λ values e. cc e) (λ edges e. cc e) label value n x command

denied_no_name : (d : Option Denial) (r : Reply) (name : ℕ) → (r ≡ Name name → ⊥) → denied_or d r ≡ Name name → ⊥
denied_no_name None r name other answer = other answer
denied_no_name (Some d) r name other answer = cc

-- a name that is answered is the next one, and is used up
pub name_is_next : (g : ProtectionGraph) (x : ℕ) (deed : Deed) (name : ℕ) → answer_of g x deed ≡ Name name → (name ≡ g.made) × ((step g x deed).made ≡ name + 1)
name_is_next g x (Create label law state) name answer =
    let made = created_name (nat_lt g.made g.limit) g (with_vertex g x label (record { law = law; state = state })) g.made name answer in
    (made.0, made.1 ∙ ap (λ (n : ℕ). n + 1) (sym made.0))
name_is_next g x (Spawn label law state) name answer =
    let made = spawned_name (nat_lt g.made g.limit) (nat_lt (length g.subjects) MAX_WORKERS) g (with_subject g x label (record { law = law; state = state })) g.made name answer in
    (made.0, made.1 ∙ ap (λ (n : ℕ). n + 1) (sym made.0))
name_is_next g x (Plain command) name answer =
    absurd (denied_no_name (denial_of g.label g.value x command) _ name (reply_no_name g.label g.value g.made x command name) answer)
