-- What the laws of decisions and steps say of a content and the graph that it represents: words that no other contract needs.
use Rattle.std.specs.Prelude.{◌≡◌, ◌⊎◌, ◌<◌, ◌≤◌, ℕ, List, Option, None, Some, length}
use Rattle.tg_rights.specs.RightSet.{RightSet}
use Rattle.tg_model.specs.Graph.{ProtectionGraph, IsSubject, IsSound, with_rights}
use Rattle.tg_model.specs.Rules.{denial_of, denied_or, reply_of, with_value, step, answer_of}
use Rattle.tg_model.specs.declared.command.Command.{Command}
use Rattle.tg_model.specs.declared.command.Deed.TheVariants.{Create, Spawn, Plain}
use Rattle.tg_model.specs.declared.law.Law.{Law}
use Rattle.tg_model.specs.declared.opening.TheConstants.{MAX_WORKERS}
use Rattle.tg_model.specs.declared.reply.Denial.{Denial}
use Rattle.tg_model.specs.declared.reply.Reply.{Reply}
use Rattle.tg_model.specs.declared.reply.Reply.TheVariants.{Denied}
use Rattle.tg_model.specs.declared.value.Value.{Value}
use Rattle.tg_rows.specs.Content.{Content, IsNamed, IsContent, IsSameContent, OnlyNamedHold}
use Rattle.tg_graph.specs.Standing.{IsContentOf}
use Rattle.tg_rules.specs.Effect.{IsReplyOn, IsContentAfter}

-- ---- a content and a subject

-- the content represents the graph, of which x is a subject
pub record StandsForSubject (c : Content) (g : ProtectionGraph) (x : ℕ) : Type 0 where
  pub content : IsContentOf c g
  pub subject : IsSubject g x

-- and only what it has holds rights, and the graph is sound
pub record StandsForMaker (c : Content) (g : ProtectionGraph) (x : ℕ) : Type 0 where
  pub content : IsContentOf c g
  pub only_named : OnlyNamedHold c
  pub sound : IsSound g
  pub subject : IsSubject g x

-- the denial of a command of x on a content
abbrev pub denial_on : Content → ℕ → Command → Option Denial
denial_on c x command = denial_of c.label c.value x command

-- ---- decisions

-- each command of x has the denial on the graph that it has on the content
abbrev pub DeniesAsContent : Content → ProtectionGraph → ℕ → Type 0
DeniesAsContent c g x = (command : Command) → denial_on c x command ≡ denial_of g.label g.value x command

-- the graph answers that denial, or else the reply on the content, with as many vertices as the graph ever made
abbrev pub AnswersAsContent : Content → ProtectionGraph → ℕ → Type 0
AnswersAsContent c g x =
    (command : Command) → answer_of g x (Plain command) ≡ denied_or (denial_on c x command) (reply_of c.label c.value g.made x command)

-- where the content has no denial, the graph answers what is a reply on the content
abbrev pub RepliesAsContent : Content → ProtectionGraph → ℕ → Type 0
RepliesAsContent c g x =
    (command : Command) (reply : Reply) → denial_on c x command ≡ None → IsReplyOn c x command reply → answer_of g x (Plain command) ≡ reply

-- where it has one, the graph answers this
abbrev pub RefusesAsContent : Content → ProtectionGraph → ℕ → Type 0
RefusesAsContent c g x =
    (command : Command) (denial : Denial) → denial_on c x command ≡ Some denial → answer_of g x (Plain command) ≡ Denied denial

-- ---- steps

-- where a command of x is served, the content after it represents the next graph
abbrev pub ServesAsContent : Content → ProtectionGraph → ℕ → Type 0
ServesAsContent c g x =
    (new : Content) (command : Command) → denial_on c x command ≡ None → IsContentAfter c new x command → IsContentOf new (step g x (Plain command))

-- where it is denied, the same content does
abbrev pub StaysWhereDenied : Content → ProtectionGraph → ℕ → Type 0
StaysWhereDenied c g x =
    (new : Content) (command : Command) (denial : Denial) → denial_on c x command ≡ Some denial → IsSameContent c new → IsContentOf new (step g x (Plain command))

-- the content has one vertex more, over which x has these rights
abbrev pub HasOneMore : Content → Content → ℕ → ℕ → RightSet → Value → Type 0
HasOneMore old new x name label value =
    IsContent new (λ y. IsNamed old y ⊎ (y ≡ name)) (with_rights old.label x name label) (with_value old.value name value)

-- where x makes an object, the content with the graph's next name represents the next graph
abbrev pub CreatesAsContent : Content → ProtectionGraph → ℕ → Type 0
CreatesAsContent c g x =
    (new : Content) (label : RightSet) (law : Law) (state : List ℕ) →
    g.made < g.limit → HasOneMore c new x g.made label (record { law = law; state = state }) → IsContentOf new (step g x (Create label law state))

-- the same where x makes a subject
abbrev pub SpawnsAsContent : Content → ProtectionGraph → ℕ → Type 0
SpawnsAsContent c g x =
    (new : Content) (label : RightSet) (law : Law) (state : List ℕ) →
    g.made < g.limit → length g.subjects < MAX_WORKERS →
    HasOneMore c new x g.made label (record { law = law; state = state }) → IsContentOf new (step g x (Spawn label law state))

-- where no more vertices may be made, the same content represents the next graph
abbrev pub StaysWhereFull : Content → ProtectionGraph → ℕ → Type 0
StaysWhereFull c g x =
    (new : Content) (label : RightSet) (law : Law) (state : List ℕ) →
    g.limit ≤ g.made → IsSameContent c new → IsContentOf new (step g x (Create label law state))
