-- What making a vertex comes to: where a limit is met, and where there is room.
use Rattle.std.proofs.Common.{◌≡◌, ℕ, ◌<◌, ◌≤◌, length, refl, arith}
use Rattle.std.proofs.Math.Nat.{lt_of_not-le}
use Rattle.tg_rights.specs.RightSet.{RightSet}
use Rattle.tg_model.specs.declared.value.Value.{Value}
use Rattle.tg_model.specs.declared.making.Making.{Making}
use Rattle.tg_model.specs.declared.making.Making.TheVariants.{Object, Subject}
use Rattle.tg_model.specs.declared.opening.TheConstants.{MAX_WORKERS}
use Rattle.tg_model.specs.declared.reply.Reply.TheVariants.{Name, VerticesFull, WorkersFull}
use Rattle.tg_model.specs.Graph.{ProtectionGraph}
use Rattle.tg_model.specs.Making.{deed_making, subjects_making}
use Rattle.tg_model.specs.Rules.{IsAllowed, with_vertex, step, answer_of}
use Rattle.tg_model.proofs.AllowedLaws.{answer-created, answer-full, answer-spawned, answer-spawn_full, answer-workers_full, step-created, step-spawned, step-not_allowed}

-- no limit is met
pub record HasRoom (making : Making) (g : ProtectionGraph) : Type 0 where
  pub made : g.made < g.limit
  pub subjects : (making ≡ Subject) × (MAX_WORKERS ≤ length g.subjects) → ⊥

module _ (g : ProtectionGraph) (x : ℕ) (label : RightSet) (value : Value) where
  room_of : (making : Making) → IsAllowed g x (deed_making making label value) → HasRoom making g
  room_of Object low = record { made = low; subjects = λ many. let no : ⊥ = cc many.0 in no }
  room_of Subject room = record { made = room.0; subjects = λ many. let no : ⊥ = omega (arith, room.1, many.1) in no }

  pub step-full : (making : Making) → (HasRoom making g → ⊥) → step g x (deed_making making label value) ≡ g
  step-full making full = step-not_allowed g x (deed_making making label value) (λ allowed. full (room_of making allowed))

  pub answer-vertices : (making : Making) → g.limit ≤ g.made → answer_of g x (deed_making making label value) ≡ VerticesFull
  answer-vertices Object full = answer-full g x label value.law value.state full
  answer-vertices Subject full = answer-spawn_full g x label value.law value.state full

  pub answer-subjects : (making : Making) → g.made < g.limit → (making ≡ Subject) × (MAX_WORKERS ≤ length g.subjects) → answer_of g x (deed_making making label value) ≡ WorkersFull
  answer-subjects Object room many = let no : ⊥ = cc many.0 in absurd no
  answer-subjects Subject room many = answer-workers_full g x label value.law value.state room many.1

  few : HasRoom Subject g → length g.subjects < MAX_WORKERS
  few room = lt_of_not-le (λ many. room.subjects (refl, many))

  pub answer-made : (making : Making) → HasRoom making g → answer_of g x (deed_making making label value) ≡ Name g.made
  answer-made Object room = answer-created g x label value.law value.state room.made
  answer-made Subject room = answer-spawned g x label value.law value.state room.made (few room)

  pub step-made : (making : Making) → HasRoom making g → step g x (deed_making making label value) ≡ record (with_vertex g x label value) { subjects = subjects_making making g.subjects g.made }
  step-made Object room = step-created g x label value.law value.state room.made
  step-made Subject room = step-spawned g x label value.law value.state room.made (few room)
