-- Whoever isn't told never holds the right.
use Rattle.std.proofs.Common.{◌≡◌, ◌≢◌, ⊎_elim, true, ℕ, ◌<◌, ◌≤◌, length, List, slice_index_or, subst, sym, ◌∙◌}
use Rattle.std.specs.List.{All, Contains}
use Rattle.std.proofs.lemmas.Bool.Decides.{eqb_tells}
use Rattle.tg_rights.specs.RightSet.{has}
use Rattle.tg_rights.specs.declared.Right.{Right}
use Rattle.tg_rights.specs.declared.Right.TheVariants.{G}
use Rattle.tg_model.specs.declared.edge.Edge.{Edge}
use Rattle.tg_model.specs.declared.opening.TheConstants.{MAX_WORKERS}
use Rattle.tg_model.specs.Graph.{ProtectionGraph}
use Rattle.tg_model.specs.Opened.{label_in}
use Rattle.tg_model.specs.Picture.{Holds, Shown, IsPictureOf}
use Rattle.tg_could.specs.Turns.{NeverHolds}
use Rattle.tg_could.specs.Separation.{Sides, MayAdd, IsEven}
use Rattle.tg_could.specs.Told.{IsToldName, IsUntold, TellsHolder, TellsOf, TellsActor}
use Rattle.tg_could.specs.declared.who.Candidates.{Candidates}
use Rattle.tg_could.proofs.MarkLaws.{keeps-walks, none_holds, Parts-edges, pictured-made, pictured-subject, pictured-never, pictured-same, pictured-alone}

module _ (silent : List ℕ) (p : Shown) (g : ProtectionGraph) (picture : IsPictureOf p g) (told : Candidates) (r : Right) (y x : ℕ) (untold : IsUntold told y p.made p.limit x) (held : All (TellsHolder told r y) p.edges) where
  -- who was made isn't told where it is x
  unmarked : (v : ℕ) → v < p.made → v ≡ x → ¬ IsToldName told v
  unmarked v made at_x is = untold.unmarked (subst (λ (u : ℕ). u < p.made) at_x made) (subst (IsToldName told) at_x is)

  -- x doesn't hold the right by an edge
  not_held : (k : ℕ) (d : Edge) → k < length p.edges → (slice_index_or p.edges k d).from ≡ x → (slice_index_or p.edges k d).to ≡ y → ¬ (has (slice_index_or p.edges k d).label r ≡ true)
  not_held k d inside at_x at_y is =
      unmarked (slice_index_or p.edges k d).from (pictured-made p g picture k d inside r is).0 at_x (held k d inside at_y is)

  lacks : ¬ Holds (label_in p.edges) x r y
  lacks = none_holds x r y p.edges not_held

  pub alone-left_out : MAX_WORKERS ≤ length p.subjects → All (λ v. ¬ (Contains silent v × (v < p.made)) → v ≡ y) p.subjects → NeverHolds silent g x r y
  alone-left_out many alone = pictured-alone silent p g picture x r y many alone lacks

  module _ (s : Sides) (edges : All (TellsOf s told r y) p.edges) (actors : All (λ v. ¬ (Contains silent v × (v < p.made)) → TellsActor s told p y v) p.subjects) where
    -- an edge fits, since x is neither told by it nor given the right
    fits : (k : ℕ) (d : Edge) → k < length p.edges → x ≢ y → MayAdd s x r y (slice_index_or p.edges k d).from (slice_index_or p.edges k d).to (slice_index_or p.edges k d).label
    fits k d inside differ =
        let edge = slice_index_or p.edges k d in
        let tells = edges k d inside in
        record {
          keeps = keeps-walks s r y edge tells.walks tells.held;
          not_held = not_held k d inside;
          not_granted = λ at_x is f.
              unmarked edge.to (pictured-made p g picture k d inside G is).1 at_x (tells.given is f (λ at_y. differ (sym at_x ∙ at_y)));
        }

    -- one who acts is as a separation asks
    even : (v : ℕ) → v < p.made → x ≢ y → TellsActor s told p y v → IsEven s p x y v
    even v made differ tells = record {
      alike = tells.alike;
      not_x = λ at_x b. unmarked v made at_x (tells.told_itself b (λ at_y. differ (sym at_x ∙ at_y)));
      y_may_come = tells.y_may_come;
      x_may_come = λ comes b. untold.not_later comes.0 comes.1 differ (tells.later b);
    }

    pub left_out : NeverHolds silent g x r y
    left_out =
        ⊎_elim (λ (is, same). pictured-same silent p g picture x r y same lacks)
        (λ (not, differ).
        pictured-never silent p g picture s x r y
        (λ k d inside acts. even (slice_index_or p.subjects k d) (pictured-subject p g picture k d inside) differ (actors k d inside acts))
        (Parts-edges s x r y p.edges (λ k d inside. fits k d inside differ)))
        (eqb_tells x y)
