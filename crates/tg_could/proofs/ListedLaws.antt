-- What isn't told is never held.
use Rattle.std.proofs.Common.{◌≡◌, ◌≢◌, ⊎_elim, ℕ, ◌<◌, true, List, length, slice_index_or, Option, Some, None, IfSome, refl, ap, subst, sym, ◌∙◌}
use Rattle.std.specs.List.{All, Contains}
use Rattle.std.proofs.lemmas.Bool.{true_from_ne_false}
use Rattle.std.proofs.lemmas.Option.{none-some}
use Rattle.std.proofs.lemmas.Bool.Decides.{eqb_tells}
use Rattle.tg_rights.specs.RightSet.{has, holds_all}
use Rattle.tg_rights.proofs.RightLaws.{has-holds_all}
use Rattle.tg_rights.specs.declared.Right.{Right}
use Rattle.tg_model.specs.declared.edge.Edge.{Edge}
use Rattle.tg_model.specs.Graph.{ProtectionGraph}
use Rattle.tg_model.specs.Opened.{label_in}
use Rattle.tg_model.specs.Picture.{Holds, Shown, IsPictureOf}
use Rattle.tg_could.specs.Turns.{NeverHolds}
use Rattle.tg_could.specs.Separation.{Sides, MayAdd, IsEven}
use Rattle.tg_could.specs.Listed.{IsUnlisted, IsOnlyActor, ListsEdge, ListsActor, rights_over}
use Rattle.tg_could.specs.declared.what.Listed.{Listed}
use Rattle.tg_could.proofs.MarkLaws.{keeps-walks, none_holds, Parts-edges, pictured-made, pictured-never, pictured-same, pictured-alone}

-- the name, or the other where there is none
abbrev that_or : ℕ → Option ℕ → ℕ
that_or other None = other
that_or other (Some v) = v

module _ (silent : List ℕ) (p : Shown) (g : ProtectionGraph) (picture : IsPictureOf p g) (listed : Listed) (x : ℕ) (r : Right) (y : ℕ) (untold : IsUnlisted listed x p.made p.limit r y) (s : Sides) (edges : All (ListsEdge s listed x) p.edges) where
  -- a label over y that is told hasn't the right
  lacking : (k : ℕ) (d : Edge) → k < length p.edges → (slice_index_or p.edges k d).to ≡ y → holds_all (rights_over listed (slice_index_or p.edges k d).to) (slice_index_or p.edges k d).label ≡ true →
      ¬ (has (slice_index_or p.edges k d).label r ≡ true)
  lacking k d inside at_y all is =
      let edge = slice_index_or p.edges k d in
      untold.unlisted (subst (λ (v : ℕ). v < p.made) at_y (pictured-made p g picture k d inside r is).1)
      (subst (λ (v : ℕ). has (rights_over listed v) r ≡ true) at_y (has-holds_all (rights_over listed edge.to) edge.label all r is))

  not_held : (k : ℕ) (d : Edge) → k < length p.edges → (slice_index_or p.edges k d).from ≡ x → (slice_index_or p.edges k d).to ≡ y → ¬ (has (slice_index_or p.edges k d).label r ≡ true)
  not_held k d inside at_x at_y is = lacking k d inside at_y ((edges k d inside).held at_x) is

  lacks : ¬ Holds (label_in p.edges) x r y
  lacks = none_holds x r y p.edges not_held

  fits : (k : ℕ) (d : Edge) → k < length p.edges → x ≢ y → ¬ (listed.alone ≡ Some y) → MayAdd s x r y (slice_index_or p.edges k d).from (slice_index_or p.edges k d).to (slice_index_or p.edges k d).label
  fits k d inside differ helped =
      let edge = slice_index_or p.edges k d in
      let lists = edges k d inside in
      record {
        keeps = keeps-walks s r y edge lists.walks
            (λ is at_y. true_from_ne_false (s.back edge.from)
            (λ out. lacking k d inside at_y
            (lists.got (λ at_x. differ (sym at_x ∙ at_y)) (λ alone. helped (subst (λ (v : ℕ). listed.alone ≡ Some v) at_y alone)) out) is));
        not_held = not_held k d inside;
        not_granted = lists.not_given;
      }

  module _ (actors : All (λ v. ¬ (Contains silent v × (v < p.made)) → ListsActor s listed p x v) p.subjects) where
    -- one who acts is as a separation asks
    even : (v : ℕ) → x ≢ y → ListsActor s listed p x v → IsEven s p x y v
    even v differ lists = record {
      alike = lists.alike;
      not_x = lists.not_x;
      y_may_come = λ comes. true_from_ne_false (s.back v) (λ out. untold.not_later comes.0 comes.1 (λ same. differ (sym same)) (lists.later out));
      x_may_come = lists.x_may_come;
    }

    helped-never : x ≢ y → ¬ (listed.alone ≡ Some y) → NeverHolds silent g x r y
    helped-never differ helped =
        pictured-never silent p g picture s x r y (λ k d inside acts. even (slice_index_or p.subjects k d) differ (actors k d inside acts))
        (Parts-edges s x r y p.edges (λ k d inside. fits k d inside differ helped))

    -- the only one who acts is y, or isn't
    by_only : (only : Option ℕ) → only ≡ listed.alone → IfSome only (IsOnlyActor silent p) → x ≢ y → NeverHolds silent g x r y
    by_only None is alone differ = helped-never differ (λ some. none-some y (is ∙ some))
    by_only (Some v) is alone differ =
        ⊎_elim (λ (eq, same).
        let only = subst (IsOnlyActor silent p) same alone in pictured-alone silent p g picture x r y only.0 only.1 lacks)
        (λ (ne, other). helped-never differ (λ some. other (ap (that_or 0) (is ∙ some))))
        (eqb_tells v y)

    pub unlisted-never : IfSome listed.alone (IsOnlyActor silent p) → NeverHolds silent g x r y
    unlisted-never alone =
        ⊎_elim (λ (is, same). pictured-same silent p g picture x r y same lacks) (λ (not, differ). by_only listed.alone refl alone differ)
        (eqb_tells x y)
