-- The graph that a snapshot shows, and the one that its lists give, are alike to the graph of which it is a snapshot.
use Rattle.std.proofs.Common.{◌≡◌, inl, inr, ◌<◌, ◌≤◌, ℕ, Option, Some, None, refl, sym, ap, ◌∙◌, arith}
use Rattle.std.specs.Prelude.{nat_lt, IsSome, unwrap_or}
use Rattle.std.proofs.lemmas.Bool.{lt-ltb, cond-true, false≢true}
use Rattle.tg_model.specs.declared.value.Value.{Value}
use Rattle.tg_model.specs.Graph.{ProtectionGraph, IsReachable, IsSound}
use Rattle.tg_model.specs.Opened.{label_in}
use Rattle.tg_model.specs.Walks.{Walk-within}
use Rattle.tg_model.proofs.ReachLaws.{lt-IsReachable}
use Rattle.tg_snapshot.specs.Snapshot.{Saved, ShowsName, IsSnapshot, IsSnapshotOf, graph_shown, stored_in, value_shown, unreached_value}
use Rattle.tg_snapshot.proofs.GraphLaws.{IsSound-shown, lt-shown, none_held, shown_subject, shown_target}
use Rattle.tg_journal.specs.Auditing.{HasComeTo}
use Rattle.tg_journal.specs.Inner.Showing.{graph_listed}
use Rattle.tg_journal.proofs.AlikeLaws.{reached_in_kept, reached_in_whole}

some_of : (o : Option Value) (other : Value) → IsSome o → Some (unwrap_or o other) ≡ o
some_of None other some = absurd (false≢true some)
some_of (Some value) other some = refl

module _ (p : Saved) (g : ProtectionGraph) (sound : IsSound g) (is : IsSnapshotOf p g) where
  -- what a vertex that was made stores
  stored_low : (y : ℕ) → y < p.picture.made → stored_in p y ≡ Some (unwrap_or (value_shown p.vertices y) unreached_value)
  stored_low y low = cond-true (nat_lt y p.picture.made) _ _ (lt-ltb y p.picture.made low)

  same_value : (y : ℕ) → IsReachable g y → stored_in p y ≡ g.value y
  same_value y reachable =
      let low : y < g.made = lt-IsReachable g sound y reachable in
      stored_low y (omega (arith, low, is.made))
      ∙ ap (λ (o : Option Value). Some (unwrap_or o unreached_value)) (is.value y reachable)
      ∙ some_of (g.value y) unreached_value ((sound.values y).1 low)

  unmade : (x y : ℕ) → g.made ≤ x → label_in p.picture.edges x y ≡ g.label x y
  unmade x y later =
      none_held (label_in p.picture.edges x y) (λ edge. omega (arith, later, lt-IsReachable g sound x (is.no_edge_else x y edge)))
      ∙ sym (none_held (g.label x y) (λ edge. omega (arith, later, (sound.ends_made x y edge).0)))

  pub snapshot_alike : HasComeTo g (graph_shown p)
  snapshot_alike = record {
    sound = sound;
    alike = record {
      subjects = is.subjects;
      made = is.made;
      limit = is.limit;
      label = λ x y matters. elim matters [ inl reachable ↦ is.label x y reachable | inr later ↦ unmade x y later ];
      value = same_value;
    };
  }

  -- the lists alone give no value to a vertex that isn't shown
  pub listed_alike : HasComeTo g (graph_listed p)
  listed_alike = record {
    sound = sound;
    alike = record {
      subjects = is.subjects;
      made = is.made;
      limit = is.limit;
      label = snapshot_alike.alike.label;
      value = is.value;
    };
  }

-- a snapshot of a graph that is alike is one of the first
pub IsSnapshotOf-whole : (p : Saved) (h g : ProtectionGraph) → HasComeTo h g → IsSnapshotOf p g → IsSnapshotOf p h
IsSnapshotOf-whole p h g come is = record {
  subjects = is.subjects ∙ come.alike.subjects;
  made = is.made ∙ come.alike.made;
  limit = is.limit ∙ come.alike.limit;
  value = λ y reachable. is.value y (reached_in_kept h g come y reachable) ∙ come.alike.value y reachable;
  label = λ x y reachable. is.label x y (reached_in_kept h g come x reachable) ∙ come.alike.label x y (inl reachable);
  no_vertex_else = λ y shown. reached_in_whole h g come y (is.no_vertex_else y shown);
  no_edge_else = λ x y edge. reached_in_whole h g come x (is.no_edge_else x y edge);
}

-- ---- the graph that the lists of a snapshot show

module _ (p : Saved) (is : IsSnapshot p) where
  -- who is reached is shown
  reached_shown : (y : ℕ) → IsReachable (graph_shown p) y → ShowsName p.vertices y
  reached_shown = Walk-within (ShowsName p.vertices) (shown_subject p is) (λ b c from edge. shown_target p is b c edge)

  shown_value : (y : ℕ) → ShowsName p.vertices y → value_shown p.vertices y ≡ stored_in p y
  shown_value y shown =
      sym (some_of (value_shown p.vertices y) unreached_value shown)
      ∙ sym (cond-true (nat_lt y p.picture.made) _ _ (lt-ltb y p.picture.made (lt-shown p.picture.made p.vertices is.vertices y shown)))

  pub listed_shown : HasComeTo (graph_shown p) (graph_listed p)
  listed_shown = record {
    sound = IsSound-shown p is;
    alike = record {
      subjects = refl;
      made = refl;
      limit = refl;
      label = λ x y matters. refl;
      value = λ y reachable. shown_value y (reached_shown y reachable);
    };
  }
