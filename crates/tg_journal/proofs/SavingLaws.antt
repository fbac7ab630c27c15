-- What an auditor hands out: the lists of what is reached, whether they are a snapshot, and audits that go on from one.
use mathlib.Core.Bool.{true≢false}
use Rattle.std.proofs.Common.{◌≡◌, ◌↔◌, inl, inr, ◌<◌, ◌++◌, ◌==◌, ◌∷◌, [], ℕ, Bool, true, false, cond, List, Option, Some, None, Result, Ok, Err, refl, sym, ap, subst, ◌∙◌, arith}
use Rattle.std.specs.Prelude.{IfSome, IsOk, IsSome, IsTrue, is_some, nat_lt, unwrap_or}
use Rattle.std.specs.Result.{result_ok}
use Rattle.std.specs.List.{All}
use Rattle.std.proofs.lemmas.Bool.{cond-true, cond_both, false≢true}
use Rattle.std.proofs.lemmas.List.Elements.{All-head, All-tail}
use Rattle.tg_rights.specs.RightSet.{RightSet, no_rights, is_none_held}
use Rattle.tg_model.specs.declared.value.Value.{Value}
use Rattle.tg_model.specs.Graph.{ProtectionGraph, HasEdge, IsReachable, IsSound}
use Rattle.tg_model.specs.Opened.{Plan, IsPlan, ValueFits, label_in, start_of}
use Rattle.tg_model.specs.Picture.{Shown}
use Rattle.tg_model.proofs.FitLaws.{fits-start_of}
use Rattle.tg_snapshot.specs.declared.fault.SnapshotFault.{SnapshotFault}
use Rattle.tg_snapshot.specs.declared.vertex.ShownVertex.{ShownVertex}
use Rattle.tg_snapshot.specs.Faults.{ChecksForm}
use Rattle.tg_snapshot.specs.Snapshot.{Saved, ShowsName, IsSnapshot, graph_shown, unreached_value, value_shown}
use Rattle.tg_snapshot.proofs.GraphLaws.{IsSound-shown, lt-shown, shown_target}
use Rattle.tg_journal.specs.declared.entry.Entry.{Entry}
use Rattle.tg_journal.specs.Auditing.{HasComeTo, MayMatter, Passes}
use Rattle.tg_journal.specs.Continues.{IsSnapshotAfter}
use Rattle.tg_journal.specs.History.{IsLegal, graph_after}
use Rattle.tg_journal.specs.Inner.Showing.{AreListsOf}
use Rattle.tg_journal.specs.Live.{AuditState, KeptGraph, graph_kept, label_between, value_of}
use Rattle.tg_journal.specs.Saving.{CanBeSaved}
use Rattle.tg_journal.proofs.AlikeLaws.{reached_in_kept, reached_in_whole}
use Rattle.tg_journal.proofs.GoingOn.{continues-sound}
use Rattle.tg_journal.proofs.HistoryLaws.{IsSound-after, fits-after, graph_after-limit, graph_after-within_limit, le-graph_after-made}

-- ---- the lists of what is reached

chosen_some : (b : Bool) (o : Option Value) → IsSome (cond b o None) → b ≡ true
chosen_some true o some = refl
chosen_some false o some = absurd (false≢true some)

chosen_edge : (b : Bool) (s : RightSet) → is_none_held (cond b s no_rights) ≡ false → b ≡ true
chosen_edge true s edge = refl
chosen_edge false s edge = absurd (true≢false edge)

module _ (k : KeptGraph) (names : ℕ → Bool) (reached : (y : ℕ) → IsTrue (names y) ↔ IsReachable (graph_kept k) y) (picture : Shown) (vertices : List ShownVertex) (subjects : picture.subjects ≡ k.subjects) (made : picture.made ≡ k.made) (limit : picture.limit ≡ k.limit) (labels : (x y : ℕ) → label_in picture.edges x y ≡ cond (names x) (label_between k.vertices x y) no_rights) (values : (y : ℕ) → value_shown vertices y ≡ cond (names y) (value_of k.vertices y) None) where
  pub lists_of : AreListsOf (graph_kept k) picture vertices
  lists_of n = record {
    subjects = subjects;
    made = made;
    limit = limit;
    value = λ y reachable. values y ∙ cond-true (names y) _ _ ((reached y).1 reachable);
    label = λ x y reachable. labels x y ∙ cond-true (names x) _ _ ((reached x).1 reachable);
    no_vertex_else = λ y shown. (reached y).0 (chosen_some (names y) (value_of k.vertices y) (sym (ap is_some (values y)) ∙ shown));
    no_edge_else = λ x y edge. (reached x).0 (chosen_edge (names x) (label_between k.vertices x y) (sym (ap is_none_held (labels x y)) ∙ edge));
  }

-- ---- whether they are a snapshot

module _ (p : Saved) (r : Result Saved SnapshotFault) (checked : ChecksForm p r) (o : Option Saved) (is : o ≡ result_ok r) where
  ok_some : (r : Result Saved SnapshotFault) → IsOk r → IsSome (result_ok r)
  ok_some (Ok snapshot) ok = refl
  ok_some (Err fault) ok = absurd (false≢true ok)

  pub saved_some : IsSnapshot p → IsSome o
  saved_some snapshot = ap is_some is ∙ ok_some r (checked.accepted.1 snapshot)

  if_kept : (P : Saved → Type 0) (r : Result Saved SnapshotFault) → ChecksForm p r → P p → IfSome (result_ok r) P
  if_kept P (Ok snapshot) checked holds = subst P (sym checked.kept) holds
  if_kept P (Err fault) checked holds = tt

  pub saved_same : (P : Saved → Type 0) → P p → IfSome o P
  saved_same P holds = subst (λ (o : Option Saved). IfSome o P) (sym is) (if_kept P r checked holds)

-- the targets of what a snapshot shows were made
pub listed_target : (p : Saved) → IsSnapshot p → (x y : ℕ) → HasEdge (label_in p.picture.edges) x y → y < p.picture.made
listed_target p is x y edge = lt-shown p.picture.made p.vertices is.vertices y (shown_target p is x y edge)

-- ---- of which graphs there is one

pub CanBeSaved-opened : (p : Plan) → IsPlan p → CanBeSaved (start_of p)
CanBeSaved-opened p is = record { some_made = is.workers.0; within = is.limits.2; limit = is.limits.1; values = fits-start_of p is }

shown_fits : (vs : List ShownVertex) (y : ℕ) → All (λ (v : ShownVertex). ValueFits v.value) vs → ShowsName vs y → ValueFits (unwrap_or (value_shown vs y) unreached_value)
shown_fits [] y all shown = absurd (false≢true shown)
shown_fits (v ∷ vs) y all shown =
    cond_both (y == v.name) (Some v.value) (value_shown vs y) (λ o. IsSome o → ValueFits (unwrap_or o unreached_value))
    (λ at some. All-head (λ (v : ShownVertex). ValueFits v.value) v vs all)
    (λ other some. shown_fits vs y (All-tail (λ (v : ShownVertex). ValueFits v.value) v vs all) some) shown

stored_fits : (vs : List ShownVertex) (y : ℕ) → All (λ (v : ShownVertex). ValueFits v.value) vs → ValueFits (unwrap_or (value_shown vs y) unreached_value)
stored_fits vs y all = decide (value_shown vs y) refl
  where
    decide : (o : Option Value) → value_shown vs y ≡ o → ValueFits (unwrap_or (value_shown vs y) unreached_value)
    decide None none = subst (λ (o : Option Value). ValueFits (unwrap_or o unreached_value)) (sym none) refl
    decide (Some value) some = shown_fits vs y all (ap is_some some)

pub CanBeSaved-shown : (p : Saved) → IsSnapshot p → CanBeSaved (graph_shown p)
CanBeSaved-shown p is = record {
  some_made = is.some_made;
  within = is.limit.0;
  limit = is.limit.1;
  values = λ y.
      cond_both (nat_lt y p.picture.made) (Some (unwrap_or (value_shown p.vertices y) unreached_value)) None (λ o. IfSome o ValueFits)
      (λ low. stored_fits p.vertices y (λ k d inside. (is.vertices k inside).fits d)) (λ high. tt);
}

pub CanBeSaved-after : (g : ProtectionGraph) (es : List Entry) → CanBeSaved g → IsLegal g es → CanBeSaved (graph_after g es)
CanBeSaved-after g es can legal = record {
  some_made = omega (arith, can.some_made, le-graph_after-made g es);
  within = graph_after-within_limit g es can.within;
  limit = omega (arith, can.limit, graph_after-limit g es);
  values = fits-after g es can.values legal;
}

-- ---- three graphs that are alike

module _ (g h k : ProtectionGraph) (come : HasComeTo g h) where
  matters_then : (x : ℕ) → MayMatter g x → MayMatter h x
  matters_then x (inl reachable) = inl (reached_in_kept g h come x reachable)
  matters_then x (inr later) = inr (omega (arith, later, come.alike.made))

  matters_first : (x : ℕ) → MayMatter h x → MayMatter g x
  matters_first x (inl reachable) = inl (reached_in_whole g h come x reachable)
  matters_first x (inr later) = inr (omega (arith, later, come.alike.made))

  -- an audit of the second has come to the first
  pub come_through : HasComeTo h k → HasComeTo g k
  come_through next = record {
    sound = come.sound;
    alike = record {
      subjects = next.alike.subjects ∙ come.alike.subjects;
      made = next.alike.made ∙ come.alike.made;
      limit = next.alike.limit ∙ come.alike.limit;
      label = λ x y matters. next.alike.label x y (matters_then x matters) ∙ come.alike.label x y matters;
      value = λ y reachable. next.alike.value y (reached_in_kept g h come y reachable) ∙ come.alike.value y reachable;
    };
  }

  -- and one of the first has come to the second
  pub come_back : IsSound h → HasComeTo g k → HasComeTo h k
  come_back sound whole = record {
    sound = sound;
    alike = record {
      subjects = whole.alike.subjects ∙ sym come.alike.subjects;
      made = whole.alike.made ∙ sym come.alike.made;
      limit = whole.alike.limit ∙ sym come.alike.limit;
      label = λ x y matters. whole.alike.label x y (matters_first x matters) ∙ sym (come.alike.label x y (matters_first x matters));
      value = λ y reachable.
          whole.alike.value y (reached_in_whole g h come y reachable) ∙ sym (come.alike.value y (reached_in_whole g h come y reachable));
    };
  }

-- ---- a part alone

module _ (first : ProtectionGraph) (front es : List Entry) (p : Saved) (a : AuditState) (sound : IsSound first) (after : IsSnapshotAfter first front p) where
  pub passes_whole : Passes (graph_shown p) es a → Passes first (front ++ es) a
  passes_whole part =
      let goes = continues-sound first front p sound after in record {
        legal = (goes.legal es).0 part.legal;
        next = record {
          none_bad = part.next.none_bad;
          come = come_through (graph_after first (front ++ es)) (graph_after (graph_shown p) es) (graph_kept a.kept) (goes.next es part.legal) part.next.come;
        };
      }

  pub passes_part : IsSnapshot p → Passes first (front ++ es) a → Passes (graph_shown p) es a
  passes_part is whole =
      let goes = continues-sound first front p sound after in
      let legal = (goes.legal es).1 whole.legal in record {
        legal = legal;
        next = record {
          none_bad = whole.next.none_bad;
          come = come_back (graph_after first (front ++ es)) (graph_after (graph_shown p) es) (graph_kept a.kept) (goes.next es legal)
              (IsSound-after (graph_shown p) es (IsSound-shown p is) legal) whole.next.come;
        };
      }
