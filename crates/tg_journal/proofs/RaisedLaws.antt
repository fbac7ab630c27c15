-- Snapshots whose count of vertices is raised.
use Rattle.std.proofs.Common.{◌≡◌, ◌↔◌, ◌<◌, ◌≤◌, ◌∷◌, [], ℕ, zero, suc, cond, List, Some, None, refl, sym, ap, ◌∙◌, arith}
use Rattle.std.specs.Prelude.{nat_lt, IsSome, slice_get}
use Rattle.std.proofs.lemmas.Bool.{ltb-true, lt-ltb, cond-true, cond_both}
use Rattle.tg_model.specs.Graph.{ProtectionGraph, IsSound}
use Rattle.tg_model.specs.Rules.{step}
use Rattle.tg_model.specs.declared.reply.Reply.TheVariants.{Name}
use Rattle.tg_model.proofs.NameLaws.{name_is_next}
use Rattle.tg_model.proofs.ReachLaws.{lt-IsReachable}
use Rattle.tg_model.proofs.SoundLaws.{le-step-made}
use Rattle.tg_journal.specs.declared.entry.Entry.{Entry}
use Rattle.tg_journal.specs.History.{AnswersName, IsLegal, graph_after}
use Rattle.tg_journal.proofs.HistoryLaws.{le-graph_after-made}
use Rattle.tg_journal.specs.Raised.{raised, with_unreached}
use Rattle.tg_snapshot.specs.Snapshot.{Saved, IsSnapshot, IsSnapshotOf, graph_shown, unreached_value}
use Rattle.tg_snapshot.proofs.GraphLaws.{some_below}

pub IsSnapshot-raised : (p : Saved) (made : ℕ) → IsSnapshot p → p.picture.made ≤ made → made ≤ p.picture.limit → IsSnapshot (raised p made)
IsSnapshot-raised p made is more within = record {
  some_made = omega (arith, is.some_made, more);
  limit = (within, is.limit.1);
  vertices = λ k inside. let line = is.vertices k inside in record { rises = line.rises; below = λ d. omega (arith, line.below d, more); fits = line.fits };
  subjects = is.subjects;
  edges = is.edges;
}

module _ (g : ProtectionGraph) (made : ℕ) (sound : IsSound g) (more : g.made ≤ made) where
  stores : (y : ℕ) → IsSome ((with_unreached g made).value y) ↔ (y < made)
  stores y =
      cond_both (nat_lt y g.made) (g.value y) (cond (nat_lt y made) (Some unreached_value) None) (λ o. IsSome o ↔ (y < made))
      (λ low. (λ some. omega (arith, ltb-true y g.made low, more), λ below. (sound.values y).1 (ltb-true y g.made low)))
      (λ high. some_below made y unreached_value)

  pub IsSound-unreached : IsSound (with_unreached g made)
  IsSound-unreached = record {
    rising = sound.rising;
    subjects_made = λ x is. omega (arith, sound.subjects_made x is, more);
    few_subjects = sound.few_subjects;
    ends_made = λ x y edge. let ends = sound.ends_made x y edge in (omega (arith, ends.0, more), omega (arith, ends.1, more));
    no_loop = sound.no_loop;
    values = stores;
  }

  pub IsSnapshotOf-raised : (p : Saved) → IsSnapshotOf p g → IsSnapshotOf (raised p made) (with_unreached g made)
  IsSnapshotOf-raised p is = record {
    subjects = is.subjects;
    made = refl;
    limit = is.limit;
    value = λ y reachable. is.value y reachable ∙ sym (cond-true (nat_lt y g.made) _ _ (lt-ltb y g.made (lt-IsReachable g sound y reachable)));
    label = is.label;
    no_vertex_else = is.no_vertex_else;
    no_edge_else = is.no_edge_else;
  }

-- ---- names

-- a name that is given in a history is none that was given before, and is used up after it
pub record IsGivenIn (g : ProtectionGraph) (es : List Entry) (name : ℕ) : Type 0 where
  pub fresh : g.made ≤ name
  pub used_up : name < (graph_after g es).made

pub given_in : (g : ProtectionGraph) (es : List Entry) (at : ℕ) (e : Entry) (name : ℕ) → IsLegal g es → slice_get es at ≡ Some e → e.reply ≡ Name name → IsGivenIn g es name
given_in g [] at e name legal there named = absurd cc
given_in g (first ∷ es) zero e name legal there named =
    let same : first ≡ e = cc in
    let next = name_is_next g first.worker first.deed name (sym legal.0.reply ∙ ap (λ (it : Entry). it.reply) same ∙ named) in
    record {
      fresh = omega (arith, next.0);
      used_up = omega (arith, next.1, le-graph_after-made (step g first.worker first.deed) es);
    }
given_in g (first ∷ es) (suc at) e name legal there named =
    let rest = given_in (step g first.worker first.deed) es at e name legal.1 there named in
    record { fresh = omega (arith, rest.fresh, le-step-made g first.worker first.deed); used_up = rest.used_up }

pub given_later : (p : Saved) (g : ProtectionGraph) (lost es : List Entry) (made at other old new : ℕ) → IsLegal g lost → (graph_after g lost).made ≤ made → IsLegal (graph_shown (raised p made)) es → AnswersName lost at old → AnswersName es other new → old < new
given_later p g lost es made at other old new was low legal before later =
    let first = given_in g lost at before.entry old was before.stands before.answers in
    let second = given_in (graph_shown (raised p made)) es other later.entry new legal later.stands later.answers in
    omega (arith, first.used_up, low, second.fresh)
