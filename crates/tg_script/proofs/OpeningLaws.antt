-- What is read of the edge lines of a script.
use mathlib.Core.Bool.{true≢false}
use Rattle.std.proofs.Common.{◌≡◌, inl, inr, ◌<◌, length, arith, length-append, ℕ, true, false, cond, List, [], ◌∷◌, ◌++◌, Some, Result, Ok, Err, refl, sym, ap, ◌∙◌, subst}
use Rattle.tg_model.specs.declared.edge.Edge.{Edge}
use Rattle.tg_text.specs.declared.line.Line.{Line}
use Rattle.tg_text.specs.declared.line.Line.TheVariants as line
use Rattle.tg_text.specs.declared.fault.ScriptFault.{ScriptFault}
use Rattle.tg_text.specs.declared.fault.ScriptFault.TheVariants as fault
use Rattle.tg_script.specs.declared.script.Script.{Script}
use Rattle.std.specs.List.{All}
use Rattle.std.specs.Result.{is_ok, is_err}
use Rattle.std.proofs.lemmas.List.Elements.{All-push}
use Rattle.std.proofs.lemmas.List.{take_all}
use Rattle.tg_model.specs.declared.value.Value.{Value}
use Rattle.tg_model.specs.declared.opening.OpeningFault.{OpeningFault}
use Rattle.tg_model.specs.declared.opening.OpeningFault.TheVariants.{BadWorkers, BadLimits, BadEdge, BadValues}
use Rattle.tg_model.specs.declared.opening.TheConstants.{MAX_VERTICES}
use Rattle.tg_model.specs.Opened.{Plan, JoinsWorkers, ValueFits, HasWorkers, HasLimits, HasValues, IsFirstWithout, IsValuesFault, IsFaultTo}
use Rattle.tg_script.specs.Lines.{ReadsFrom, PassesLine, Follows, IsOfReading}
use Rattle.tg_script.specs.Opening.{edge_lines, IsCommand}
use Rattle.tg_script.specs.Inner.Beginning.{ReadsFront, StopsAtEdges}
use Rattle.tg_script.proofs.LinesLaws.{front_all, front_more}

edge_lines-push : (edges : List Edge) (edge : Edge) → edge_lines (edges ++ edge ∷ []) ≡ edge_lines edges ++ line.Edge edge ∷ []
edge_lines-push [] edge = refl
edge_lines-push (e ∷ edges) edge = ap (λ x. line.Edge e ∷ x) (edge_lines-push edges edge)

pub edges_more : (workers : ℕ) (t u : Script) (bytes rest after : List ℕ) (edges more : List Edge) (edge : Edge) → more ≡ edges ++ edge ∷ [] → ReadsFront workers bytes (edge_lines edges) t rest → PassesLine t rest (line.Edge edge) u after → ReadsFront workers bytes (edge_lines more) u after
edges_more workers t u bytes rest after edges more edge same b p =
    let P : List Line → Type 0 = λ x. ReadsFront workers bytes x u after in
    subst P (sym (edge_lines-push edges edge) ∙ ap edge_lines (sym same)) (front_more workers t u bytes rest after (edge_lines edges) (line.Edge edge) b p)

pub edges_fault : (workers : ℕ) (t : Script) (bytes rest : List ℕ) (edges : List Edge) (f : ScriptFault) (left : List ℕ) → ReadsFront workers bytes (edge_lines edges) t rest → IsOfReading f → ReadsFrom t rest [] (Some f) left → StopsAtEdges workers bytes f left
edges_fault workers t bytes rest edges f left b of_reading h = record {
  edges = edges;
  some = λ is. absurd (subst IsOfReading is of_reading);
  reads = front_all workers t bytes rest (edge_lines edges) (Some f) left b h;
}

-- there was no memory for an edge
pub edges_unkept : (workers : ℕ) (t u : Script) (bytes rest after : List ℕ) (edges : List Edge) (edge : Edge) → ReadsFront workers bytes (edge_lines edges) t rest → PassesLine t rest (line.Edge edge) u after → StopsAtEdges workers bytes fault.OutOfMemory after
edges_unkept workers t u bytes rest after edges edge b p =
    let more = edges ++ edge ∷ [] in
    record {
      edges = more;
      some = λ is none. (let e = ap (λ (l : List Edge). length l) none in omega (arith, e, length-append edges (edge ∷ [])));
      reads = front_all workers u bytes after (edge_lines more) (Some fault.OutOfMemory) after (edges_more workers t u bytes rest after edges more edge refl b p) refl;
    }

-- ---- one more line

pub pushed : {X T E : Type 0} (xs old : List X) (x : X) (r : Result T E) → is_err r ≡ false → xs ≡ cond (is_ok r) (old ++ x ∷ []) old → xs ≡ old ++ x ∷ []
pushed xs old x (Ok done) fine h = h
pushed xs old x (Err e) fine h = absurd (true≢false fine)

pub edge_taken : (s : Script) (l : Line) (t : Script) (edge : Edge) → l ≡ line.Edge edge → s.opening ≡ true → Follows s l t → JoinsWorkers s.workers edge × (t.opening ≡ true) × (t.workers ≡ s.workers)
edge_taken s l t edge same opening f =
    let P : Line → Type 0 = λ x. Follows s x t in
    let h = subst P same f in
    ((h.stands.1, h.stands.2, h.stands.3), h.opening ∙ opening, h.workers)

pub command_taken : (s : Script) (l : Line) (t : Script) → Follows s l t → ((edge : Edge) → l ≡ line.Edge edge → ⊥) → IsCommand l × (t.opening ≡ false)
command_taken s (line.Edge edge) t f other = absurd (other edge refl)
command_taken s l t f other = (tt, f.opening)

pub joined : (workers : ℕ) (s : Script) (edges more : List Edge) (edge : Edge) → s.workers ≡ workers → All (JoinsWorkers workers) edges → JoinsWorkers s.workers edge → more ≡ edges ++ edge ∷ [] → All (JoinsWorkers workers) more
joined workers s edges more edge same all here is =
    let P : ℕ → Type 0 = λ n. JoinsWorkers n edge in
    let Q : List Edge → Type 0 = λ x. All (JoinsWorkers workers) x in
    subst Q (sym is) (All-push (JoinsWorkers workers) edges edge all (subst P same here))

-- ---- the plan

an_element : {X : Type 0} (xs : List X) (at : ℕ) → at < length xs → X
an_element [] at inside = absurd (omega arith)
an_element (x ∷ xs) at inside = x

not_first : {X : Type 0} (asked : X → Type 0) (xs : List X) (at : ℕ) → All asked xs → IsFirstWithout asked xs at → ⊥
not_first asked xs at all first = let d = an_element xs at first.inside in first.lacks d (all at d first.inside)

no_values_fault : (workers : ℕ) (values : List Value) (at : ℕ) → HasValues workers values → IsValuesFault workers values at → ⊥
no_values_fault workers values at h (inl first) =
    let P : List Value → Type 0 = λ x. IsFirstWithout ValueFits x at in
    not_first ValueFits values at h.1 (subst P (take_all workers values (omega (arith, h.0))) first)
no_values_fault workers values at h (inr other) = other.1 h.0

-- where workers, edges and values are as asked, only a limit is at fault
pub only_limits : (p : Plan) (f : OpeningFault) → HasWorkers p → All (JoinsWorkers p.workers) p.edges → HasValues p.workers p.values → IsFaultTo MAX_VERTICES p f → ¬ HasLimits p
only_limits p BadWorkers workers edges values h = absurd (h workers)
only_limits p BadLimits workers edges values h = h.1
only_limits p (BadEdge at) workers edges values h = absurd (not_first (JoinsWorkers p.workers) p.edges at edges h.2)
only_limits p (BadValues at) workers edges values h = absurd (no_values_fault p.workers p.values at values h.3)
