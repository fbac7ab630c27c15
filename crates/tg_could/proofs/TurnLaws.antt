-- The graph that a replay of turns represents.
use Rattle.std.proofs.Common.{◌≡◌, ⊎_elim, ℕ, zero, suc, ◌+◌, ◌<◌, ◌≤◌, ◌==◌, ◌&&◌, Bool, true, false, cond, List, [], ◌∷◌, ◌++◌, length, get_or, refl, sym, ap, ap₂, ◌∙◌, subst, arith}
use Rattle.std.specs.List.{Contains}
use Rattle.std.specs.Prelude.{IfOk, IsTrue, Result}
use Rattle.std.specs.declared.alloc.AllocError.{AllocError}
use Rattle.std.proofs.lemmas.Result.{IfOk-weaker}
use Rattle.std.proofs.lemmas.Bool.{false≢true, false_from_ne_true}
use Rattle.std.proofs.lemmas.List.Elements.{Contains-append_right}
use Rattle.tg_rights.specs.RightSet.{RightSet, has, union, no_rights, is_none_held}
use Rattle.tg_rights.proofs.RightLaws.{has-union, has-no_rights, has-none_held, has-holds_all, holds_all-each, union_comm}
use Rattle.tg_rights.specs.declared.Right.{Right}
use Rattle.tg_model.specs.declared.edge.Edge.{Edge}
use Rattle.tg_model.specs.Graph.{ProtectionGraph, with_rights}
use Rattle.tg_model.specs.Opened.{label_in}
use Rattle.tg_model.specs.Picture.{Holds, AreAmong}
use Rattle.tg_model.specs.Making.{deed_making, subjects_making}
use Rattle.tg_model.specs.Rules.{HoldsOver, Permits, effect, step}
use Rattle.tg_model.specs.declared.command.Command.{Command}
use Rattle.tg_model.specs.declared.command.Deed.{Deed}
use Rattle.tg_model.specs.declared.command.Deed.TheVariants.{Plain}
use Rattle.tg_model.specs.declared.making.Making.{Making}
use Rattle.tg_model.specs.declared.making.Making.TheVariants.{Subject}
use Rattle.tg_model.specs.declared.opening.TheConstants.{MAX_WORKERS}
use Rattle.tg_model.specs.declared.value.Value.{Value}
use Rattle.tg_model.proofs.AllowedLaws.{step-allowed}
use Rattle.tg_model.proofs.MakingLaws.{HasRoom, step-made}
use Rattle.tg_model.proofs.PictureLaws.{or_true, Holds-pushed, Holds-still, Holds-added, Holds-with_rights}
use Rattle.tg_could.specs.Inner.Trial.{Stands}
use Rattle.tg_could.specs.declared.witness.trial.Trial.{Trial}

-- edges that are on a graph are on it with more rights too, and so does the new one
pub among-with : (es : List Edge) (label : ℕ → ℕ → RightSet) (from to : ℕ) (rights : RightSet) → AreAmong es label → AreAmong es (with_rights label from to rights)
among-with es label from to rights among a b q h = Holds-still label from to rights a q b (among a b q h)

pub among-added : (es new : List Edge) (label : ℕ → ℕ → RightSet) (e : Edge) → new ≡ es ++ e ∷ [] → AreAmong es label → AreAmong new (with_rights label e.from e.to e.label)
among-added es new label e is among a b q h =
    let more : ℕ → ℕ → RightSet = with_rights label e.from e.to e.label in
    ⊎_elim (λ old. Holds-still label e.from e.to e.label a q b (among a b q old))
    (λ (at_a, at_b, has_it).
    subst (λ (k : ℕ). Holds more a q k) (sym at_b)
    (subst (λ (k : ℕ). Holds more k q e.to) (sym at_a) (Holds-added label e.from e.to e.label q has_it)))
    (Holds-pushed es e a q b (subst (λ (l : List Edge). Holds (label_in l) a q b) is h))

-- the first edge adds its rights to those of the others
label_in-first : (e : Edge) (es : List Edge) (a b : ℕ) → label_in (e ∷ es) a b ≡ with_rights (label_in es) e.from e.to e.label a b
label_in-first e es a b = ap (λ m. cond ((a == e.from) && (b == e.to)) m (label_in es a b)) (union_comm e.label (label_in es a b))

-- each right of an edge of a list is in the list
pub Holds-member : (es : List Edge) (i : ℕ) (e : Edge) → i < length es → e ≡ get_or es i e → (q : Right) → has e.label q ≡ true → Holds (label_in es) e.from q e.to
Holds-member [] i e inside is q h = absurd (omega (arith, inside))
Holds-member (first ∷ es) zero e inside is q h =
    let P : Edge → Type 0 = λ k. has k.label q ≡ true → Holds (label_in (first ∷ es)) k.from q k.to in
    subst P (sym is)
    (λ held. ap (λ m. has m q) (label_in-first first es first.from first.to) ∙ Holds-added (label_in es) first.from first.to first.label q held)
    h
Holds-member (first ∷ es) (suc i) e inside is q h =
    ap (λ m. has m q) (label_in-first first es e.from e.to)
    ∙ Holds-still (label_in es) first.from first.to first.label e.from q e.to (Holds-member es i e (omega (arith, inside)) is q h)

-- an edge of a list from a to b that has a right
pub record IsGiven (es : List Edge) (a : ℕ) (q : Right) (b : ℕ) : Type 0 where
  pub edge : Edge
  pub there : Contains es edge
  pub from : edge.from ≡ a
  pub to : edge.to ≡ b
  pub holds : has edge.label q ≡ true

pub no_right : (q : Right) → has no_rights q ≡ true → ⊥
no_right q h = false≢true (sym (has-no_rights q) ∙ h)

-- who has a right has an edge
pub right_edge : (s : RightSet) (q : Right) → has s q ≡ true → is_none_held s ≡ false
right_edge s q h = false_from_ne_true (is_none_held s) (λ none. false≢true (sym (has-none_held s none q) ∙ h))

-- a right that edges of a list give is that of one of them
pub given_by : (es : List Edge) (a : ℕ) (q : Right) (b : ℕ) → Holds (label_in es) a q b → IsGiven es a q b
given_by [] a q b h = absurd (no_right q h)
given_by (e ∷ es) a q b h =
    ⊎_elim
    (λ later.
    let given = given_by es a q b later in
    record { edge = given.edge; there = Contains-append_right (e ∷ []) es given.edge given.there; from = given.from; to = given.to; holds = given.holds })
    (λ (at_a, at_b, is). record { edge = e; there = (0, omega arith, refl); from = sym at_a; to = sym at_b; holds = is })
    (Holds-with_rights (label_in es) e.from e.to e.label a q b (sym (ap (λ m. has m q) (label_in-first e es a b)) ∙ h))

pub edge_stands : (es : List Edge) (i : ℕ) (e : Edge) (label : ℕ → ℕ → RightSet) → AreAmong es label → i < length es → e ≡ get_or es i e → HoldsOver label e.from e.to e.label
edge_stands es i e label among inside is =
    holds_all-each (label e.from e.to) e.label (λ q h. among e.from e.to q (Holds-member es i e inside is q h))

-- a trial with one edge more represents the graph with it
pub stands-added : (edges : List Edge) (t new : Trial) (g : ProtectionGraph) (e : Edge) → new.added.items ≡ t.added.items ++ e ∷ [] → new.subjects.items ≡ t.subjects.items → new.made ≡ t.made → new.limit ≡ t.limit → Stands edges t g → Stands edges new (record g { label = with_rights g.label e.from e.to e.label })
stands-added edges t new g e added subjects made limit stands = record {
  subjects = stands.subjects ∙ sym subjects;
  made = stands.made ∙ sym made;
  limit = stands.limit ∙ sym limit;
  first = among-with edges g.label e.from e.to e.label stands.first;
  later = among-added t.added.items new.added.items g.label e added stands.later;
}

-- a trial with one vertex more represents the graph with it
pub stands-made : (edges : List Edge) (t new : Trial) (g : ProtectionGraph) (p : ℕ) (making : Making) (rights : RightSet) (value : Value) → t.made < t.limit → ((making ≡ Subject) × (MAX_WORKERS ≤ length t.subjects.items) → ⊥) → new.added.items ≡ t.added.items ++ record { from = p; to = t.made; label = rights } ∷ [] → new.subjects.items ≡ subjects_making making t.subjects.items t.made → new.made ≡ t.made + 1 → new.limit ≡ t.limit → Stands edges t g → Stands edges new (step g p (deed_making making rights value))
stands-made edges t new g p making rights value low few added subjects made limit stands =
    let room : HasRoom making g = record {
      made = omega (arith, low, stands.made, stands.limit);
      subjects = subst (λ (l : List ℕ). (making ≡ Subject) × (MAX_WORKERS ≤ length l) → ⊥) (sym stands.subjects) few;
    } in
    subst (Stands edges new) (sym (step-made g p rights value making room))
    (record {
      subjects = ap₂ (subjects_making making) stands.subjects stands.made ∙ sym subjects;
      made = ap (λ n. n + 1) stands.made ∙ sym made;
      limit = stands.limit ∙ sym limit;
      first = among-with edges g.label p g.made rights stands.first;
      later =
          subst (λ (n : ℕ). AreAmong new.added.items (with_rights g.label p n rights)) (sym stands.made)
          (among-added t.added.items new.added.items g.label (record { from = p; to = t.made; label = rights }) added stands.later);
    })

-- the outcome of making a vertex comes of the deed that makes it
pub made-by : (r : Result Bool AllocError) (edges : List Edge) (t new : Trial) (p : ℕ) (making : Making) (rights : RightSet) (value : Value) (deed : Deed) → deed ≡ deed_making making rights value → IfOk r (λ made. IsTrue made → (es : List Edge) (g : ProtectionGraph) (v : Value) → Stands es t g → Stands es new (step g p (deed_making making rights v))) → IfOk r (λ made. IsTrue made → (g : ProtectionGraph) → Stands edges t g → Stands edges new (step g p deed))
made-by r edges t new p making rights value deed is =
    IfOk-weaker r _ _ (λ made each yes g stands. subst (λ (d : Deed). Stands edges new (step g p d)) (sym is) (each yes edges g value stands))

-- where rights were handed on, a command was taken that may do so
pub handed-by : (r : Result Bool AllocError) (edges : List Edge) (t new : Trial) (p : ℕ) (command asked : Command) → asked ≡ command → {Q : ProtectionGraph → Type 0} → IfOk r (λ taken. IsTrue taken → (g : ProtectionGraph) → Stands edges t g → Q g) → ((g : ProtectionGraph) → Q g → Permits g.label g.value p command × Stands edges new (effect g p command)) → IfOk r (λ taken. IsTrue taken → (g : ProtectionGraph) → Stands edges t g → Stands edges new (step g p (Plain asked)))
handed-by r edges t new p command asked is given go =
    IfOk-weaker r _ _
    (λ taken each yes g stands.
    let done = go g (each yes g stands) in
    subst (λ (k : Command). Stands edges new (step g p (Plain k))) (sym is) (subst (Stands edges new) (sym (step-allowed g p command done.0)) done.1))
    given

-- what was found between two, and the rights of an edge between them, are held
pub found_more : (label : ℕ → ℕ → RightSet) (from to : ℕ) (found more new : RightSet) (e : Edge) → new ≡ union found more → ((q : Right) → has found q ≡ true → Holds label from q to) → ((q : Right) → has more q ≡ true → (e.from ≡ from) × (e.to ≡ to) × (has e.label q ≡ true)) → HoldsOver label e.from e.to e.label → (q : Right) → has new q ≡ true → Holds label from q to
found_more label from to found more new e is old between stands q h =
    ⊎_elim (λ was. old q was)
    (λ came.
    let b = between q came in
    let there : Holds label e.from q e.to = has-holds_all (label e.from e.to) e.label stands q b.2 in
    subst (λ (k : ℕ). Holds label from q k) b.1 (subst (λ (k : ℕ). Holds label k q e.to) b.0 there))
    (or_true (has found q) (has more q) (sym (has-union found more q) ∙ subst (λ (s : RightSet). has s q ≡ true) is h))
