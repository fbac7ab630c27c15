-- What an entry of a legal history changes of the labels, and what that comes to for edges that were read backwards.
use Rattle.std.proofs.Common.{◌≡◌, ℕ, ◌+◌, ◌<◌, ◌==◌, ◌&&◌, Bool, true, false, cond, List, [], ◌∷◌, ◌++◌, length, get_or, drop, drop-cons, add-one, nat_lt, Option, Some, None, refl, sym, ap, ap₂, subst, ◌∙◌}
use Rattle.std.proofs.lemmas.Bool.{eqb-true, and_parts}
use Rattle.tg_rights.specs.RightSet.{RightSet, no_rights, union, minus}
use Rattle.tg_rights.proofs.RightLaws.{none_union, union_none}
use Rattle.tg_model.specs.declared.command.Command.{Command}
use Rattle.tg_model.specs.declared.command.Command.TheVariants.{Take, Grant, Remove, Read, Write, Append, Inspect, List as Listing, Retire}
use Rattle.tg_model.specs.declared.command.Deed.{Deed}
use Rattle.tg_model.specs.declared.command.Deed.TheVariants.{Create, Spawn, Plain}
use Rattle.tg_model.specs.declared.edge.Edge.{Edge}
use Rattle.tg_model.specs.declared.reply.Denial.{Denial}
use Rattle.tg_model.specs.declared.reply.Reply.{Reply}
use Rattle.tg_model.specs.declared.reply.Reply.TheVariants.{Name, VerticesFull, WorkersFull}
use Rattle.tg_model.specs.declared.value.Value.{Value}
use Rattle.tg_model.specs.declared.opening.TheConstants.{MAX_WORKERS}
use Rattle.tg_model.specs.Graph.{ProtectionGraph, with_rights, without_rights}
use Rattle.tg_model.specs.Opened.{label_in}
use Rattle.tg_model.specs.Rules.{step, answer_of, effect, denial_of, denied_or, reply_of, unless_denied, with_vertex, with_subject}
use Rattle.tg_model.proofs.LabelLaws.{label_in-push}
use Rattle.tg_journal.specs.declared.entry.Entry.{Entry}
use Rattle.tg_journal.specs.History.{IsLegal, IsLegalEntry, graph_after}
use Rattle.tg_past.specs.declared.change.Change.{Change}
use Rattle.tg_past.specs.declared.change.Change.TheVariants.{Nothing}
use Rattle.tg_past.specs.declared.edges.LastEdges.{LastEdges}
use Rattle.tg_past.specs.Inner.{Finishes, change_by, change_in, change_of_deed, change_of_making, changed, left_after, lost_over}
use Rattle.tg_past.proofs.RightSums.{added_between, left_added, left_of, left_of_all, left_of_none, left_taken}

-- ---- what an entry changes

create_changes : (g : ProtectionGraph) (x : ℕ) (label : RightSet) (v : Value) (t : Bool) (r : Reply) → r ≡ cond t (Name g.made) VerticesFull → (a b : ℕ) → (cond t (with_vertex g x label v) g).label a b ≡ changed (change_of_making x label r) g.label a b
create_changes g x label v true r is a b = sym (ap (λ (q : Reply). changed (change_of_making x label q) g.label a b) is)
create_changes g x label v false r is a b = sym (ap (λ (q : Reply). changed (change_of_making x label q) g.label a b) is)

spawn_changes : (g : ProtectionGraph) (x : ℕ) (label : RightSet) (v : Value) (t u : Bool) (r : Reply) → r ≡ cond t (cond u (Name g.made) WorkersFull) VerticesFull → (a b : ℕ) →
    (cond t (cond u (with_subject g x label v) g) g).label a b ≡ changed (change_of_making x label r) g.label a b
spawn_changes g x label v true true r is a b = sym (ap (λ (q : Reply). changed (change_of_making x label q) g.label a b) is)
spawn_changes g x label v true false r is a b = sym (ap (λ (q : Reply). changed (change_of_making x label q) g.label a b) is)
spawn_changes g x label v false u r is a b = sym (ap (λ (q : Reply). changed (change_of_making x label q) g.label a b) is)

command_changes : (g : ProtectionGraph) (x : ℕ) (c : Command) (d : Option Denial) (r : Reply) → r ≡ denied_or d (reply_of g.label g.value g.made x c) → (a b : ℕ) →
    (unless_denied d g (effect g x c)).label a b ≡ changed (change_by x c r) g.label a b
command_changes g x c (Some denial) r is a b = sym (ap (λ (q : Reply). changed (change_by x c q) g.label a b) is)
command_changes g x (Take rights y z) None r is a b = sym (ap (λ (q : Reply). changed (change_by x (Take rights y z) q) g.label a b) is)
command_changes g x (Grant rights y z) None r is a b = sym (ap (λ (q : Reply). changed (change_by x (Grant rights y z) q) g.label a b) is)
command_changes g x (Remove rights y) None r is a b = sym (ap (λ (q : Reply). changed (change_by x (Remove rights y) q) g.label a b) is)
command_changes g x (Read y) None r is a b = sym (ap (λ (q : Reply). changed (change_by x (Read y) q) g.label a b) is)
command_changes g x (Write y v) None r is a b = sym (ap (λ (q : Reply). changed (change_by x (Write y v) q) g.label a b) is)
command_changes g x (Append y v) None r is a b = sym (ap (λ (q : Reply). changed (change_by x (Append y v) q) g.label a b) is)
command_changes g x (Inspect y) None r is a b = sym (ap (λ (q : Reply). changed (change_by x (Inspect y) q) g.label a b) is)
command_changes g x Listing None r is a b = sym (ap (λ (q : Reply). changed (change_by x Listing q) g.label a b) is)
command_changes g x Retire None r is a b = sym (ap (λ (q : Reply). changed (change_by x Retire q) g.label a b) is)

deed_changes : (g : ProtectionGraph) (x : ℕ) (r : Reply) (d : Deed) → r ≡ answer_of g x d → (a b : ℕ) → (step g x d).label a b ≡ changed (change_of_deed x r d) g.label a b
deed_changes g x r (Create label law state) is a b =
    create_changes g x label (record { law = law; state = state }) (nat_lt g.made g.limit) r is a b
deed_changes g x r (Spawn label law state) is a b =
    spawn_changes g x label (record { law = law; state = state }) (nat_lt g.made g.limit) (nat_lt (length g.subjects) MAX_WORKERS) r is a b
deed_changes g x r (Plain c) is a b = command_changes g x c (denial_of g.label g.value x c) r is a b

pub entry_changes : (g : ProtectionGraph) (e : Entry) → IsLegalEntry g e → (a b : ℕ) → (step g e.worker e.deed).label a b ≡ changed (change_in e) g.label a b
entry_changes g e legal a b = deed_changes g e.worker e.reply e.deed legal.reply a b

-- ---- edges that were read backwards

-- the entry before those that were read
pub preceded : (s t : LastEdges) (e : Entry) (c : Change) → c ≡ change_in e → ((label : ℕ → ℕ → RightSet) (a b : ℕ) → left_after t label a b ≡ left_after s (changed c label) a b) →
    (rest : List Entry) → Finishes s rest → Finishes t (e ∷ rest)
preceded s t e c is changes rest finishes = λ g legal a b.
    finishes (step g e.worker e.deed) legal.1 a b
    ∙ ap (λ (r : RightSet). left_of r (lost_over s.lost a b) (label_in s.edges.items a b)) (entry_changes g e legal.0 a b)
    ∙ ap (λ (k : Change). left_after s (changed k g.label) a b) (sym is) ∙ sym (changes g.label a b)

some_added : (t : Bool) (m r g e l : RightSet) → (t ≡ true → l ≡ minus r g) → left_of m g (cond t (union e l) e) ≡ left_of (cond t (union m r) m) g e
some_added true m r g e l is = ap (λ s. left_of m g (union e s)) (is refl) ∙ left_added m r g e
some_added false m r g e l is = refl

none_added : (t : Bool) (m r g e : RightSet) → (t ≡ true → minus r g ≡ no_rights) → left_of m g e ≡ left_of (cond t (union m r) m) g e
none_added true m r g e is =
    ap (left_of m g) (sym (union_none e)) ∙ ap (λ s. left_of m g (union e s)) (sym (is refl)) ∙ left_added m r g e
none_added false m r g e is = refl

some_taken : (t : Bool) (m r g e : RightSet) → left_of m (cond t (union g r) g) e ≡ left_of (cond t (minus m r) m) g e
some_taken true m r g e = left_taken m r g e
some_taken false m r g e = refl

-- at the ends of an edge
at_ends : (s : LastEdges) (from to a b : ℕ) → ((a == from) && (b == to)) ≡ true → lost_over s.lost from to ≡ lost_over s.lost a b
at_ends s from to a b is =
    let parts = and_parts (a == from) (b == to) is in
    ap₂ (lost_over s.lost) (sym (eqb-true a from parts.0)) (sym (eqb-true b to parts.1))

-- an edge that is added, as far as its rights aren't taken away later
pub edge_added : (s t : LastEdges) (edge : Edge) (l : RightSet) → t.edges.items ≡ s.edges.items ++ record { from = edge.from; to = edge.to; label = l } ∷ [] → t.lost ≡ s.lost →
    l ≡ minus edge.label (lost_over s.lost edge.from edge.to) → (label : ℕ → ℕ → RightSet) (a b : ℕ) →
    left_after t label a b ≡ left_after s (with_rights label edge.from edge.to edge.label) a b
edge_added s t edge l pushed kept is label a b =
    ap (λ (es : List Edge). left_of (label a b) (lost_over t.lost a b) (label_in es a b)) pushed
    ∙ ap₂ (λ lost e. left_of (label a b) (lost_over lost a b) e) kept (label_in-push s.edges.items (record { from = edge.from; to = edge.to; label = l }) a b)
    ∙ some_added ((a == edge.from) && (b == edge.to)) (label a b) edge.label (lost_over s.lost a b) (label_in s.edges.items a b) l
    (λ here. is ∙ ap (minus edge.label) (at_ends s edge.from edge.to a b here))

-- an edge all of whose rights are taken away later
pub edge_lost : (s t : LastEdges) (edge : Edge) → t.edges.items ≡ s.edges.items → t.lost ≡ s.lost → minus edge.label (lost_over s.lost edge.from edge.to) ≡ no_rights →
    (label : ℕ → ℕ → RightSet) (a b : ℕ) → left_after t label a b ≡ left_after s (with_rights label edge.from edge.to edge.label) a b
edge_lost s t edge same kept is label a b =
    ap₂ (λ lost (es : List Edge). left_of (label a b) (lost_over lost a b) (label_in es a b)) kept same
    ∙ none_added ((a == edge.from) && (b == edge.to)) (label a b) edge.label (lost_over s.lost a b) (label_in s.edges.items a b)
    (λ here. ap (minus edge.label) (sym (at_ends s edge.from edge.to a b here)) ∙ is)

-- rights that are taken away
pub edge_taken : (s t : LastEdges) (edge : Edge) → t.edges.items ≡ s.edges.items → ((a b : ℕ) → lost_over t.lost a b ≡ with_rights (lost_over s.lost) edge.from edge.to edge.label a b) →
    (label : ℕ → ℕ → RightSet) (a b : ℕ) → left_after t label a b ≡ left_after s (without_rights label edge.from edge.to edge.label) a b
edge_taken s t edge same lost label a b =
    ap₂ (λ r e. left_of (label a b) r e) (lost a b) (ap (λ (es : List Edge). label_in es a b) same)
    ∙ some_taken ((a == edge.from) && (b == edge.to)) (label a b) edge.label (lost_over s.lost a b) (label_in s.edges.items a b)

-- no entry was read, and nothing is taken away
pub finishes_none : (s : LastEdges) → s.edges.items ≡ [] → ((a b : ℕ) → lost_over s.lost a b ≡ no_rights) → Finishes s []
finishes_none s empty none = λ g legal a b.
    sym (ap (λ (es : List Edge). left_of (g.label a b) (lost_over s.lost a b) (label_in es a b)) empty ∙ left_of_all (g.label a b) (lost_over s.lost a b) (none a b))

-- the first edges
abbrev pub joined : (ℕ → ℕ → RightSet) → List Edge → ℕ → ℕ → RightSet
joined label es x y = union (label x y) (label_in es x y)

pub begins_none : (s : LastEdges) (label : ℕ → ℕ → RightSet) (a b : ℕ) → left_after s label a b ≡ left_after s (joined label []) a b
begins_none s label a b =
    ap (λ r. left_of r (lost_over s.lost a b) (label_in s.edges.items a b)) (sym (union_none (label a b)))

pub begins_more : (first s t : LastEdges) (es more : List Edge) (e : Edge) → more ≡ es ++ e ∷ [] →
    ((label : ℕ → ℕ → RightSet) (a b : ℕ) → left_after t label a b ≡ left_after s (with_rights label e.from e.to e.label) a b) →
    ((label : ℕ → ℕ → RightSet) (a b : ℕ) → left_after s label a b ≡ left_after first (joined label es) a b) →
    (label : ℕ → ℕ → RightSet) (a b : ℕ) → left_after t label a b ≡ left_after first (joined label more) a b
begins_more first s t es more e is added before label a b =
    added label a b ∙ before (with_rights label e.from e.to e.label) a b
    ∙ ap (λ r. left_of r (lost_over first.lost a b) (label_in first.edges.items a b))
    (added_between ((a == e.from) && (b == e.to)) (label a b) e.label (label_in es a b)
    ∙ ap (union (label a b)) (sym (label_in-push es e a b) ∙ ap (λ (l : List Edge). label_in l a b) (sym is)))

-- all entries were read, and then the first edges
pub all_read : (s t : LastEdges) (es : List Entry) (first : List Edge) → Finishes s es →
    ((label : ℕ → ℕ → RightSet) (a b : ℕ) → left_after t label a b ≡ left_after s (joined label first) a b) →
    (g : ProtectionGraph) → ((a b : ℕ) → g.label a b ≡ label_in first a b) → IsLegal g es → (a b : ℕ) → (graph_after g es).label a b ≡ label_in t.edges.items a b
all_read s t es first finishes begun g labels legal a b =
    finishes g legal a b
    ∙ ap (λ r. left_of r (lost_over s.lost a b) (label_in s.edges.items a b)) (labels a b ∙ sym (none_union (label_in first a b)))
    ∙ sym (begun (λ x y. no_rights) a b) ∙ left_of_none (lost_over t.lost a b) (label_in t.edges.items a b)

-- the entry at a place before those that were read
pub earlier : (s t : LastEdges) (es : List Entry) (left next : ℕ) (e : Entry) → left ≡ next + 1 → next < length es → e ≡ get_or es next e → Finishes s (drop left es) →
    ((rest : List Entry) → Finishes s rest → Finishes t (e ∷ rest)) → Finishes t (drop next es)
earlier s t es left next e is inside here finishes more =
    let shown : drop next es ≡ e ∷ drop left es =
    drop-cons es next e inside ∙ ap₂ (λ (x : Entry) (n : ℕ). x ∷ drop n es) (sym here) (sym (add-one next) ∙ sym is) in
    subst (Finishes t) (sym shown) (more (drop left es) finishes)
