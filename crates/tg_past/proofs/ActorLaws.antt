-- Who is active after an entry of a legal history, and how many vertices were made.
use Rattle.std.proofs.Common.{◌≡◌, ℕ, ◌+◌, ◌-◌, ◌<◌, ◌≤◌, ◌^◌, min, Bool, true, false, cond, List, [], ◌∷◌, ◌++◌, length, nat_lt, take, Option, Some, None, refl, sym, ap, ap₂, subst, ◌∙◌, arith}
use Rattle.std.proofs.lemmas.Bool.{false≢true, ltb-true}
use Rattle.tg_rights.specs.RightSet.{RightSet, has, is_none_held}
use Rattle.tg_rights.specs.declared.Right.{Right}
use Rattle.tg_rights.proofs.RightLaws.{has-none_held}
use Rattle.tg_model.specs.declared.command.Command.{Command}
use Rattle.tg_model.specs.declared.command.Command.TheVariants.{Take, Grant, Remove, Read, Write, Append, Inspect, List as Listing, Retire}
use Rattle.tg_model.specs.declared.command.Deed.{Deed}
use Rattle.tg_model.specs.declared.command.Deed.TheVariants.{Create, Spawn, Plain}
use Rattle.tg_model.specs.declared.reply.Denial.{Denial}
use Rattle.tg_model.specs.declared.reply.Reply.{Reply}
use Rattle.tg_model.specs.declared.reply.Reply.TheVariants.{Name, VerticesFull, WorkersFull}
use Rattle.tg_model.specs.declared.value.Value.{Value}
use Rattle.tg_model.specs.declared.opening.TheConstants.{MAX_WORKERS}
use Rattle.tg_model.specs.declared.edge.Edge.{Edge}
use Rattle.tg_model.specs.Graph.{ProtectionGraph, IsSound}
use Rattle.tg_model.specs.Opened.{label_in}
use Rattle.tg_model.specs.Picture.{IsMade, IsPictureOf}
use Rattle.tg_model.specs.Rules.{step, answer_of, effect, denial_of, denied_or, reply_of, unless_denied, with_vertex, with_subject, subjects_after}
use Rattle.tg_journal.specs.declared.entry.Entry.{Entry}
use Rattle.tg_journal.specs.History.{IsLegal, IsLegalEntry, graph_after}
use Rattle.tg_journal.proofs.HistoryLaws.{IsLegal-cut, IsSound-after, graph_after-limit, graph_after-push}
use Rattle.tg_past.specs.declared.actors.Actors.{Actors}
use Rattle.tg_past.specs.Inner.{Follows, HasActors, enlisted_by, made_by, subjects_by}

-- where a vertex may be made, its name isn't the greatest number
one_more : (made limit : ℕ) → nat_lt made limit ≡ true → limit < 2 ^ 64 → min (made + 1) (2 ^ 64 - 1) ≡ made + 1
one_more made limit less fits = omega (arith, ltb-true made limit less, fits)

create_leaves : (g : ProtectionGraph) (x : ℕ) (label : RightSet) (v : Value) (t : Bool) (r : Reply) (s u : Actors) → t ≡ nat_lt g.made g.limit → g.limit < 2 ^ 64 → r ≡ cond t (Name g.made) VerticesFull →
    HasActors g s → u.subjects.items ≡ s.subjects.items → u.made ≡ made_by s.made r → HasActors (cond t (with_vertex g x label v) g) u
create_leaves g x label v true r s u may fits is has subjects made = record {
  subjects = has.subjects ∙ sym subjects;
  made = sym (one_more g.made g.limit (sym may) fits) ∙ sym (made ∙ ap (made_by s.made) is);
}
create_leaves g x label v false r s u may fits is has subjects made = record {
  subjects = has.subjects ∙ sym subjects;
  made = has.made ∙ sym (made ∙ ap (made_by s.made) is);
}

spawn_leaves : (g : ProtectionGraph) (x : ℕ) (label : RightSet) (v : Value) (t w : Bool) (r : Reply) (s u : Actors) → t ≡ nat_lt g.made g.limit → g.limit < 2 ^ 64 →
    r ≡ cond t (cond w (Name g.made) WorkersFull) VerticesFull → HasActors g s → u.subjects.items ≡ enlisted_by s.subjects.items r → u.made ≡ made_by s.made r →
    HasActors (cond t (cond w (with_subject g x label v) g) g) u
spawn_leaves g x label v true true r s u may fits is has subjects made = record {
  subjects = ap (λ (xs : List ℕ). xs ++ g.made ∷ []) has.subjects ∙ sym (subjects ∙ ap (enlisted_by s.subjects.items) is);
  made = sym (one_more g.made g.limit (sym may) fits) ∙ sym (made ∙ ap (made_by s.made) is);
}
spawn_leaves g x label v true false r s u may fits is has subjects made = record {
  subjects = has.subjects ∙ sym (subjects ∙ ap (enlisted_by s.subjects.items) is);
  made = has.made ∙ sym (made ∙ ap (made_by s.made) is);
}
spawn_leaves g x label v false w r s u may fits is has subjects made = record {
  subjects = has.subjects ∙ sym (subjects ∙ ap (enlisted_by s.subjects.items) is);
  made = has.made ∙ sym (made ∙ ap (made_by s.made) is);
}

-- a command is answered no name
no_name : (g : ProtectionGraph) (x : ℕ) (c : Command) (made : ℕ) → made_by made (reply_of g.label g.value g.made x c) ≡ made
no_name g x (Take rights y z) made = refl
no_name g x (Grant rights y z) made = refl
no_name g x (Remove rights y) made = refl
no_name g x (Read y) made = refl
no_name g x (Write y v) made = refl
no_name g x (Append y v) made = refl
no_name g x (Inspect y) made = refl
no_name g x Listing made = refl
no_name g x Retire made = refl

no_name_answered : (g : ProtectionGraph) (x : ℕ) (c : Command) (d : Option Denial) (made : ℕ) → made_by made (denied_or d (reply_of g.label g.value g.made x c)) ≡ made
no_name_answered g x c (Some denial) made = refl
no_name_answered g x c None made = no_name g x c made

made_stays : (g : ProtectionGraph) (x : ℕ) (c : Command) (d : Option Denial) → (unless_denied d g (effect g x c)).made ≡ g.made
made_stays g x c (Some denial) = refl
made_stays g x c None = refl

-- what changes no subject
either : (g : ProtectionGraph) (x : ℕ) (c : Command) (d : Option Denial) → subjects_after g.subjects x c ≡ g.subjects → (unless_denied d g (effect g x c)).subjects ≡ subjects_after g.subjects x c
either g x c (Some denial) same = sym same
either g x c None same = refl

-- of all commands a retire alone changes who is active, and none denies it
subjects_left : (g : ProtectionGraph) (x : ℕ) (c : Command) → (step g x (Plain c)).subjects ≡ subjects_after g.subjects x c
subjects_left g x (Take rights y z) = either g x (Take rights y z) (denial_of g.label g.value x (Take rights y z)) refl
subjects_left g x (Grant rights y z) = either g x (Grant rights y z) (denial_of g.label g.value x (Grant rights y z)) refl
subjects_left g x (Remove rights y) = either g x (Remove rights y) (denial_of g.label g.value x (Remove rights y)) refl
subjects_left g x (Read y) = either g x (Read y) (denial_of g.label g.value x (Read y)) refl
subjects_left g x (Write y v) = either g x (Write y v) (denial_of g.label g.value x (Write y v)) refl
subjects_left g x (Append y v) = either g x (Append y v) (denial_of g.label g.value x (Append y v)) refl
subjects_left g x (Inspect y) = either g x (Inspect y) (denial_of g.label g.value x (Inspect y)) refl
subjects_left g x Listing = refl
subjects_left g x Retire = refl

command_leaves : (g : ProtectionGraph) (x : ℕ) (c : Command) (r : Reply) (s u : Actors) → r ≡ answer_of g x (Plain c) → HasActors g s →
    u.subjects.items ≡ subjects_after s.subjects.items x c → u.made ≡ made_by s.made r → HasActors (step g x (Plain c)) u
command_leaves g x c r s u is has subjects made =
    let denial = denial_of g.label g.value x c in
    record {
      subjects = subjects_left g x c ∙ ap (λ (xs : List ℕ). subjects_after xs x c) has.subjects ∙ sym subjects;
      made = made_stays g x c denial ∙ has.made ∙ sym (made ∙ ap (made_by s.made) is ∙ no_name_answered g x c denial s.made);
    }

deed_leaves : (g : ProtectionGraph) (x : ℕ) (r : Reply) (d : Deed) (s u : Actors) → g.limit < 2 ^ 64 → r ≡ answer_of g x d → HasActors g s →
    u.subjects.items ≡ subjects_by s.subjects.items x r d → u.made ≡ made_by s.made r → HasActors (step g x d) u
deed_leaves g x r (Create label law state) s u fits is has subjects made =
    create_leaves g x label (record { law = law; state = state }) (nat_lt g.made g.limit) r s u refl fits is has subjects made
deed_leaves g x r (Spawn label law state) s u fits is has subjects made =
    spawn_leaves g x label (record { law = law; state = state }) (nat_lt g.made g.limit) (nat_lt (length g.subjects) MAX_WORKERS) r s u refl fits is has subjects made
deed_leaves g x r (Plain c) s u fits is has subjects made = command_leaves g x c r s u is has subjects made

-- one entry more
pub actors_more : (g : ProtectionGraph) (es more : List Entry) (e : Entry) (s u : Actors) → more ≡ es ++ e ∷ [] → g.limit < 2 ^ 64 → IsLegal g more → HasActors (graph_after g es) s → Follows s e u →
    HasActors (graph_after g more) u
actors_more g es more e s u is fits legal has follows =
    let h = graph_after g es in
    let cut = IsLegal-cut g es (e ∷ []) (subst (IsLegal g) is legal) in
    subst (λ (k : ProtectionGraph). HasActors k u) (sym (ap (graph_after g) is ∙ graph_after-push g es e))
    (deed_leaves h e.worker e.reply e.deed s u (subst (λ (n : ℕ). n < 2 ^ 64) (sym (graph_after-limit g es)) fits) cut.1.0.reply has follows.subjects follows.made)

-- ---- the picture

some_held : (s : RightSet) (q : Right) (t : Bool) → t ≡ is_none_held s → has s q ≡ true → is_none_held s ≡ false
some_held s q true is h = absurd (false≢true (sym (has-none_held s (sym is) q) ∙ h))
some_held s q false is h = sym is

pub sound_made : (g : ProtectionGraph) → IsSound g → IsMade g
sound_made g sound = record {
  subjects = sound.subjects_made;
  ends = λ a b q h. sound.ends_made a b (some_held (g.label a b) q (is_none_held (g.label a b)) refl h);
}

-- the edges and who is active are those of the graph after a history
pub pictured : (g : ProtectionGraph) (es : List Entry) (edges : List Edge) (s : Actors) (limit : ℕ) → IsSound g → IsLegal g es → g.limit ≡ limit →
    ((a b : ℕ) → (graph_after g es).label a b ≡ label_in edges a b) → HasActors (graph_after g es) s →
    IsPictureOf (record { subjects = s.subjects.items; edges = edges; made = s.made; limit = limit }) (graph_after g es)
pictured g es edges s limit sound legal same labels has = record {
  is_made = sound_made (graph_after g es) (IsSound-after g es sound legal);
  subjects = has.subjects;
  made = has.made;
  limit = graph_after-limit g es ∙ same;
  labels = labels;
}
