-- Stores that were resumed, part after part.
use Rattle.std.proofs.Common.{◌≡◌, ◌∙◌, ◌+◌, ◌-◌, ◌++◌, ℕ, List, length, take, drop, append_assoc, arith, sym, ap, subst}
use Rattle.std.proofs.lemmas.List.{length-append, length-take-le, take-append-drop}
use Rattle.std.proofs.lemmas.Option.{slice_get_within}
use Rattle.tg_model.specs.Graph.{ProtectionGraph}
use Rattle.tg_journal.specs.declared.entry.Entry.{Entry}
use Rattle.tg_journal.specs.History.{IsLegal, graph_after}
use Rattle.tg_journal.proofs.HistoryLaws.{IsFirstBad-not_legal, IsLegal-append, IsLegal-cut, graph_after-append}
use Rattle.tg_space.specs.declared.room_fault.RoomFault.{RoomFault}
use Rattle.tg_store.specs.Origin.{Origin, start_at}
use Rattle.tg_store.specs.Store.{IsFaithful, StoreState, graph_of_store}
use Rattle.tg_resume.specs.Resuming.{HasFrontOf, HasNoRoom, IsBadAt, Resumes}

pub resumed_both : (front more : List Entry) (old mid new : StoreState) → Resumes front old mid → Resumes more mid new → Resumes (front ++ more) old new
resumed_both front more old mid new first second = record {
  entries = second.entries ∙ ap (λ (l : List Entry). l ++ more) first.entries ∙ append_assoc old.entries front more;
  legal = IsLegal-append (graph_of_store old) front more first.legal (subst (λ (g : ProtectionGraph). IsLegal g more) first.graph second.legal);
  graph = second.graph ∙ ap (λ (g : ProtectionGraph). graph_after g more) first.graph ∙ sym (graph_after-append (graph_of_store old) front more);
  opening = second.opening ∙ first.opening;
  handed = second.handed ∙ first.handed;
  limits = second.limits ∙ first.limits;
}

pub resumed_on_from : (es : List Entry) (old mid : StoreState) (at : ℕ) (why : RoomFault) (stopped : HasNoRoom es old mid at why) → (at ≡ length mid.entries) × ((new : StoreState) → Resumes (drop (at - length old.entries) es) mid new → Resumes es old new)
resumed_on_from es old mid at why stopped =
    let done = stopped.done in
    let inside = slice_get_within es done stopped.entry stopped.there in
    let count : at - length old.entries ≡ done = omega (arith, stopped.place) in
    let len : length mid.entries ≡ length old.entries + done =
    ap (λ (l : List Entry). length l) stopped.before.entries
    ∙ length-append old.entries (take done es)
    ∙ ap (λ n. length old.entries + n) (length-take-le done es (omega (arith, inside))) in (
      stopped.place ∙ sym len,
      λ new rest.
          subst (λ (l : List Entry). Resumes l old new) (take-append-drop done es)
          (resumed_both (take done es) (drop done es) old mid new stopped.before (subst (λ n. Resumes (drop n es) mid new) count rest)),
    )

pub as_the_first : (first old new : StoreState) → HasFrontOf first old → Resumes (drop (length old.entries) first.entries) old new → (new.entries ≡ first.entries) × (graph_of_store new ≡ graph_of_store first)
as_the_first first old new is resumed =
    let n = length old.entries in
    let entries : new.entries ≡ first.entries =
    resumed.entries ∙ ap (λ (l : List Entry). l ++ drop n first.entries) is.entries ∙ take-append-drop n first.entries in
    (entries, (λ i. graph_after (start_at ((resumed.opening ∙ is.opening) i)) (entries i)))

pub none_is_bad : (first old : StoreState) (es later : List Entry) (at : ℕ) → IsFaithful first → old.opening ≡ first.opening → first.entries ≡ (old.entries ++ es) ++ later → IsBadAt es old at → ⊥
none_is_bad first old es later at faithful opening entries bad =
    let start = start_at old.opening in
    let legal : IsLegal start ((old.entries ++ es) ++ later) =
    subst (IsLegal start) entries (subst (λ (o : Origin). IsLegal (start_at o) first.entries) (sym opening) faithful.legal) in
    IsFirstBad-not_legal start (old.entries ++ es) at bad (IsLegal-cut start (old.entries ++ es) later legal).0
