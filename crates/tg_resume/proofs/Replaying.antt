-- What one entry more comes to, and a list of them, for a store that replays them.
use Rattle.std.proofs.Common.{◌≡◌, ◌↔◌, ◌∙◌, ◌+◌, ◌<◌, ◌++◌, ◌∷◌, [], ℕ, Bool, true, false, List, length, take, drop, Some, append_assoc, arith, get_or, refl, sym, ap, subst}
use Rattle.std.proofs.lemmas.Bool.{false≢true}
use Rattle.std.proofs.lemmas.List.{append-nil, drop_more, length-append, take-append-drop, take_more, length-take-le}
use Rattle.std.proofs.lemmas.Option.{slice_get-get_or}
use Rattle.std.proofs.Math.Seq.{get_or-append_seam, take-append_seam}
use Rattle.std.specs.Prelude.{IsTrue, Result, Ok, Err}
use Rattle.tg_model.specs.declared.reply.Reply.{Reply}
use Rattle.tg_model.specs.declared.command.Deed.{Deed}
use Rattle.tg_model.specs.Graph.{ProtectionGraph, IsSubject}
use Rattle.tg_model.specs.Rules.{step}
use Rattle.tg_journal.specs.declared.entry.Entry.{Entry}
use Rattle.tg_journal.specs.History.{IsLegal, IsLegalEntry, IsFirstBad, graph_after}
use Rattle.tg_journal.proofs.HistoryLaws.{IsLegal-push, IsLegal-cut, graph_after-push}
use Rattle.tg_space.specs.declared.room_fault.RoomFault.{RoomFault}
use Rattle.tg_store.specs.Origin.{Origin, start_at}
use Rattle.tg_store.specs.Store.{StoreState, IsFaithful, graph_of_store}
use Rattle.tg_store.proofs.StandLaws.{graph-grown}
use Rattle.tg_resume.specs.Inner.Replaying.{Does, Replays}
use Rattle.tg_resume.specs.declared.stopped.ResumeStopped.{ResumeStopped}
use Rattle.tg_resume.specs.declared.stopped.ResumeStopped.TheVariants.{BadPlace}
use Rattle.tg_resume.specs.Resuming.{HasNoRoom, IsBadAt, IsStopped, Resumes}
use Rattle.tg_resume.proofs.Doing.{same_graph}

-- ---- one entry

-- the last entry of a store is legal on the graph before it
legal_last : (old new : StoreState) (e : Entry) → IsFaithful new → new.opening ≡ old.opening → new.entries ≡ old.entries ++ e ∷ [] → IsLegalEntry (graph_of_store old) e
legal_last old new e faithful opening entries =
    let legal : IsLegal (start_at old.opening) new.entries = subst (λ (o : Origin). IsLegal (start_at o) new.entries) opening faithful.legal in
    (IsLegal-cut (start_at old.opening) old.entries (e ∷ []) (subst (IsLegal (start_at old.opening)) entries legal)).1.0

module _ (e : Entry) (old new : StoreState) where
  -- its deed was done, and the replies were compared
  pub replayed : (deed : Deed) (reply : Reply) (same : Bool) → e.deed ≡ deed → Does e.worker deed old new (Ok reply) → IsFaithful new → (IsTrue same ↔ (e.reply ≡ reply)) → Replays e old new (Ok same)
  replayed deed reply same is did faithful told =
      let own : Entry = record { worker = e.worker; deed = e.deed; reply = reply } in
      let entered : new.entries ≡ old.entries ++ own ∷ [] =
      did.entered ∙ ap (λ (d : Deed). old.entries ++ (record { worker = e.worker; deed = d; reply = reply }) ∷ []) (sym is) in
      let legal : IsLegalEntry (graph_of_store old) own = legal_last old new own faithful did.stays.opening entered in
      record {
        legal = (
          λ t. record { subject = legal.subject; fits = legal.fits; reply = told.0 t ∙ legal.reply },
          λ this. told.1 (this.reply ∙ sym legal.reply),
        );
        entered = λ t. entered ∙ ap (λ (r : Reply). old.entries ++ (record { worker = e.worker; deed = e.deed; reply = r }) ∷ []) (sym (told.0 t));
        refused = tt;
        subject = tt;
        fits = tt;
        reason = tt;
        stays = did.stays;
      }

  -- the same, of a reply and a store that are told by others
  pub replayed_as : (deed : Deed) (reply : Reply) (same : Bool) (at : StoreState) (own : Reply) → new ≡ at → reply ≡ own → e.deed ≡ deed → Does e.worker deed old at (Ok own) → IsFaithful new → (IsTrue same ↔ (e.reply ≡ reply)) → Replays e old new (Ok same)
  replayed_as deed reply same at own store_is reply_is is did faithful told =
      let did_so : Does e.worker deed old at (Ok reply) = subst (λ (r : Reply). Does e.worker deed old at (Ok r)) (sym reply_is) did in
      replayed deed reply same is (subst (λ (s : StoreState). Does e.worker deed old s (Ok reply)) (sym store_is) did_so) faithful told

-- ---- a list of them

pub resumed_none : (s : StoreState) → Resumes [] s s
resumed_none s = record {
  entries = sym (append-nil s.entries);
  legal = tt;
  graph = refl;
  opening = refl;
  handed = refl;
  limits = refl;
}

module _ (old s new : StoreState) (es : List Entry) (done : ℕ) (x : Entry) (was : Resumes (take done es) old s) where
  pub resumed_on : Replays x s new (Ok true) → take (done + 1) es ≡ take done es ++ x ∷ [] → Resumes (take (done + 1) es) old new
  resumed_on this more =
      subst (λ (l : List Entry). Resumes l old new) (sym more)
      (record {
        entries = this.entered refl ∙ ap (λ (l : List Entry). l ++ x ∷ []) was.entries ∙ append_assoc old.entries (take done es) (x ∷ []);
        legal = IsLegal-push (graph_of_store old) (take done es) x was.legal (subst (λ (g : ProtectionGraph). IsLegalEntry g x) was.graph (this.legal.0 refl));
        graph =
            graph-grown s new (x ∷ []) this.stays.opening (this.entered refl)
            ∙ ap (λ (g : ProtectionGraph). step g x.worker x.deed) was.graph
            ∙ sym (graph_after-push (graph_of_store old) (take done es) x);
        opening = this.stays.opening ∙ was.opening;
        handed = this.stays.handed ∙ was.handed;
        limits = this.stays.limits ∙ was.limits;
      })

  -- what comes at the place of the next entry
  next_place : (rest : List Entry) → drop done es ≡ x ∷ rest → old.entries ++ es ≡ s.entries ++ x ∷ rest
  next_place rest left =
      ap (λ (l : List Entry). old.entries ++ l) (sym (take-append-drop done es) ∙ ap (λ (l : List Entry). take done es ++ l) left)
      ∙ sym (append_assoc old.entries (take done es) (x ∷ rest))
      ∙ ap (λ (l : List Entry). l ++ x ∷ rest) (sym was.entries)

  module _ (inside : done < length es) (is : x ≡ get_or es done x) where
    abbrev rest : List Entry
    rest = drop (done + 1) es

    whole : old.entries ++ es ≡ s.entries ++ x ∷ rest
    whole = next_place rest (drop_more es done x inside ∙ ap (λ (y : Entry). y ∷ rest) (sym is))

    pub more : take (done + 1) es ≡ take done es ++ x ∷ []
    more = take_more es done x inside ∙ ap (λ (y : Entry). take done es ++ y ∷ []) (sym is)

    place_of_next : length s.entries ≡ length old.entries + done
    place_of_next =
        ap (λ (l : List Entry). length l) was.entries
        ∙ length-append old.entries (take done es)
        ∙ ap (λ n. length old.entries + n) (length-take-le done es (omega (arith, inside)))

    pub halted_bad : IsFaithful s → Replays x s new (Ok false) → IsBadAt es old (length s.entries)
    halted_bad faithful this =
        let start = start_at old.opening in
        let seam : take (length s.entries) (s.entries ++ x ∷ rest) ≡ s.entries = take-append_seam s.entries (x ∷ rest) in
        let graph : graph_of_store s ≡ graph_after start (take (length s.entries) (s.entries ++ x ∷ rest)) =
        ap (λ (o : Origin). graph_after (start_at o) s.entries) was.opening ∙ ap (graph_after start) (sym seam) in
        subst (λ (l : List Entry). IsFirstBad start l (length s.entries)) (sym whole)
        (record {
          before = subst (IsLegal start) (sym seam) (subst (λ (o : Origin). IsLegal (start_at o) s.entries) was.opening faithful.legal);
          entry = x;
          there =
              slice_get-get_or (s.entries ++ x ∷ rest) (length s.entries) x (omega (arith, length-append s.entries (x ∷ rest)))
              ∙ ap (λ (y : Entry). Some y) (get_or-append_seam s.entries x rest x);
          bad = λ legal. false≢true (this.legal.1 (subst (λ (g : ProtectionGraph). IsLegalEntry g x) (sym graph) legal));
        })

    pub halted_room : (why : RoomFault) → Replays x s new (Err why) → HasNoRoom es old new (length s.entries) why
    halted_room why this =
        let same : graph_of_store new ≡ graph_of_store s = same_graph s new this.refused this.stays.opening in
        record {
          done = done;
          place = place_of_next;
          before = record {
            entries = this.refused ∙ was.entries;
            legal = was.legal;
            graph = same ∙ was.graph;
            opening = this.stays.opening ∙ was.opening;
            handed = this.stays.handed ∙ was.handed;
            limits = this.stays.limits ∙ was.limits;
          };
          entry = x;
          there = slice_get-get_or es done x inside ∙ ap (λ (y : Entry). Some y) (sym is);
          subject = subst (λ (g : ProtectionGraph). IsSubject g x.worker) (sym same) this.subject;
          fits = this.fits;
          reason = this.reason;
        }

-- ---- what is returned

-- what stopped among the entries isn't a part that begins elsewhere
pub no_bad_place : {S P : Type 0} (old other : StoreState) (es : List Entry) (due from : ℕ) (stopped : ResumeStopped P) → IsStopped {P = P} (length old.entries) es old stopped → ◌≡◌ {A = Result S (ResumeStopped P)} (Err stopped) (Err (BadPlace due from other)) → ⊥
no_bad_place {P = P} old other es due from stopped is told =
    let same : stopped ≡ BadPlace due from other = cc in
    let place : IsStopped {P = P} (length old.entries) es old (BadPlace due from other) = subst (λ (s : ResumeStopped P). IsStopped {P = P} (length old.entries) es old s) same is in
    place.2 (sym place.0)
