-- What one entry more comes to for an audit.
use mathlib.Core.Bool.{true≢false}
use Rattle.std.proofs.Common.{◌≡◌, ◌∙◌, ◌≤◌, ◌+◌, ◌-◌, ◌<◌, ◌++◌, ◌∷◌, ◌⊎◌, inl, inr, [], ℕ, false, true, List, length, length-drop, take, drop, Some, refl, sym, ap, subst, arith}
use Rattle.std.proofs.lemmas.List.{take-append-drop}
use Rattle.std.specs.Prelude.{slice_get, Result, Ok, Err, IfErr, OnOk, OnErr}
use Rattle.tg_model.specs.declared.command.Deed.{Deed}
use Rattle.tg_model.specs.declared.reply.Reply.{Reply}
use Rattle.tg_model.specs.Graph.{ProtectionGraph, IsSubject}
use Rattle.tg_model.specs.Rules.{step, answer_of, DeedFits}
use Rattle.tg_journal.specs.declared.auditor.PartFault.TheVariants as part
use Rattle.tg_journal.specs.declared.entry.Entry.{Entry}
use Rattle.tg_journal.specs.declared.replay.AuditFault.{AuditFault}
use Rattle.tg_journal.specs.declared.replay.AuditFault.TheVariants.{OutOfMemory, BadEntry}
use Rattle.tg_journal.specs.Auditing.{FeedsEntries, FeedsPart, HasComeTo, AuditAnswers, IsStopped, Passes, StandsAt}
use Rattle.tg_journal.specs.History.{IsLegalEntry, IsFirstBad, IsAuditFault, graph_after}
use Rattle.tg_journal.specs.Inner.Steps.{StopsBefore}
use Rattle.tg_journal.specs.Live.{KeptGraph, AuditState, IsSameGraph, IsSweptGraph, graph_kept}
use Rattle.tg_journal.proofs.AlikeLaws.{entry_alike, step_alike, as_before, swept_alike}
use Rattle.tg_journal.proofs.HistoryLaws.{IsLegal-append, graph_after-append}

module _ (g : ProtectionGraph) (mid new : AuditState) (stands : StandsAt g mid) where
  -- an entry passes
  pub passed_on : (x : Entry) → IsLegalEntry (graph_kept mid.kept) x → graph_kept new.kept ≡ step (graph_kept mid.kept) x.worker x.deed → new.found_bad ≡ mid.found_bad → Passes g (x ∷ []) new
  passed_on x legal is same =
      let this = (entry_alike g (graph_kept mid.kept) stands.come x).0 legal in
      let next = step_alike g (graph_kept mid.kept) stands.come x.worker this.subject x.deed in record {
        legal = (this, tt);
        next = record {
          none_bad = same ∙ stands.none_bad;
          come = subst (HasComeTo (step g x.worker x.deed)) (sym is) next;
        };
      }

  -- memory runs out for an entry
  pub stays_for_want : IsSameGraph (graph_kept mid.kept) (graph_kept new.kept) → new.found_bad ≡ mid.found_bad → StandsAt g new
  stays_for_want before same = record {
    none_bad = same ∙ stands.none_bad;
    come = as_before g (graph_kept mid.kept) stands.come (graph_kept new.kept) before;
  }

-- an entry is bad
pub bad_here : (g : ProtectionGraph) (mid : AuditState) (x : Entry) → StandsAt g mid → (IsLegalEntry (graph_kept mid.kept) x → ⊥) → IsLegalEntry g x → ⊥
bad_here g mid x stands bad legal = bad ((entry_alike g (graph_kept mid.kept) stands.come x).1 legal)

-- memory ran out before an entry
pub stops_for_want : {T : Type 0} (r : Result T AuditFault) (given : AuditFault) (old new : AuditState) (x : Entry) → r ≡ Err given → given ≡ OutOfMemory →
    new.at ≡ old.at → ((g : ProtectionGraph) → StandsAt g old → StandsAt g new) → IfErr r (StopsBefore old new x)
stops_for_want r given old new x is want at stands = rw (is ∙ ap (λ (e : AuditFault). Err e) want) (at, stands)

-- a list passes, and then another one
pub passes_both : (g : ProtectionGraph) (front more : List Entry) (mid new : AuditState) → Passes g front mid → Passes (graph_after g front) more new → Passes g (front ++ more) new
passes_both g front more mid new first second = record {
  legal = IsLegal-append g front more first.legal second.legal;
  next = subst (λ (h : ProtectionGraph). StandsAt h new) (sym (graph_after-append g front more)) second.next;
}

-- the auditor stopped at an entry after others that passed
pub stopped_behind : (old mid new : AuditState) (es : List Entry) (i : ℕ) (x : Entry) (why : AuditFault) → mid.at ≡ old.at + i → i < length es → slice_get es i ≡ Some x →
    ((g : ProtectionGraph) → StandsAt g old → Passes g (take i es) mid) → StopsBefore mid new x why → IsStopped old new es why
stopped_behind old mid new es i x OutOfMemory place inside there was is =
    let n : i ≡ new.at - old.at = omega (arith, place, is.0) in (
      omega (arith, place, is.0),
      omega (arith, place, is.0, inside),
      λ g stands. subst (λ n. Passes g (take n es) new) n (record { legal = (was g stands).legal; next = is.1 (graph_after g (take i es)) (was g stands).next }),
    )
stopped_behind old mid new es i x (BadEntry at) place inside there was is =
    let n : i ≡ at - old.at = omega (arith, place, is.0) in (
      is.0 ∙ sym is.1,
      omega (arith, place, is.0),
      is.2,
      λ g stands. subst (λ n. IsFirstBad g es n) n (record {
        before = (was g stands).legal;
        entry = x;
        there = there;
        bad = is.3 (graph_after g (take i es)) (was g stands).next;
      }),
    )

-- the entry of a deed that is answered as the graph that is kept answers it
pub answered : (g : ProtectionGraph) (old mid new : AuditState) (x : ℕ) (deed : Deed) (reply : Reply) → StandsAt g mid → IsSubject (graph_kept mid.kept) x → DeedFits deed →
    reply ≡ answer_of (graph_kept mid.kept) x deed → graph_kept new.kept ≡ step (graph_kept mid.kept) x deed → new.found_bad ≡ mid.found_bad → new.at ≡ old.at + 1 → AuditAnswers g x deed old new (Some reply)
answered g old mid new x deed reply stands subject fits is next same place =
    let e : Entry = record { worker = x; deed = deed; reply = reply } in
    (passed_on g mid new stands e (record { subject = subject; fits = fits; reply = is }) next same, place)

-- whatever the result
pub on_err : {T E P : Type 0} (r : Result T E) → P → OnErr r P
on_err (Ok done) p = tt
on_err (Err error) p = p

-- what is reported of a whole history, at which the auditor began
pub fault_of : (g : ProtectionGraph) (old new : AuditState) (es : List Entry) (why : AuditFault) → StandsAt g old → old.at ≡ 0 → IsStopped old new es why → IsAuditFault g es why
fault_of g old new es OutOfMemory stands first is = tt
fault_of g old new es (BadEntry at) stands first is =
    let n : at - old.at ≡ at = omega (arith, first) in subst (λ n. IsFirstBad g es n) n (is.3 g stands)

-- a sweep, which may have been refused
pub stays_after : {E : Type 0} (result : Result (Unit {0}) E) (old new : KeptGraph) → OnOk result (IsSweptGraph (graph_kept old) (graph_kept new)) → OnErr result (new ≡ old) → (g : ProtectionGraph) → HasComeTo g (graph_kept old) → HasComeTo g (graph_kept new)
stays_after (Ok done) old new swept refused g come = swept_alike g (graph_kept old) come (graph_kept new) swept
stays_after (Err error) old new swept refused g come = subst (λ (k : KeptGraph). HasComeTo g (graph_kept k)) (sym refused) come

-- The parts: what is after the auditor's place in a part was fed.
module _ (old new : AuditState) (first : ℕ) (entries : List Entry) (none : old.found_bad ≡ false) (low : first ≤ old.at) (high : old.at ≤ length entries) where
  not_ended : {P : Type 0} → old.found_bad ≡ true → P
  not_ended was = absurd (true≢false (sym was ∙ none))

  held : (old.at < first) ⊎ (length entries < old.at) → ⊥
  held (inl before) = omega (arith, before, low)
  held (inr behind) = omega (arith, behind, high)

  -- all of it passed
  pub part_passed : FeedsEntries old new (drop old.at entries) (Ok tt) → FeedsPart old new first entries (Ok tt)
  part_passed fed = record {
    passed = fed.passed;
    end = omega (arith, fed.end, length-drop old.at entries, high);
    bad_place = λ _. ((λ is. absurd cc), λ out. absurd (held out));
    refused = tt;
    ended = not_ended;
  }

  -- memory ran out
  pub part_wanting : FeedsEntries old new (drop old.at entries) (Err OutOfMemory) → FeedsPart old new first entries (Err (part.OutOfMemory new.at))
  part_wanting fed = record {
    passed = λ _ _. tt;
    end = tt;
    bad_place = λ _. ((λ is. absurd cc), λ out. absurd (held out));
    refused = (refl, fed.stopped);
    ended = not_ended;
  }

  -- an entry was bad
  pub part_bad : (at : ℕ) → FeedsEntries old new (drop old.at entries) (Err (BadEntry at)) → FeedsPart old new first entries (Err (part.BadEntry at))
  part_bad at fed = record {
    passed = λ _ _. tt;
    end = tt;
    bad_place = λ _. ((λ is. absurd cc), λ out. absurd (held out));
    refused = fed.stopped;
    ended = not_ended;
  }

-- the entries before its place, and then a part with these in front
pub part_goes_on : (g : ProtectionGraph) (old new : AuditState) (first : ℕ) (entries : List Entry) → Passes g (take old.at entries) old → FeedsPart old new first entries (Ok tt) → Passes g entries new
part_goes_on g old new first entries was fed =
    subst (λ (es : List Entry). Passes g es new) (take-append-drop old.at entries)
    (passes_both g (take old.at entries) (drop old.at entries) old new was (fed.passed (graph_after g (take old.at entries)) was.next))
