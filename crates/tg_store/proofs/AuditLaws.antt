-- An audit of a legal history finds no bad entry.
use Rattle.std.proofs.Common.{◌≡◌, List, Option, None, Some, refl, subst, sym}
use Rattle.std.specs.Prelude.{IsSome}
use Rattle.tg_model.specs.Opened.{Plan, start_of}
use Rattle.tg_journal.specs.declared.entry.Entry.{Entry}
use Rattle.tg_journal.specs.declared.replay.AuditFault.{AuditFault}
use Rattle.tg_journal.specs.declared.replay.AuditFault.TheVariants.{OutOfMemory, BadEntry}
use Rattle.tg_journal.specs.History.{IsLegal, IsAuditFault}
use Rattle.tg_journal.proofs.HistoryLaws.{IsFirstBad-not_legal}
use Rattle.tg_snapshot.specs.Snapshot.{Saved}
use Rattle.tg_store.specs.Origin.{start_shown}

-- all entries of a store that was opened by its opening alone are a history of that
legal_first : (plan : Plan) (shown : Option Saved) (entries : List Entry) → (IsSome shown → ⊥) → IsLegal (start_shown plan shown) entries → IsLegal (start_of plan) entries
legal_first plan None entries none legal = legal
legal_first plan (Some snapshot) entries none legal = absurd (none refl)

pub fault_of_legal : (given own : Plan) (shown : Option Saved) (listed entries : List Entry) (fault : AuditFault) → given ≡ own → listed ≡ entries → (IsSome shown → ⊥)
    → IsLegal (start_shown own shown) entries → IsAuditFault (start_of given) listed fault → fault ≡ OutOfMemory
fault_of_legal given own shown listed entries OutOfMemory same_plan same_list none legal says = refl
fault_of_legal given own shown listed entries (BadEntry at) same_plan same_list none legal says =
    absurd (IsFirstBad-not_legal (start_of given) listed at says
    (subst (λ p. IsLegal (start_of p) listed) (sym same_plan)
    (subst (λ es. IsLegal (start_of own) es) (sym same_list) (legal_first own shown entries none legal))))
