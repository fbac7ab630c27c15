use Rattle.std.proofs.Common.{◌≡◌, ◌<◌, ℕ, List, take, Some, slice_get, ◌∙◌, arith}
use Rattle.std.specs.List.{Contains}
use Rattle.std.proofs.lemmas.List.{get_or-take, length-take}
use Rattle.std.proofs.lemmas.Option.{get_or_from_slice_get, slice_get_within}
use Rattle.tg_journal.specs.declared.entry.Entry.{Entry}
use Rattle.tg_journal.proofs.HistoryLaws.{IsLegalEntry-at}
use Rattle.tg_shared.proofs.laws.receipts_stand_in_order.Goals as goal

-- an entry before a place is in the front up to there
in_front : (entries : List Entry) (n at : ℕ) (e : Entry) → slice_get entries at ≡ Some e → at < n → Contains (take n entries) e
in_front entries n at e some before =
    let inside = slice_get_within entries at e some in
    (at, omega (arith, length-take n entries), get_or-take n entries at e before ∙ get_or_from_slice_get entries at e e some)

pub returns : goal.returns
returns c = record {
  answered = λ g entries worker receipts legal match i d low. IsLegalEntry-at g entries _ _ legal (match.standing i d low).0;
  earlier = λ entries worker receipts match i j d lt low. in_front entries _ _ _ (match.standing i d (omega arith)).0 (match.rising i j d lt low);
}
