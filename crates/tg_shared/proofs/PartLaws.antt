-- Receipts of a journal that was handed out in parts.
use Rattle.std.proofs.Common.{◌≡◌, ◌∙◌, ℕ, ◌+◌, ◌≤◌, List, [], ◌∷◌, ◌++◌, length, take, Some, slice_get, refl, sym, ap, subst, arith}
use Rattle.std.specs.List.{All}
use Rattle.std.proofs.lemmas.List.{get_or-take, length-take}
use Rattle.std.proofs.lemmas.List.Elements.{All-head, All-tail}
use Rattle.std.proofs.lemmas.List.Sums.{sum_by-cons}
use Rattle.std.proofs.lemmas.Option.{get_or_from_slice_get, slice_get-get_or, slice_get_within}
use Rattle.tg_journal.specs.declared.entry.Entry.{Entry}
use Rattle.tg_journal.specs.Journal.{Entries}
use Rattle.tg_shared.specs.declared.receipt.Receipt.{Receipt}
use Rattle.tg_shared.specs.Receipts.{AreParts, MatchParts, MatchesFrom, Stands, all_receipts}
use Rattle.tg_shared.specs.Sessions.{KeptInParts, MatchesSince, SessionState, parts_of}
use Rattle.tg_shared.proofs.Matching.{MatchFrom, held-is_from}

-- an entry at a place of a front is there in the whole
in_whole : (entries : List Entry) (n at : ℕ) (e : Entry) → slice_get (take n entries) at ≡ Some e → slice_get entries at ≡ Some e
in_whole entries n at e some =
    let inside = slice_get_within (take n entries) at e some in
    slice_get-get_or entries at e (omega (arith, inside, length-take n entries))
    ∙ ap (λ (x : Entry). Some x) (sym (get_or-take n entries at e (omega (arith, inside, length-take n entries))) ∙ get_or_from_slice_get (take n entries) at e e some)

-- receipts that match a front from a place on, and then later ones that match the whole from its end on
joined : (entries part : List Entry) (worker least : ℕ) (rs later : List Receipt) → take (length part) entries ≡ part → least ≤ length part → MatchFrom part worker least rs → MatchFrom entries worker (length part) later →
    MatchFrom entries worker least (rs ++ later)
joined entries part worker least [] [] front low m after = tt
joined entries part worker least [] (r ∷ rs) front low m after = (omega (arith, low, after.0), after.1, after.2)
joined entries part worker least (r ∷ rs) later front low m after =
    let there : slice_get part r.at ≡ Some r.entry = m.1.0 in
    let inside = slice_get_within part r.at r.entry there in
    let stands : Stands entries worker r = (in_whole entries (length part) r.at r.entry (subst (λ (es : List Entry). slice_get es r.at ≡ Some r.entry) (sym front) there), m.1.1) in
    (m.0, stands, joined entries part worker (r.at + 1) rs later front (omega (arith, inside)) m.2 after)

-- so all receipts match, from the first place on
match_parts : (entries : List Entry) (parts : List Entries) (worker first : ℕ) (lists : List (List Receipt)) → AreParts first entries parts → MatchParts parts worker lists → MatchFrom entries worker first (all_receipts lists)
match_parts entries [] worker first lists are match = subst (λ (ls : List (List Receipt)). MatchFrom entries worker first (all_receipts ls)) (sym match) tt
match_parts entries (part ∷ parts) worker first lists are match =
    let held = (held-is_from part.entries worker part.start match.0).0 match.3 in
    let here : MatchFrom part.entries worker first match.0 = subst (λ (n : ℕ). MatchFrom part.entries worker n match.0) are.0 held in
    let later = match_parts entries parts worker (length part.entries) match.1 are.3 match.4 in
    subst (λ (ls : List (List Receipt)). MatchFrom entries worker first (all_receipts ls)) (sym match.2)
    (joined entries part.entries worker first match.0 (all_receipts match.1) are.2 are.1 here later)

pub parts_match : (entries : List Entry) (parts : List Entries) (worker first : ℕ) (lists : List (List Receipt)) → AreParts first entries parts → MatchParts parts worker lists →
    MatchesFrom first entries worker (all_receipts lists)
parts_match entries parts worker first lists are match = (held-is_from entries worker first (all_receipts lists)).1 (match_parts entries parts worker first lists are match)

-- ---- sessions that have all their receipts, part by part

pub since_kept : (entries : List Entry) (first : ℕ) (parts : List Entries) (s : SessionState) → AreParts first entries parts → KeptInParts parts s → MatchesSince entries first s
unfolding MatchesSince
since_kept entries first parts s are kept =
    subst (MatchesFrom first entries s.worker) (sym kept.all) (parts_match entries parts s.worker first kept.lists are kept.each)

-- sessions that took none over
pub ones : (ss : List SessionState) → All (λ s. s.parts ≡ 1) ss → parts_of ss ≡ length ss
ones [] each = refl
ones (s ∷ ss) each =
    let here = All-head (λ (x : SessionState). x.parts ≡ 1) s ss each in
    omega (arith, sum_by-cons (λ (x : SessionState). x.parts) s ss, here, ones ss (All-tail (λ (x : SessionState). x.parts ≡ 1) s ss each))
