use Rattle.std.proofs.Common.{◌≡◌, ◌≤◌, ◌+◌, ◌∙◌, ◌++◌, ◌∷◌, [], ℕ, List, drop, false, length, add-zero, append_assoc, append-nil, arith, refl, sym, ap, subst}
use Rattle.std.specs.List.Sorted.{IsNonDecreasingBy, IsPermutation}
use Rattle.std.proofs.lemmas.List.{nil_from_length}
use Rattle.std.proofs.lemmas.List.Sorted.{IsPermutation-sym, sum_by-IsPermutation}
use Rattle.std.proofs.lemmas.List.Sums.{sum_by-append, sum_by-cons}
use Rattle.std.proofs.Common.{max, ◌-◌}
use Rattle.std.proofs.Math.Nat.{le-max_left, le-max_right, max-le}
use Rattle.tg_journal.specs.declared.entry.Entry.{Entry}
use Rattle.std.specs.List.{All}
use Rattle.std.proofs.lemmas.List.Elements.{All-nil, All-push, All-weaker}
use Rattle.std.proofs.lemmas.List.Sorted.{All-permutation}
use Rattle.tg_passes.specs.declared.signed.Maker.TheVariants.{Keeper}
use Rattle.tg_passes.specs.declared.signed.Signed.{Signed}
use Rattle.tg_passes.specs.Passes.{RollState, Sees, entries_by}
use Rattle.tg_store.specs.Store.{StoreState}
use Rattle.tg_shared.specs.Sessions.{AreSharedOut, GoesOn, HasAllUnlessEnded, HasGrownBy, HasMade, IsBalanced, LockedState, MayClose, SessionState, SharedStart, count_of, handed_of, held_from, knowledge, parts_of, since}
use Rattle.tg_shared.proofs.Knowing.{has_all}
use Rattle.tg_shared.proofs.Balances.{not_both}
use Rattle.tg_shared.proofs.Orders.{may_close_shuffled}
use Rattle.tg_shared.proofs.Sharing.{as_counted, held_at_most, shared_out}
use Rattle.tg_shared.proofs.locked.Locked.reclaim.Goals as goal

-- what a journal has handed out is not after the place from which on it is looked at
held_behind : (start out since since_out journal : ℕ) → since ≡ max start out → out ≡ since_out → journal ≡ since_out → journal ≤ since
held_behind start out since since_out journal is there here = let most : out ≤ max start out = le-max_right start out in omega arith

-- the same sessions close with the same journal
closes : (es fs : List Entry) (m n : ℕ) (ss ts : List SessionState) → es ≡ fs → m ≡ n → ss ≡ ts → MayClose es m ss → MayClose fs n ts
closes es fs m n ss ts entries start sessions may =
    subst (λ (x : List Entry). MayClose x n ts) entries (subst (λ (x : ℕ). MayClose es x ts) start (subst (λ (x : List SessionState). MayClose es m x) sessions may))

-- who gave up their parts represent no more sessions than were made, and where for as many, all parts are there
given_back : (made rest parts whole given : ℕ) → made + rest ≡ parts → whole ≡ rest + given → (whole ≤ parts → given ≤ made) × (given ≡ made → whole ≡ parts)
given_back made rest parts whole given cut held = ((λ fits. omega arith), (λ as_many. omega arith))

-- no entry is counted twice, and where the book is whole, each is counted
counted_once : (entries start total amount rest entered handed count : ℕ) → entries ≡ start + total → amount ≡ rest + handed + count → rest ≡ entered
    → (amount ≤ total → start + entered + handed + count ≤ entries) × (amount ≡ total → entries ≡ start + entered + handed + count)
counted_once entries start total amount rest entered handed count counted held is = ((λ most. omega arith), (λ whole. omega arith))

-- where no receipt was handed out, no entry was
none_gone : (entries start out handed count since : ℕ) → entries ≡ start + handed + count → count ≤ entries - since → handed ≡ 0 → since ≡ max start out → out ≤ entries → since ≡ start
none_gone entries start out handed count since counted fits none is within =
    let most : max start out ≤ entries = max-le {a = start} {b = out} {k = entries} (omega arith) within in
    let least : start ≤ max start out = le-max_left start out in
    omega arith

rest_fits : (made rest parts : ℕ) → made + rest ≡ parts → rest ≤ parts
rest_fits made rest parts cut = omega arith

-- what was made since, but for what the keeper entered, and the receipts among these
made_since : (most entries here first start number entered count : ℕ) → most ≡ entries - first - number → entries ≡ here → first ≡ start → number ≡ entered → start + entered ≤ here
    → (count ≤ most → start + entered + count ≤ here) × (start + entered + count ≤ here → count ≤ most)
made_since most entries here first start number entered count left same began is within = ((λ few. omega arith), (λ all. omega arith))

first_within : (entries here first start number entered : ℕ) → entries ≡ here → first ≡ start → number ≡ entered → start + entered ≤ here → first + number ≤ entries
first_within entries here first start number entered same began is within = omega arith

entered_within : (here start total rest entered : ℕ) → here ≡ start + total → rest ≤ total → rest ≡ entered → start + entered ≤ here
entered_within here start total rest entered counted bound same = omega arith

none_more : (xs : List SessionState) (x : SessionState) → handed_of xs ≡ 0 → x.handed ≡ 0 → handed_of (xs ++ x ∷ []) ≡ 0
none_more xs x none here = omega (arith, none, here, sum_by-append (λ (s : SessionState). s.handed) xs (x ∷ []), sum_by-cons (λ (s : SessionState). s.handed) x [])

gone_none : (start handed since : ℕ) → handed ≡ 0 → since ≡ start → start + handed ≡ since
gone_none start handed since none held = omega arith

fewer : (start entered handed count entries : ℕ) → start + entered + handed + count ≤ entries → start + entered + count ≤ entries
fewer start entered handed count entries all = omega arith

-- one session more is through
moved : (xs : List SessionState) (x : SessionState) (rest left all : List SessionState) → left ≡ x ∷ rest → xs ++ left ≡ all → (xs ++ x ∷ []) ++ rest ≡ all
moved xs x rest left all is held = rw append_assoc (ap (λ (l : List SessionState). xs ++ l) (sym is) ∙ held)

its_parts : (xs : List SessionState) (x : SessionState) (start before now : ℕ) → before ≡ start + parts_of xs → now ≡ before + x.parts → now ≡ start + parts_of (xs ++ x ∷ [])
its_parts xs x start before now held more = omega (arith, sum_by-append (λ (s : SessionState). s.parts) xs (x ∷ []), sum_by-cons (λ (s : SessionState). s.parts) x [])

its_receipts : (xs : List SessionState) (x : SessionState) (start before now : ℕ) → before ≡ start + handed_of xs + count_of xs → now ≡ before + x.handed + length x.receipts → now ≡ start + handed_of (xs ++ x ∷ []) + count_of (xs ++ x ∷ [])
its_receipts xs x start before now held more =
    omega (arith, sum_by-append (λ (s : SessionState). length s.receipts) xs (x ∷ []), sum_by-cons (λ (s : SessionState). length s.receipts) x [], sum_by-append (λ (s : SessionState). s.handed) xs (x ∷ []), sum_by-cons (λ (s : SessionState). s.handed) x [])

pub entries_since-entries-requires : goal.entries_since-entries-requires
entries_since-entries-requires g c =
    let start : ℕ = length g.L.Round.start.entries in
    let within : start + c.self.inside.entered ≤ length c.self.inside.store.entries = entered_within (length c.self.inside.store.entries) start c.self.inside.register.book.total c.self.inside.rest.amount c.self.inside.entered c.self.invariant.0.0.counted c.audit.ensures.bound c.self.invariant.0.2.0 in
    first_within (length c.journal-journal.result.now.entries) (length c.self.inside.store.entries) c.self.inside.start start c.self.inside.entered c.self.inside.entered (ap (λ (es : List Entry). length es) c.journal-journal.ensures.entries) c.self.invariant.0.1 refl within

pub are_refused-requires : goal.are_refused-requires
are_refused-requires g c = record {
  held = held_behind c.self.inside.start c.start.result c.max-since.result c.self.inside.store.handed c.journal-journal.result.now.start c.max-since.ensures (c.start.ensures.start ∙ c.journal-journal.ensures.start) c.journal-journal.ensures.start;
  rising = subst (IsNonDecreasingBy (λ (s : SessionState). s.worker)) (sym c.as_slice.ensures.value) c.sort_by_worker.ensures.rising;
}

pub returns-then-are_refused : goal.returns-then-are_refused
returns-then-are_refused g c =
    let items : List SessionState = c.args.sessions.items in
    let sorted : List SessionState = c.sort_by_worker.new.sessions.items in
    let moved : IsPermutation items sorted = c.sort_by_worker.ensures.permutation in
    let start : ℕ = length g.L.Round.start.entries in
    let here : ℕ = length c.args.self.store.entries in
    let entries : c.journal-journal.result.now.entries ≡ c.args.self.store.entries = c.journal-journal.ensures.entries ∙ ap (λ (b : LockedState). b.store.entries) c.self.view_is in
    let out : c.start.result ≡ c.args.self.store.handed = c.start.ensures.start ∙ c.journal-journal.ensures.start ∙ ap (λ (b : LockedState). b.store.handed) c.self.view_is in
    let since : c.max-since.result ≡ held_from g.L.Round.start c.args.self.store = c.max-since.ensures ∙ (λ i. max (c.self.invariant.0.1 i) (out i)) in
    let refused = c.are_refused.ensures.refused c.if-are_refused.true in
    let none : ¬ MayClose c.args.self.store.entries (held_from g.L.Round.start c.args.self.store) items =
    λ may.
    refused.0 (closes c.args.self.store.entries c.journal-journal.result.now.entries (held_from g.L.Round.start c.args.self.store) c.max-since.result sorted c.as_slice.result.now
    (sym entries) (sym since) (sym c.as_slice.ensures.value) (may_close_shuffled c.args.self.store.entries (held_from g.L.Round.start c.args.self.store) items sorted moved may)) in
    let counted : here ≡ start + c.self.inside.register.book.total = sym (ap (λ (b : LockedState). length b.store.entries) c.self.view_is) ∙ c.self.invariant.0.0.counted in
    let entered : c.self.inside.entered ≡ c.args.self.entered = ap (λ (b : LockedState). b.entered) c.self.view_is in
    let within : start + c.args.self.entered ≤ here = entered_within here start c.self.inside.register.book.total c.self.inside.rest.amount c.args.self.entered counted c.audit.ensures.bound (c.self.invariant.0.2.0 ∙ ap (λ (b : LockedState). b.entered) c.self.view_is) in
    let few : count_of items ≤ c.entries_since-entries.result =
    subst (λ (n : ℕ). n ≤ c.entries_since-entries.result) (ap count_of c.as_slice.ensures.value ∙ sum_by-IsPermutation (λ (s : SessionState). length s.receipts) items sorted moved) refused.1 in
    record {
      ends = record {
        gone_on = subst (λ (b : LockedState). GoesOn g.L.Round.start b.store) c.self.view_is c.self.invariant.0.3;
        store = tt;
        matching = tt;
        single = tt;
        signed = tt;
        handed_back = (c.self.view_is, moved);
      };
      adds_up = tt;
      shared_out = λ _. tt;
      mismatch = ((λ _. none), (λ _. refl));
      only = refl;
      counted = (made_since c.entries_since-entries.result (length c.journal-journal.result.now.entries) here c.self.inside.start start c.self.inside.entered c.args.self.entered (count_of items) c.entries_since-entries.ensures (ap (λ (es : List Entry). length es) entries) c.self.invariant.0.1 entered within).0 few;
    }

pub invariant_of-self : goal.invariant_of-self
invariant_of-self g c =
    let start : ℕ = length g.L.Round.start.entries in
    let rest : IsBalanced c.self.inside.store start c.self.inside.sessions c.self.inside.register.book.total c.audit.new.share.parts g.L.Ledger.parts =
    subst (λ (n : ℕ). IsBalanced c.self.inside.store start c.self.inside.sessions c.self.inside.register.book.total n g.L.Ledger.parts) (sym c.audit.ensures.parts) c.self.invariant.0.0 in (
      (
        subst (λ (n : ℕ). IsBalanced c.self.inside.store start c.self.inside.sessions n c.audit.new.share.parts g.L.Ledger.parts) (sym c.audit.ensures.total) rest,
        c.self.invariant.0.1,
        (c.audit.ensures.amount ∙ c.self.invariant.0.2.0, c.self.invariant.0.2.1),
        c.self.invariant.0.3,
        c.self.invariant.0.4,
      ),
      c.self.invariant.1,
    )

-- each session's receipts are all entries of its worker, in whatever order the sessions stand
singles : (start : SharedStart) (s : StoreState) (signed : List Signed) (sorted items : List SessionState) → HasGrownBy start s signed → IsPermutation sorted items → All (λ x. Sees signed (knowledge x) × HasMade x) sorted
    → All (HasAllUnlessEnded (entries_by Keeper signed) (since start s)) items
singles start s signed sorted items grew moved each =
    All-permutation (HasAllUnlessEnded (entries_by Keeper signed) (since start s)) sorted items moved
    (All-weaker (λ x. Sees signed (knowledge x) × HasMade x) (HasAllUnlessEnded (entries_by Keeper signed) (since start s)) (λ x told. has_all start s signed x grew told.0 told.1) sorted each)

-- and each of them sees all entries
all_see : (signed : List Signed) (sorted items : List SessionState) → IsPermutation sorted items → All (λ x. Sees signed (knowledge x) × HasMade x) sorted → All (λ x. Sees signed (knowledge x)) items
all_see signed sorted items moved each =
    All-permutation (λ x. Sees signed (knowledge x)) sorted items moved (All-weaker (λ x. Sees signed (knowledge x) × HasMade x) (λ x. Sees signed (knowledge x)) (λ x told. told.0) sorted each)

pub loop-session-init : goal.loop-session-init
loop-session-init g c = record {
  left = refl;
  parts = sym (add-zero c.audit.new.share.parts);
  amount = sym (add-zero (c.audit.new.share.amount + 0) ∙ add-zero c.audit.new.share.amount);
  fits = rest_fits c.self.inside.sessions c.audit.new.share.parts g.L.Ledger.parts (ap (λ (n : ℕ). c.self.inside.sessions + n) c.audit.ensures.parts ∙ c.self.invariant.0.0.cut);
  none_handed = λ _. refl;
  same_roll = refl;
  single = All-nil (λ (s : SessionState). Sees c.self.inside.register.roll.signed (knowledge s) × HasMade s);
}

pub loop-session-preserved : goal.loop-session-preserved
loop-session-preserved g c =
    let xs : List SessionState = c.loop-session.yielded in
    let x : SessionState = c.in-Some.session in
    record {
      left = moved xs x c.next.new.self.rest.items c.loop-session.session-iterator.rest.items _ c.in-Some.ensures.steps.0 c.loop-session.invariant.left;
      parts = its_parts xs x c.audit.new.share.parts c.loop-session.whole.parts c.give_up.new.whole.parts c.loop-session.invariant.parts c.give_up.ensures.parts;
      amount = its_receipts xs x c.audit.new.share.amount c.loop-session.whole.amount c.give_up.new.whole.amount c.loop-session.invariant.amount c.give_up.ensures.amount;
      fits = c.give_up.ensures.fits;
      none_handed = λ is. none_more xs x (c.loop-session.invariant.none_handed is) (c.give_up.ensures.none_handed is);
      same_roll = c.give_up.ensures.same_roll ∙ c.loop-session.invariant.same_roll;
      single = All-push (λ (s : SessionState). Sees c.self.inside.register.roll.signed (knowledge s) × HasMade s) xs x c.loop-session.invariant.single
          (subst (λ (r : RollState). Sees r.signed (knowledge x)) (c.give_up.ensures.same_roll ∙ c.loop-session.invariant.same_roll) c.give_up.ensures.sees, c.give_up.ensures.own);
    }

pub returns : goal.returns
returns g c =
    let items : List SessionState = c.args.sessions.items in
    let sorted : List SessionState = c.sort_by_worker.new.sessions.items in
    let moved_to : IsPermutation items sorted = c.sort_by_worker.ensures.permutation in
    let parts : ℕ = parts_of items in
    let start : ℕ = length g.L.Round.start.entries in
    let here : ℕ = length c.args.self.store.entries in
    let entries : c.self.inside.store.entries ≡ c.args.self.store.entries = ap (λ (b : LockedState). b.store.entries) c.self.view_is in
    let made : c.self.inside.sessions ≡ c.args.self.sessions = ap (λ (b : LockedState). b.sessions) c.self.view_is in
    let amount : c.audit.new.share.amount ≡ c.args.self.entered = c.audit.ensures.amount ∙ c.self.invariant.0.2.0 ∙ ap (λ (b : LockedState). b.entered) c.self.view_is in
    let rest : List SessionState = c.loop-session.session-iterator.rest.items in
    let done : rest ≡ [] = nil_from_length rest (sym c.loop-session.session-iterator.rest.ok.0 ∙ c.in-None.ensures.steps.0) in
    let all : c.loop-session.yielded ≡ sorted = sym (append-nil c.loop-session.yielded) ∙ (ap (λ (l : List SessionState). c.loop-session.yielded ++ l) (sym done) ∙ c.loop-session.invariant.left ∙ c.into_iter-session-iterator.ensures.into_iter_gives.0) in
    let parts_same : parts_of sorted ≡ parts = sum_by-IsPermutation (λ (s : SessionState). s.parts) items sorted moved_to in
    let handed_same : handed_of sorted ≡ handed_of items = sum_by-IsPermutation (λ (s : SessionState). s.handed) items sorted moved_to in
    let count_same : count_of sorted ≡ count_of items = sum_by-IsPermutation (λ (s : SessionState). length s.receipts) items sorted moved_to in
    let whole : c.loop-session.whole.parts ≡ c.audit.new.share.parts + parts =
    subst (λ (l : List SessionState). c.loop-session.whole.parts ≡ c.audit.new.share.parts + parts_of l) all c.loop-session.invariant.parts ∙ ap (λ (n : ℕ). c.audit.new.share.parts + n) parts_same in
    let had : c.loop-session.whole.amount ≡ c.audit.new.share.amount + handed_of items + count_of items =
    subst (λ (l : List SessionState). c.loop-session.whole.amount ≡ c.audit.new.share.amount + handed_of l + count_of l) all c.loop-session.invariant.amount ∙ (λ i. c.audit.new.share.amount + handed_same i + count_same i) in
    let none_out : g.L.Round.start.in_parts ≡ false → handed_of items ≡ 0 = λ is. sym handed_same ∙ ap handed_of (sym all) ∙ c.loop-session.invariant.none_handed is in
    let counted : here ≡ start + c.audit.new.self.total = sym (ap (λ (es : List Entry). length es) entries) ∙ c.self.invariant.0.0.counted ∙ ap (λ (n : ℕ). start + n) (sym c.audit.ensures.total) in
    let given = given_back c.self.inside.sessions c.audit.new.share.parts g.L.Ledger.parts c.loop-session.whole.parts parts (ap (λ (n : ℕ). c.self.inside.sessions + n) c.audit.ensures.parts ∙ c.self.invariant.0.0.cut) whole in
    let once = counted_once here start c.audit.new.self.total c.loop-session.whole.amount c.audit.new.share.amount c.args.self.entered (handed_of items) (count_of items) counted had amount in
    let least : start + c.args.self.entered + handed_of items + count_of items ≤ here = once.0 c.audit-2.ensures.bound in
    let out : c.start.result ≡ c.args.self.store.handed = c.start.ensures.start ∙ c.journal-journal.ensures.start ∙ ap (λ (b : LockedState). b.store.handed) c.self.view_is in
    let since : c.max-since.result ≡ held_from g.L.Round.start c.args.self.store = c.max-since.ensures ∙ (λ i. max (c.self.invariant.0.1 i) (out i)) in
    let entered : c.self.inside.entered ≡ c.args.self.entered = ap (λ (b : LockedState). b.entered) c.self.view_is in
    let within : start + c.args.self.entered ≤ here = entered_within here start c.audit.new.self.total c.audit.new.share.amount c.args.self.entered counted (subst (λ (n : ℕ). n ≤ c.audit.new.self.total) (sym c.audit.ensures.amount) (subst (λ (n : ℕ). c.self.inside.rest.amount ≤ n) (sym c.audit.ensures.total) c.audit.ensures.bound)) amount in
    let few : count_of c.as_slice.result.now ≤ c.entries_since-entries.result =
    subst (λ (n : ℕ). n ≤ c.entries_since-entries.result) (sym (ap count_of c.as_slice.ensures.value ∙ count_same))
    ((made_since c.entries_since-entries.result (length c.journal-journal.result.now.entries) here c.self.inside.start start c.self.inside.entered c.args.self.entered (count_of items) c.entries_since-entries.ensures (ap (λ (es : List Entry). length es) (c.journal-journal.ensures.entries ∙ entries)) c.self.invariant.0.1 entered within).1
    (fewer start c.args.self.entered (handed_of items) (count_of items) here least)) in
    let may : MayClose c.args.self.store.entries (held_from g.L.Round.start c.args.self.store) items =
    may_close_shuffled c.args.self.store.entries (held_from g.L.Round.start c.args.self.store) sorted items (IsPermutation-sym items sorted moved_to)
    (closes c.journal-journal.result.now.entries c.args.self.store.entries c.max-since.result (held_from g.L.Round.start c.args.self.store) c.as_slice.result.now sorted (c.journal-journal.ensures.entries ∙ entries) since c.as_slice.ensures.value
    (c.are_refused.ensures.closes c.if-are_refused.false few)) in
    let since_then : ℕ = held_from g.L.Round.start c.args.self.store in
    let grew : HasGrownBy g.L.Round.start c.args.self.store c.args.self.signed = subst (λ (b : LockedState). HasGrownBy g.L.Round.start b.store b.signed) c.self.view_is c.self.invariant.1.grown in
    let each : All (λ s. Sees c.args.self.signed (knowledge s) × HasMade s) sorted =
    subst (λ (b : LockedState). All (λ s. Sees b.signed (knowledge s) × HasMade s) sorted) c.self.view_is (subst (All (λ s. Sees c.self.inside.register.roll.signed (knowledge s) × HasMade s)) all c.loop-session.invariant.single) in
    let inside : c.args.self.store.handed ≤ here = subst (λ (b : LockedState). b.store.handed ≤ length b.store.entries) c.self.view_is c.journal-journal.ensures.within in
    let count : parts ≡ c.args.self.sessions → here ≡ start + c.args.self.entered + handed_of items + count_of items =
    λ as_many. once.1 (c.audit-2.ensures.whole (given.1 (as_many ∙ sym made))) in
    let own_count : c.args.self.entered ≡ 0 → parts ≡ c.args.self.sessions → here ≡ start + handed_of items + count_of items =
    λ none as_many. as_counted start c.args.self.entered (handed_of items) (count_of items) here (count as_many) none in
    let out_to : c.args.self.entered ≡ 0 → parts ≡ c.args.self.sessions → start + handed_of items ≡ since_then → AreSharedOut (drop since_then c.args.self.store.entries) items =
    λ none as_many gone. shared_out c.args.self.store.entries since_then items may (own_count none as_many ∙ ap (λ (n : ℕ). n + count_of items) gone) in
    let from_start : c.args.self.entered ≡ 0 → parts ≡ c.args.self.sessions → handed_of items ≡ 0 → since_then ≡ start =
    λ none as_many not_one.
    none_gone here start c.args.self.store.handed (handed_of items) (count_of items) since_then (own_count none as_many) (held_at_most c.args.self.store.entries since_then items may) not_one refl inside in
    record {
      ends = record {
        gone_on = subst (λ (b : LockedState). GoesOn g.L.Round.start b.store) c.self.view_is c.self.invariant.0.3;
        store = ap (λ (b : LockedState). b.store) c.self.view_is;
        matching = may;
        single = singles g.L.Round.start c.args.self.store c.args.self.signed sorted items grew (IsPermutation-sym items sorted moved_to) each;
        signed = record { grown = grew; sees = all_see c.args.self.signed sorted items (IsPermutation-sym items sorted moved_to) each };
        handed_back = tt;
      };
      adds_up = record {
        within = subst (λ (n : ℕ). parts ≤ n) made (given.0 c.loop-session.invariant.fits);
        least = least;
        count = count;
      };
      shared_out = λ none as_many. record {
        shared_out = out_to none as_many;
        none_handed = from_start none as_many;
        whole = λ is.
            let held = from_start none as_many (none_out is) in
            subst (λ (n : ℕ). AreSharedOut (drop n c.args.self.store.entries) items) held (out_to none as_many (gone_none start (handed_of items) since_then (none_out is) held));
      };
      mismatch = ((λ none. absurd (not_both false none refl)), (λ no. absurd (no may)));
      only = tt;
      counted = tt;
    }
