-- Each event that can be keeps the rule, and no event changes a place that a cell has.
use Rattle.std.proofs.Common.{◌≡◌, ◌≢◌, ℕ, zero, suc, ◌+◌, ◌-◌, ◌<◌, ◌≤◌, ◌==◌, ◌&&◌, ◌||◌, List, [], ◌∷◌, ◌++◌, length, get_or, set, slice_index_or, Bool, true, false, not, if◌then◌else◌, eqb-true, nat_lt, sym, refl, ap, ◌∙◌, subst, ⊎_elim, get_or-set_other, arith}
use Rattle.std.specs.List.{list_any}
use Rattle.std.proofs.lemmas.List.{set-get_or}
use Rattle.std.proofs.lemmas.Bool.{and_parts, cond_both, or_cases, or_left, or_right, ltb-true, eqb-false, false≢true, not-true}
use mathlib.Core.Option.{some, some-ne-none}
use lib.ListN.{get_elem?}
use Rattle.atomic_table.proofs.Lists.{set_else}
use Rattle.tg_word.specs.declared.Place.{Place}
use Rattle.tg_word.specs.declared.TheConstants.{SPACES}
use Rattle.tg_word.specs.Word.{IsPlace}
use Rattle.tg_race.specs.Words.{place_word, place_of}
use Rattle.tg_race.specs.declared.record.Counts.{Counts}
use Rattle.tg_race.specs.declared.record.Record.{Record}
use Rattle.tg_race.specs.declared.event.Event.{Event}
use Rattle.tg_race.specs.declared.event.Event.TheVariants.{Claim, Look, Win, Lose, Block, Part, Meet}
use Rattle.tg_race.specs.Race.{Race, empty, past, with_chunk, with_seen, with_won, with_claimed_block, both, less_one}
use Rattle.tg_race.specs.Conditions.{can_use}
use Rattle.tg_race.specs.Course.{Net, Course, counts_of, chunk_has, pair_has, is_target, record_at, forwarding_word, is_within, can_win, can, can_happen, race_after, happens, course_after, starting, IsEarned, HasEarnedWins, IsHeldNet, KeepsRule}
use Rattle.tg_race.proofs.Parts.{Parts, rule_of, parts_of}
use Rattle.tg_race.proofs.Needs.{none_past, none_open_aged, none_open_old, usable, parted}
use Rattle.tg_race.proofs.Steps.{claim_keeps, claim_aged_keeps, claim_old_keeps, win_keeps, look_keeps, split_keeps, join_keeps, starts, each_push, each_set}

-- `more` has all that `less` has
abbrev pub Within : {A : Type 0} → List A → List A → Type 0
Within {A} less more = (p : A → Bool) → list_any p less ≡ true → list_any p more ≡ true

pub within_same : {A : Type 0} (l : List A) → Within l l
within_same l p h = h

pub within_cons : {A : Type 0} (x : A) (l m : List A) → Within l m → Within (x ∷ l) (x ∷ m)
within_cons x l m w p h = go (p x) h
  where
    go : (b : Bool) → (b || list_any p l) ≡ true → (b || list_any p m) ≡ true
    go true h = refl
    go false h = w p h

pub within_left : {A : Type 0} (l m : List A) → Within l (l ++ m)
within_left [] m p h = absurd (false≢true h)
within_left (x ∷ l) m p h = within_cons x l (l ++ m) (within_left l m) p h

pub within_right : {A : Type 0} (l m : List A) → Within m (l ++ m)
within_right [] m p h = h
within_right (x ∷ l) m p h = or_right (p x) (list_any p (l ++ m)) (within_right l m p h)

pub within_nil : {A : Type 0} (m : List A) → Within [] m
within_nil m p h = absurd (false≢true h)

target_more : (net : Net) (cs cs' : List ℕ) (won won' : List (ℕ × Place)) → Within cs cs' → Within won won' → (cell : ℕ) → is_target net cs won cell ≡ true → is_target net cs' won' cell ≡ true
target_more net cs cs' won won' c w cell h =
    ⊎_elim (λ a. or_left (list_any (chunk_has net cell) cs') (list_any (pair_has net cell) won') (c (chunk_has net cell) a))
    (λ b. or_right (list_any (chunk_has net cell) cs') (list_any (pair_has net cell) won') (w (pair_has net cell) b))
    (or_cases (list_any (chunk_has net cell) cs) (list_any (pair_has net cell) won) h)

pub earned_more : (net : Net) (cs cs' : List ℕ) (done done' : List (ℕ × Place)) → Within cs cs' → Within done done' → (qs : List (ℕ × Place)) → IsEarned net cs done qs → IsEarned net cs' done' qs
earned_more net cs cs' done done' c d [] h = tt
earned_more net cs cs' done done' c d (q ∷ qs) h =
    (target_more net cs cs' done done' c d q.0 h.0, earned_more net cs cs' (q ∷ done) (q ∷ done') c (within_cons q done done' d) qs h.1)

-- l has no more than the pairs won before and these
pub earned_push : (net : Net) (cs : List ℕ) (l done qs : List (ℕ × Place)) (x : ℕ × Place) → ((p : ℕ × Place → Bool) → list_any p l ≡ true → (list_any p done || list_any p qs) ≡ true)
    → IsEarned net cs done qs → is_target net cs l x.0 ≡ true → IsEarned net cs done (qs ++ x ∷ [])
earned_push net cs l done [] x most h new =
    (target_more net cs cs l done (within_same cs) (λ p e. ⊎_elim (λ a. a) (λ b. absurd (false≢true b)) (or_cases (list_any p done) false (most p e))) x.0 new, tt)
earned_push net cs l done (q ∷ qs) x most h new =
    (h.0, earned_push net cs l (q ∷ done) qs x (λ p e. go (p q) (list_any p done) (list_any p qs) (most p e)) h.1 new)
  where
    go : (a b c : Bool) → (b || (a || c)) ≡ true → ((a || b) || c) ≡ true
    go true b c h = refl
    go false b c h = h

pub earned_append : (net : Net) (cs : List ℕ) (done xs ys : List (ℕ × Place)) → IsEarned net cs done xs → IsEarned net cs [] ys → IsEarned net cs done (xs ++ ys)
earned_append net cs done [] ys h g = earned_more net cs cs [] done (within_same cs) (within_nil done) ys g
earned_append net cs done (x ∷ xs) ys h g = (h.0, earned_append net cs (x ∷ done) xs ys h.1 g)

-- the wins of two records that become one
pub earned_both : (net : Net) (v w : Record) → HasEarnedWins net v → HasEarnedWins net w → HasEarnedWins net (both v w)
earned_both net v w mine theirs =
    earned_append net (v.chunks ++ w.chunks) [] v.won w.won
    (earned_more net v.chunks (v.chunks ++ w.chunks) [] [] (within_left v.chunks w.chunks) (within_nil []) v.won mine)
    (earned_more net w.chunks (v.chunks ++ w.chunks) [] [] (within_right v.chunks w.chunks) (within_nil []) w.won theirs)

-- a record that is there
at_live : (l : List Record) (i : ℕ) → 0 < (slice_index_or l i (empty 0)).share → get_elem? l i ≡ some (slice_index_or l i (empty 0))
at_live [] i h = absurd (omega arith)
at_live (v ∷ l) zero h = refl
at_live (v ∷ l) (suc i) h = at_live l i h

-- what the condition of a win says
record CanWin (net : Net) (r : Race) (v : Record) (cell : ℕ) (place : Place) : Type 0 where
  pub inside : cell < length net.targets
  pub free : forwarding_word r cell ≡ 0
  pub earned : is_target net v.chunks v.won cell ≡ true
  pub range : IsPlace place
  pub mine : can_use v place ≡ true

within_range : (net : Net) (p : Place) → is_within net p ≡ true → IsPlace p
within_range net p h =
    let a = and_parts _ _ h in let b = and_parts _ _ a.0 in let d = and_parts _ _ b.0 in
    record { space = ltb-true p.space SPACES d.0; block = ltb-true p.block 1048576 d.1; cell = ltb-true p.cell 64 b.1 }

win_parts : (net : Net) (r : Race) (v : Record) (cell : ℕ) (place : Place) → can_win net r v cell place ≡ true → CanWin net r v cell place
win_parts net r v cell place h =
    let a = and_parts _ _ h in let b = and_parts _ _ a.0 in let d = and_parts _ _ b.0 in let e = and_parts _ _ d.0 in record {
      inside = ltb-true cell (length net.targets) e.0;
      free = eqb-true (forwarding_word r cell) 0 e.1;
      earned = d.1;
      range = within_range net place b.1;
      mine = a.1;
    }

module _ (c : Course) (helper : ℕ) (kept : KeepsRule c) (alive : 0 < (record_at c.race helper).share) where
  abbrev k : Counts
  k = counts_of c.net

  abbrev r : Race
  r = c.race

  abbrev v : Record
  v = record_at c.race helper

  whole : Parts k r
  whole = parts_of k r kept.rule

  here : get_elem? r.records helper ≡ some v
  here = at_live r.records helper alive

  mine : HasEarnedWins c.net v
  mine = kept.wins_earned helper v here

  claims : past k v ≡ 0 → KeepsRule (happens c helper Claim)
  claims none = record {
    rule = rule_of _ _ (claim_keeps k r helper v whole here none alive);
    wins_earned = each_set (HasEarnedWins c.net) r.records helper (with_chunk v r.next_chunk)
        (earned_more c.net v.chunks (v.chunks ++ r.next_chunk ∷ []) [] [] (within_left v.chunks (r.next_chunk ∷ [])) (within_nil []) v.won mine) kept.wins_earned;
  }

  sees : (cell : ℕ) → cell < k.cells → forwarding_word r cell ≢ 0 → KeepsRule (record c { race = record r { records = set r.records helper (with_seen v (cell, place_of (forwarding_word r cell))) } })
  sees cell inside some_ =
      let near : cell < length r.words = omega (arith, whole.size) in
      let forward = whole.forward cell 0 near some_ in record {
        rule = rule_of _ _ (look_keeps k r helper v cell (place_of (forwarding_word r cell)) whole here alive (sym forward.1));
        wins_earned = each_set (HasEarnedWins c.net) r.records helper (with_seen v (cell, place_of (forwarding_word r cell))) mine kept.wins_earned;
      }

  wins : (cell : ℕ) (place : Place) → can_win c.net r v cell place ≡ true → KeepsRule (happens c helper (Win cell place))
  wins cell place h =
      let a = win_parts c.net r v cell place h in
      let usage = usable v place a.mine in record {
        rule = rule_of _ _ (win_keeps k r helper v cell place whole here alive a.inside a.free a.range usage.0 usage.1);
        wins_earned = each_set (HasEarnedWins c.net) r.records helper (with_won v (cell, place)) (earned_push c.net v.chunks v.won [] v.won (cell, place) (λ p x. x) mine a.earned) kept.wins_earned;
      }

  blocks : (aged : Bool) → can c.net r helper v (Block aged) ≡ true → KeepsRule (happens c helper (Block aged))
  blocks true h = let a = and_parts _ _ h in record {
    rule = rule_of _ _ (claim_aged_keeps k r helper v whole here (none_open_aged v a.0) alive);
    wins_earned = each_set (HasEarnedWins c.net) r.records helper (with_claimed_block true v r.next_aged) mine kept.wins_earned;
  }
  blocks false h = let a = and_parts _ _ h in record {
    rule = rule_of _ _ (claim_old_keeps k r helper v whole here (none_open_old v a.0) alive);
    wins_earned = each_set (HasEarnedWins c.net) r.records helper (with_claimed_block false v r.next_old) mine kept.wins_earned;
  }

  parts : can c.net r helper v Part ≡ true → KeepsRule (happens c helper Part)
  parts h =
      let a = parted v h in
      let n : ℕ = v.share - 1 in
      let many = a.0 in
      let more : v ≡ empty (n + 1) = a.1 ∙ ap empty (let e : v.share ≡ n + 1 = omega arith in e) in
      let less : less_one v ≡ empty n = ap less_one more ∙ ap empty (let e : n + 1 - 1 ≡ n = omega arith in e) in
      let next : KeepsRule (record c { race = record r { records = set r.records helper (empty n) ++ empty 1 ∷ [] } }) = record {
        rule = rule_of _ _ (split_keeps k r helper n whole (here ∙ ap (λ (w : Record). some w) more) (omega arith));
        wins_earned = each_push (HasEarnedWins c.net) (set r.records helper (empty n)) (empty 1) tt (each_set (HasEarnedWins c.net) r.records helper (empty n) tt kept.wins_earned);
      } in
      subst (λ (w : Record). KeepsRule (record c { race = record r { records = set r.records helper w ++ empty 1 ∷ [] } })) (sym less) next

  meets : (other : ℕ) → can c.net r helper v (Meet other) ≡ true → KeepsRule (happens c helper (Meet other))
  meets other h =
      let a = and_parts (not (other == helper)) (nat_lt 0 (record_at r other).share) h in
      let apart = eqb-false other helper (not-true (other == helper) a.0) in
      let w : Record = record_at r other in
      let there : get_elem? r.records other ≡ some w = at_live r.records other (ltb-true 0 w.share a.1) in
      let theirs = kept.wins_earned other w there in record {
        rule = rule_of _ _ (join_keeps k r helper v other w whole here apart (set_else r.records helper other (both v w) apart ∙ there));
        wins_earned = each_set (HasEarnedWins c.net) (set r.records helper (both v w)) other (empty 0) tt
            (each_set (HasEarnedWins c.net) r.records helper (both v w) (earned_both c.net v w mine theirs) kept.wins_earned);
      }

  event_keeps : (e : Event) → can c.net r helper v e ≡ true → KeepsRule (happens c helper e)
  event_keeps Claim h = claims (none_past k v h)
  event_keeps (Look cell) h =
      cond_both (forwarding_word r cell == 0) r (race_after r helper v (Lose cell)) (λ x. KeepsRule (record c { race = x })) (λ _. kept) (λ e. sees cell (ltb-true cell (length c.net.targets) h) (eqb-false (forwarding_word r cell) 0 e))
  event_keeps (Win cell place) h = wins cell place h
  event_keeps (Lose cell) h = let a = and_parts (nat_lt cell (length c.net.targets)) (not (forwarding_word r cell == 0)) h in
      sees cell (ltb-true cell (length c.net.targets) a.0) (eqb-false (forwarding_word r cell) 0 (not-true (forwarding_word r cell == 0) a.1))
  event_keeps (Block aged) h = blocks aged h
  event_keeps Part h = parts h
  event_keeps (Meet other) h = meets other h

pub keeps : (c : Course) (helper : ℕ) (e : Event) → KeepsRule c → can_happen c helper e ≡ true → KeepsRule (happens c helper e)
keeps c helper e kept h =
    let a = and_parts (nat_lt 0 (record_at c.race helper).share) (can c.net c.race helper (record_at c.race helper) e) h in
    event_keeps c helper kept (ltb-true 0 (record_at c.race helper).share a.0) e a.1

pub start_kept : (net : Net) → KeepsRule (starting net)
start_kept net = record {
  rule = rule_of _ _ (starts (counts_of net));
  wins_earned = each_push (HasEarnedWins net) [] (empty net.helpers) tt (λ j u none. absurd (some-ne-none u (sym none)));
}

-- no event changes a place that a cell has
pub places_stay : (c : Course) (helper : ℕ) (e : Event) → can_happen c helper e ≡ true → (cell : ℕ) → forwarding_word c.race cell ≢ 0 → forwarding_word (happens c helper e).race cell ≡ forwarding_word c.race cell
places_stay c helper (Look at) h cell some_ =
    cond_both (forwarding_word c.race at == 0) c.race (race_after c.race helper (record_at c.race helper) (Lose at)) (λ r. forwarding_word r cell ≡ forwarding_word c.race cell) (λ _. refl) (λ _. refl)
places_stay c helper (Win at place) h cell some_ =
    let a = and_parts (nat_lt 0 (record_at c.race helper).share) (can_win c.net c.race (record_at c.race helper) at place) h in
    let free = (win_parts c.net c.race (record_at c.race helper) at place a.1).free in
    let ne : cell ≢ at = (λ e. some_ (ap (λ (i : ℕ). forwarding_word c.race i) e ∙ free)) in
    get_or-set_other c.race.words at cell (place_word place) 0 ne
places_stay c helper (Block true) h cell some_ = refl
places_stay c helper e h cell some_ = refl

-- the course race_after one event of a list
abbrev next : Course → ℕ → Event → Course
next c helper e = if can_happen c helper e then happens c helper e else c

next_keeps : (c : Course) (helper : ℕ) (e : Event) → KeepsRule c → KeepsRule (next c helper e)
next_keeps c helper e kept = cond_both (can_happen c helper e) (happens c helper e) c KeepsRule (keeps c helper e kept) (λ _. kept)

next_stays : (c : Course) (helper : ℕ) (e : Event) (cell : ℕ) → forwarding_word c.race cell ≢ 0 → forwarding_word (next c helper e).race cell ≡ forwarding_word c.race cell
next_stays c helper e cell taken =
    cond_both (can_happen c helper e) (happens c helper e) c (λ x. forwarding_word x.race cell ≡ forwarding_word c.race cell) (λ h. places_stay c helper e h cell taken) (λ _. refl)

-- race_after a list of events
pub events_keep : (c : Course) (events : List (ℕ × Event)) → KeepsRule c → KeepsRule (course_after c events)
events_keep c [] kept = kept
events_keep c (e ∷ es) kept = events_keep (next c e.0 e.1) es (next_keeps c e.0 e.1 kept)

pub events_stay : (c : Course) (events : List (ℕ × Event)) (cell : ℕ) → forwarding_word c.race cell ≢ 0 → forwarding_word (course_after c events).race cell ≡ forwarding_word c.race cell
events_stay c [] cell taken = refl
events_stay c (e ∷ es) cell taken =
    let one = next_stays c e.0 e.1 cell taken in
    events_stay (next c e.0 e.1) es cell (λ none. taken (sym one ∙ none)) ∙ one

-- the record of a live helper, as the code reads it
pub same_record : (l : List Record) (i : ℕ) (v : Record) → 0 < (slice_index_or l i (empty 0)).share → v ≡ get_or l i v → v ≡ slice_index_or l i (empty 0)
same_record [] i v h e = absurd (omega arith)
same_record (x ∷ l) zero v h e = e
same_record (x ∷ l) (suc i) v h e = same_record l i v h e

pub is_alive : (c : Course) (helper : ℕ) (e : Event) → can_happen c helper e ≡ true → 0 < (record_at c.race helper).share
is_alive c helper e h = ltb-true 0 (record_at c.race helper).share (and_parts (nat_lt 0 (record_at c.race helper).share) (can c.net c.race helper (record_at c.race helper) e) h).0

-- where the code reads the record of a live helper, or the word of a cell
live_inside : (l : List Record) (i : ℕ) → 0 < (slice_index_or l i (empty 0)).share → i < length l
live_inside [] i h = absurd (omega arith)
live_inside (x ∷ l) zero h = omega arith
live_inside (x ∷ l) (suc i) h = let below = live_inside l i h in omega arith

pub record_inside : (c0 c : Course) (i n : ℕ) → c0 ≡ c → n ≡ length c0.race.records → 0 < (record_at c.race i).share → i < n
record_inside c0 c i n same is alive =
    let below = live_inside c.race.records i alive in
    let long = ap (λ (x : Course). length x.race.records) same in
    omega arith

pub helper_inside : (c0 c : Course) (helper : ℕ) (e : Event) (n : ℕ) → c0 ≡ c → n ≡ length c0.race.records → can_happen c helper e ≡ true → helper < n
helper_inside c0 c helper e n same is h = record_inside c0 c helper n same is (is_alive c helper e h)

pub cell_inside : (c0 c : Course) (cell n : ℕ) → c0 ≡ c → n ≡ length c0.race.words → KeepsRule c0 → cell < length c.net.targets → cell < n
cell_inside c0 c cell n same is kept inside =
    let size = kept.rule.size in
    let long = ap (λ (x : Course). length x.net.targets) same in
    omega arith

pub wins_inside : (c : Course) (helper cell : ℕ) (place : Place) → can_happen c helper (Win cell place) ≡ true → cell < length c.net.targets
wins_inside c helper cell place h =
    let v : Record = record_at c.race helper in
    (win_parts c.net c.race v cell place (and_parts (nat_lt 0 v.share) (can_win c.net c.race v cell place) h).1).inside

pub wins_in_range : (c : Course) (helper cell : ℕ) (place : Place) → can_happen c helper (Win cell place) ≡ true → IsPlace place
wins_in_range c helper cell place h =
    let v : Record = record_at c.race helper in
    (win_parts c.net c.race v cell place (and_parts (nat_lt 0 v.share) (can_win c.net c.race v cell place) h).1).range

pub loses_inside : (c : Course) (helper cell : ℕ) → can_happen c helper (Lose cell) ≡ true → cell < length c.net.targets
loses_inside c helper cell h =
    let a = and_parts (nat_lt 0 (record_at c.race helper).share) (nat_lt cell (length c.net.targets) && not (forwarding_word c.race cell == 0)) h in
    ltb-true cell (length c.net.targets) (and_parts (nat_lt cell (length c.net.targets)) (not (forwarding_word c.race cell == 0)) a.1).0

-- a course with the records that it had, and one in which a record was put back as it was
pub same_records : (c : Course) (l : List Record) → l ≡ c.race.records → record c { race = record c.race { records = l } } ≡ c
same_records c l is = ap (λ (m : List Record). record c { race = record c.race { records = m } }) is

pub put_back : (c : Course) (helper : ℕ) (v w : Record) → v ≡ get_or c.race.records helper v → w ≡ v → record c { race = record c.race { records = set c.race.records helper w } } ≡ c
put_back c helper v w here is =
    same_records c _ (ap (λ (x : Record). set c.race.records helper x) (is ∙ here) ∙ set-get_or c.race.records helper v)

-- d, which the code makes of c0, is what an event makes of c, where c0 is c
pub kept_after : (c0 c d : Course) (helper : ℕ) (e : Event) → c0 ≡ c → KeepsRule c0 → can_happen c helper e ≡ true → d ≡ happens c helper e → KeepsRule d
kept_after c0 c d helper e same kept h is = subst KeepsRule (sym is) (keeps c helper e (subst KeepsRule same kept) h)

-- the record of a live helper, where the code's course c0 is c
live_record : (c0 c : Course) (helper : ℕ) (e : Event) (v : Record) → c0 ≡ c → can_happen c helper e ≡ true → v ≡ get_or c0.race.records helper v → v ≡ record_at c0.race helper
live_record c0 c helper e v same h here = same_record c0.race.records helper v (is_alive c0 helper e (ap (λ (x : Course). can_happen x helper e) same ∙ h)) here

pub live_share : (c0 c : Course) (helper : ℕ) (e : Event) (v : Record) → c0 ≡ c → can_happen c helper e ≡ true → v ≡ get_or c0.race.records helper v → 1 ≤ v.share
live_share c0 c helper e v same h here =
    let alive = is_alive c0 helper e (ap (λ (x : Course). can_happen x helper e) same ∙ h) in
    let share = ap (λ (w : Record). w.share) (live_record c0 c helper e v same h here) in
    omega arith

-- a push that was refused leaves the course as it was
pub kept_back : (c0 c : Course) (helper : ℕ) (v w : Record) → c0 ≡ c → v ≡ get_or c0.race.records helper v → w ≡ v → IsHeldNet c0.net × KeepsRule c0
    → IsHeldNet c0.net × KeepsRule (record c0 { race = record c0.race { records = set c0.race.records helper w } })
kept_back c0 c helper v w same here is kept = (kept.0, subst KeepsRule (sym (put_back c0 helper v w here is)) kept.1)

-- and a push that was done, as the event says
pub kept_on : (c0 c d : Course) (helper : ℕ) (e : Event) → c0 ≡ c → IsHeldNet c0.net × KeepsRule c0 → can_happen c helper e ≡ true → d ≡ happens c helper e → IsHeldNet c0.net × KeepsRule d
kept_on c0 c d helper e same kept h is = (kept.0, kept_after c0 c d helper e same kept.1 h is)

-- where the code made of the helper's record what the event makes of it, it made the event's course
made_is : (c0 c : Course) (helper : ℕ) (e : Event) (v w : Record) (of : Record → Record) (to : Record → Course) → c0 ≡ c → can_happen c helper e ≡ true → v ≡ get_or c0.race.records helper v
    → w ≡ of v → to (of (record_at c0.race helper)) ≡ happens c0 helper e → to w ≡ happens c helper e
made_is c0 c helper e v w of to same h here is event =
    ap to (is ∙ ap of (live_record c0 c helper e v same h here)) ∙ (event ∙ ap (λ (x : Course). happens x helper e) same)

-- each event, by what the code makes of the record
pub claim_is : (c0 c : Course) (helper : ℕ) (v : Record) (chunks : List ℕ) → c0 ≡ c → can_happen c helper Claim ≡ true → v ≡ get_or c0.race.records helper v → chunks ≡ v.chunks ++ c0.race.next_chunk ∷ []
    → record c0 { race = record c0.race { next_chunk = c0.race.next_chunk + 1; records = set c0.race.records helper (record v { chunks = chunks }) } } ≡ happens c helper Claim
claim_is c0 c helper v chunks same h here is =
    made_is c0 c helper Claim v (record v { chunks = chunks }) (λ w. with_chunk w c0.race.next_chunk) (λ w. record c0 { race = record c0.race { next_chunk = c0.race.next_chunk + 1; records = set c0.race.records helper w } }) same h here
    (ap (λ (l : List ℕ). record v { chunks = l }) is) refl

pub lose_is : (c0 c : Course) (helper cell : ℕ) (v : Record) (seen : List (ℕ × Place)) → c0 ≡ c → can_happen c helper (Lose cell) ≡ true → v ≡ get_or c0.race.records helper v
    → seen ≡ v.seen ++ (cell, place_of (forwarding_word c0.race cell)) ∷ []
    → record c0 { race = record c0.race { records = set c0.race.records helper (record v { seen = seen }) } } ≡ happens c helper (Lose cell)
lose_is c0 c helper cell v seen same h here is =
    made_is c0 c helper (Lose cell) v (record v { seen = seen }) (λ w. with_seen w (cell, place_of (forwarding_word c0.race cell))) (λ w. record c0 { race = record c0.race { records = set c0.race.records helper w } }) same h here
    (ap (λ (l : List (ℕ × Place)). record v { seen = l }) is) refl

pub win_is : (c0 c : Course) (helper cell : ℕ) (place : Place) (word : ℕ) (v : Record) (won : List (ℕ × Place)) → c0 ≡ c → can_happen c helper (Win cell place) ≡ true → word ≡ place_word place → v ≡ get_or c0.race.records helper v
    → won ≡ v.won ++ (cell, place) ∷ []
    → record c0 { race = record c0.race { words = set c0.race.words cell word; records = set c0.race.records helper (record v { won = won }) } } ≡ happens c helper (Win cell place)
win_is c0 c helper cell place word v won same h word_is here is =
    ap (λ (n : ℕ). record c0 { race = record c0.race { words = set c0.race.words cell n; records = set c0.race.records helper (record v { won = won }) } }) word_is
    ∙ made_is c0 c helper (Win cell place) v (record v { won = won }) (λ w. with_won w (cell, place)) (λ w. record c0 { race = record c0.race { words = set c0.race.words cell (place_word place); records = set c0.race.records helper w } }) same h here
    (ap (λ (l : List (ℕ × Place)). record v { won = l }) is) refl

pub claim_aged_is : (c0 c : Course) (helper : ℕ) (v : Record) (aged : List ℕ) → c0 ≡ c → can_happen c helper (Block true) ≡ true → v ≡ get_or c0.race.records helper v → aged ≡ v.aged_blocks ++ c0.race.next_aged ∷ []
    → record c0 { race = record c0.race { next_aged = c0.race.next_aged + 1; records = set c0.race.records helper (record v { aged_blocks = aged }) } } ≡ happens c helper (Block true)
claim_aged_is c0 c helper v aged same h here is =
    made_is c0 c helper (Block true) v (record v { aged_blocks = aged }) (λ w. with_claimed_block true w c0.race.next_aged) (λ w. record c0 { race = record c0.race { next_aged = c0.race.next_aged + 1; records = set c0.race.records helper w } }) same h here
    (ap (λ (l : List ℕ). record v { aged_blocks = l }) is) refl

pub claim_old_is : (c0 c : Course) (helper : ℕ) (v : Record) (old : List ℕ) → c0 ≡ c → can_happen c helper (Block false) ≡ true → v ≡ get_or c0.race.records helper v → old ≡ v.old_blocks ++ c0.race.next_old ∷ []
    → record c0 { race = record c0.race { next_old = c0.race.next_old + 1; records = set c0.race.records helper (record v { old_blocks = old }) } } ≡ happens c helper (Block false)
claim_old_is c0 c helper v old same h here is =
    made_is c0 c helper (Block false) v (record v { old_blocks = old }) (λ w. with_claimed_block false w c0.race.next_old) (λ w. record c0 { race = record c0.race { next_old = c0.race.next_old + 1; records = set c0.race.records helper w } }) same h here
    (ap (λ (l : List ℕ). record v { old_blocks = l }) is) refl

pub part_is : (c0 c : Course) (helper : ℕ) (v : Record) (l : List Record) → c0 ≡ c → can_happen c helper Part ≡ true → v ≡ get_or c0.race.records helper v → l ≡ set c0.race.records helper (less_one v) ++ empty 1 ∷ []
    → record c0 { race = record c0.race { records = l } } ≡ happens c helper Part
part_is c0 c helper v l same h here is =
    let e : l ≡ set c0.race.records helper (less_one (record_at c0.race helper)) ++ empty 1 ∷ [] =
    is ∙ ap (λ (w : Record). set c0.race.records helper (less_one w) ++ empty 1 ∷ []) (live_record c0 c helper Part v same h here) in
    ap (λ (m : List Record). record c0 { race = record c0.race { records = m } }) e ∙ ap (λ (x : Course). happens x helper Part) same

set_swap : (l : List Record) (i j : ℕ) (a b : Record) → j ≢ i → set (set l j b) i a ≡ set (set l i a) j b
set_swap (x ∷ l) zero zero a b ne = absurd (ne refl)
set_swap (x ∷ l) (suc i) (suc j) a b ne = λ k. x ∷ set_swap l i j a b (λ e. ne (ap suc e)) k
set_swap l i j a b ne = refl

pub met_apart : (c : Course) (helper other : ℕ) → can_happen c helper (Meet other) ≡ true → other ≢ helper
met_apart c helper other h =
    let a = and_parts (nat_lt 0 (record_at c.race helper).share) (not (other == helper) && nat_lt 0 (record_at c.race other).share) h in
    eqb-false other helper (not-true (other == helper) (and_parts (not (other == helper)) (nat_lt 0 (record_at c.race other).share) a.1).0)

pub met_alive : (c : Course) (helper other : ℕ) → can_happen c helper (Meet other) ≡ true → 0 < (record_at c.race other).share
met_alive c helper other h =
    let a = and_parts (nat_lt 0 (record_at c.race helper).share) (not (other == helper) && nat_lt 0 (record_at c.race other).share) h in
    ltb-true 0 (record_at c.race other).share (and_parts (not (other == helper)) (nat_lt 0 (record_at c.race other).share) a.1).1

-- the two records, as the code reads them
pub met_mine : (c : Course) (helper other : ℕ) (v u : Record) → can_happen c helper (Meet other) ≡ true → v ≡ get_or (set c.race.records other u) helper v → v ≡ record_at c.race helper
met_mine c helper other v u h here =
    same_record c.race.records helper v (is_alive c helper (Meet other) h) (here ∙ get_or-set_other c.race.records other helper u v (λ e. met_apart c helper other h (sym e)))

pub met_theirs : (c : Course) (helper other : ℕ) (w : Record) → can_happen c helper (Meet other) ≡ true → w ≡ get_or c.race.records other w → w ≡ record_at c.race other
met_theirs c helper other w h here = same_record c.race.records other w (met_alive c helper other h) here

pub met_records : (c : Course) (helper other : ℕ) (v w u x : Record) → can_happen c helper (Meet other) ≡ true → v ≡ record_at c.race helper → w ≡ record_at c.race other → u ≡ empty 0 → x ≡ both v w
    → set (set c.race.records other u) helper x ≡ (happens c helper (Meet other)).race.records
met_records c helper other v w u x h mine theirs spent is =
    ap (λ (y : Record). set (set c.race.records other y) helper x) spent
    ∙ (ap (λ (y : Record). set (set c.race.records other (empty 0)) helper y) (is ∙ (ap (λ (y : Record). both y w) mine ∙ ap (λ (y : Record). both (record_at c.race helper) y) theirs))
    ∙ set_swap c.race.records helper other (both (record_at c.race helper) (record_at c.race other)) (empty 0) (met_apart c helper other h))

-- the course race_after a meeting, where the code's course c0 is c
pub met_course : (c0 c : Course) (helper other : ℕ) (v w u x : Record) → c0 ≡ c → can_happen c helper (Meet other) ≡ true → v ≡ record_at c.race helper → w ≡ record_at c.race other → u ≡ empty 0 → x ≡ both v w
    → record c0 { race = record c0.race { records = set (set c0.race.records other u) helper x } } ≡ happens c helper (Meet other)
met_course c0 c helper other v w u x same h mine theirs spent is =
    ap (λ (y : Course). record y { race = record y.race { records = set (set y.race.records other u) helper x } }) same
    ∙ ap (λ (l : List Record). record c { race = record c.race { records = l } }) (met_records c helper other v w u x h mine theirs spent is)
