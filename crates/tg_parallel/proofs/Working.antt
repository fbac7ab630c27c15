-- The work of a helper, chunk by chunk: what was won is earned, and what was met grows.
use Rattle.std.proofs.Common.{◌-◌, drop, ◌≡◌, ℕ, ◌+◌, ◌*◌, ◌/◌, ◌<◌, ◌≤◌, ◌++◌, if◌then◌else◌, List, [], ◌∷◌, true, false, length, take, refl, sym, ap, subst, ◌∙◌, arith, Result, Ok, Err, IsErrAnd}
use Rattle.std.specs.Int.{div_ceil}
use Rattle.std.specs.Result.{OnOk}
use Rattle.std.specs.List.{All, Contains}
use Rattle.std.proofs.lemmas.Bool.Decides.{nat_tests}
use Rattle.std.proofs.lemmas.Grind.{div_ceil_times, flat_map-append}
use Rattle.std.proofs.lemmas.List.{append-nil, drop_all, length-map}
use Rattle.std.proofs.lemmas.List.Elements.{All-append, All-contains, All-nil, All-push, Contains-append_left, Contains-push}
use Rattle.tg_space.specs.SpaceList.{SpaceList}
use Rattle.tg_space.specs.Targets.{from_space, all_root_targets, root_targets_of}
use Rattle.tg_space.specs.declared.kind.Kind.{Kind}
use Rattle.tg_space.specs.declared.root.Root.{Root}
use Rattle.tg_race.specs.declared.record.Record.{Record}
use Rattle.tg_race.specs.Conditions.{can_claim_roots}
use Rattle.tg_race.specs.Race.{chunks_of, empty, is_chunk, past, with_chunk}
use Rattle.tg_race.specs.Seats.{Board}
use Rattle.tg_race.proofs.Sums.{weigh_push}
use Rattle.tg_evac.specs.declared.copies.Copies.{Copies}
use Rattle.tg_space.specs.declared.room_fault.RoomFault.{RoomFault}
use Rattle.tg_space.specs.declared.room_fault.RoomFault.TheVariants.{HeapFull}
use Rattle.tg_evac.specs.Claims.{AreTraced}
use Rattle.tg_evac.specs.Claimers.{AreScanned, KeepsWins}
use Rattle.tg_evac.proofs.Pieces.{none_scanned}
use Rattle.tg_evac.proofs.Walking.{still_met}
use Rattle.tg_parallel.specs.Parts.{AreCountsOf, AreEarned, HasClaimedPast, HasPlaces, cells_met, roots_in, roots_of_chunk, win_of, wins_of}
use Rattle.tg_parallel.specs.Seats.{HasCopied, HasDrawn, HasWorkedAll, IsSameSeat, Sitting, walked_at}
use Rattle.tg_parallel.proofs.Filled.{all_of}
use Rattle.tg_parallel.proofs.Lists.{flat_has}
use Rattle.tg_parallel.proofs.Traces.{traced_wider}

roots_more : (roots : List Root) (before : List ℕ) (c : ℕ) → roots_in roots (before ++ c ∷ []) ≡ roots_in roots before ++ roots_of_chunk roots c
roots_more roots before c = flat_map-append (roots_of_chunk roots) before (c ∷ []) ∙ ap (λ (l : List Root). roots_in roots before ++ l) (append-nil (roots_of_chunk roots c))

-- ---- one chunk

module _ (kind : Kind) (h : SpaceList) (roots : List Root) (before : List ℕ) (chunk : ℕ) (s : Sitting) (drawn : HasDrawn before chunk s) (slice : List Root) (is : slice ≡ roots_of_chunk roots chunk) where
  pub in_chunk : (r : Root) → Contains slice r → Contains (roots_in roots s.done.chunks) r
  in_chunk r held =
      let here : Contains s.done.chunks chunk = subst (λ (l : List ℕ). Contains l chunk) (sym drawn.is) (Contains-push before chunk) in
      flat_has (roots_of_chunk roots) s.done.chunks chunk r here (subst (λ (l : List Root). Contains l r) is held)

  module _ (same_kind : s.kind ≡ kind) (t : Sitting) (keeps : KeepsWins (walked_at s) (walked_at t)) where
    chunks_now : t.done.chunks ≡ s.done.chunks
    chunks_now = λ i. (keeps.same_fixed i).1

    pub earned_walk : ((all : List Root) → ((r : Root) → Contains slice r → Contains all r) → AreTraced s.kind h all (wins_of s.done.won) → AreTraced s.kind h all (wins_of t.done.won)) → AreEarned kind h roots s.done → AreEarned kind h roots t.done
    earned_walk traced earned = subst (λ (cs : List ℕ). AreTraced kind h (roots_in roots cs) (wins_of t.done.won)) (sym chunks_now)
        (subst (λ (k : Kind). AreTraced k h (roots_in roots s.done.chunks) (wins_of s.done.won) → AreTraced k h (roots_in roots s.done.chunks) (wins_of t.done.won)) same_kind (traced (roots_in roots s.done.chunks) in_chunk) earned)

    pub copied_walk : {n m : ℕ} {aged old aged_now old_now : List (List ℕ)} → HasCopied kind h roots before s n aged old → All (Contains (cells_met t.done)) (all_root_targets (from_space s.kind) h slice) →
        AreScanned h (walked_at t) (HasPlaces t.done) (length (wins_of t.done.won)) aged_now old_now → m ≡ length (wins_of t.done.won) → HasCopied kind h roots t.done.chunks t m aged_now old_now
    copied_walk {aged_now = aged_now} {old_now = old_now} copied met scanned ended =
        let targets = all_root_targets (from_space kind) h in
        let all : roots_in roots t.done.chunks ≡ roots_in roots before ++ slice = ap (roots_in roots) (chunks_now ∙ drawn.is) ∙ roots_more roots before chunk ∙ ap (λ (l : List Root). roots_in roots before ++ l) (sym is) in
        let split : targets (roots_in roots t.done.chunks) ≡ targets (roots_in roots before) ++ targets slice = ap targets all ∙ flat_map-append (root_targets_of (from_space kind) h) (roots_in roots before) slice in
        let old_met : All (Contains (cells_met t.done)) (targets (roots_in roots before)) = still_met keeps (targets (roots_in roots before)) copied.met in
        let new_met : All (Contains (cells_met t.done)) (targets slice) = subst (λ (k : Kind). All (Contains (cells_met t.done)) (all_root_targets (from_space k) h slice)) same_kind met in
        record {
          met = subst (λ (l : List ℕ). All (Contains (cells_met t.done)) l) (sym split) (All-append (Contains (cells_met t.done)) (targets (roots_in roots before)) (targets slice) old_met new_met);
          all = ended ∙ length-map t.done.won win_of;
          copies = subst (λ (k : ℕ). AreScanned h (walked_at t) (HasPlaces t.done) k aged_now old_now) (sym ended) scanned;
        }

-- the seat is still the same one
pub same_walk : (s t : Sitting) → KeepsWins (walked_at s) (walked_at t) → IsSameSeat s t
same_walk s t keeps = record {
  kind = keeps.same_kind;
  limit = (let room : 64 * t.limit ≡ 64 * s.limit = keeps.same_room in omega arith);
  board = λ i. (keeps.same_fixed i).0;
  share = λ i. (keeps.same_fixed i).2;
}

-- what was done till the work was refused
pub work_refused : {kind : Kind} {h : SpaceList} {roots : List Root} {before after : Sitting} (result : Result Copies RoomFault) (fault : RoomFault) → IsErrAnd result (λ x. x ≡ fault) →
    IsSameSeat before after → AreEarned kind h roots after.done → (fault ≡ HeapFull → HasClaimedPast after.limit after.done) → HasWorkedAll kind h roots before after result
work_refused (Ok x) fault told same earned full = absurd told
work_refused (Err x) fault told same earned full = record { worked = record { same = same; earned = earned; full = λ is. full (sym told ∙ is) }; last = tt; copied = tt }

-- ---- between two chunks

module _ (kind : Kind) (h : SpaceList) (roots : List Root) (s t : Sitting) (c : ℕ) (is : t ≡ record s { done = with_chunk s.done c }) where
  pub earned_drawn : AreEarned kind h roots s.done → AreEarned kind h roots t.done
  earned_drawn earned = rw is (traced_wider kind h (roots_in roots s.done.chunks) (roots_in roots (s.done.chunks ++ c ∷ []))
      (λ r held. subst (λ (l : List Root). Contains l r) (sym (roots_more roots s.done.chunks c)) (left r held)) (wins_of s.done.won) earned)
    where
      left : (r : Root) → Contains (roots_in roots s.done.chunks) r → Contains (roots_in roots s.done.chunks ++ roots_of_chunk roots c) r
      left r held = Contains-append_left (roots_in roots s.done.chunks) (roots_of_chunk roots c) r held

  pub copied_drawn : (before : List ℕ) (n : ℕ) (aged old : List (List ℕ)) → HasCopied kind h roots before s n aged old → HasCopied kind h roots before t n aged old
  copied_drawn before n aged old copied = rw is (record {
    met = copied.met;
    all = copied.all;
    copies = record { within = copied.copies.within; met = copied.copies.met; aged_long = copied.copies.aged_long; old_long = copied.copies.old_long; in_aged = λ to has. copied.copies.in_aged to (record { won = has.won; seen = has.seen }); in_old = λ to has. copied.copies.in_old to (record { won = has.won; seen = has.seen }) };
  })

-- nothing was won yet
pub earned_none : (kind : Kind) (h : SpaceList) (roots : List Root) (v : Record) → v.won ≡ [] → AreEarned kind h roots v
earned_none kind h roots v none = rw none (λ k low. absurd (omega arith))

pub copied_none : (kind : Kind) (h : SpaceList) (roots : List Root) (s : Sitting) (n : ℕ) (aged old : List (List ℕ)) → s.done.won ≡ [] → n ≡ 0 → aged ≡ [] → old ≡ [] → HasCopied kind h roots [] s n aged old
copied_none kind h roots s n aged old none zero_is no_aged no_old = record {
  met = All-nil (Contains (cells_met s.done));
  all = zero_is ∙ ap length (sym none);
  copies = none_scanned h (walked_at s) (HasPlaces s.done) n aged old zero_is no_aged no_old;
}

-- ---- the last chunk

-- there are no roots past the last chunk
no_roots : (roots : List Root) (c : ℕ) → (length roots + 7) / 8 ≤ c → roots_of_chunk roots c ≡ []
no_roots roots c late =
    let first = length roots - 8 * (c + 1) in
    let none : length roots - 8 * c ≡ 0 = omega arith in
    ap (λ (n : ℕ). drop first (take n roots)) none ∙ drop_all first [] (omega arith)

pub copied_all : (kind : Kind) (h : SpaceList) (roots : List Root) (before : List ℕ) (chunk : ℕ) (s : Sitting) (n : ℕ) (aged old : List (List ℕ)) → HasDrawn before chunk s → (length roots + 7) / 8 ≤ chunk →
    HasCopied kind h roots before s n aged old → HasCopied kind h roots s.done.chunks s n aged old
copied_all kind h roots before chunk s n aged old drawn late copied =
    let same : roots_in roots s.done.chunks ≡ roots_in roots before = ap (roots_in roots) drawn.is ∙ roots_more roots before chunk ∙ ap (λ (l : List Root). roots_in roots before ++ l) (no_roots roots chunk late) ∙ append-nil (roots_in roots before) in
    record {
      met = subst (λ (l : List Root). All (Contains (cells_met s.done)) (all_root_targets (from_space kind) h l)) (sym same) copied.met;
      all = copied.all;
      copies = copied.copies;
    }

pub past_last : (before : List ℕ) (chunk : ℕ) (s : Sitting) → HasDrawn before chunk s → chunks_of s.board.counts ≤ chunk → 0 < past s.board.counts s.done
past_last before chunk s drawn late =
    let k = s.board.counts in
    let f = λ (c : ℕ). if is_chunk k c then 0 else 1 in
    let no : is_chunk k chunk ≡ false = grind (arith, nat_tests) in
    let one : f chunk ≡ 1 = rw no refl in
    subst (λ (l : List ℕ). 0 < past k (record s.done { chunks = l })) (sym drawn.is) (let push = weigh_push f before chunk in omega (arith, push, one))

-- ---- a further claim is allowed

pub allowed_next : (before : List ℕ) (chunk : ℕ) (s : Sitting) → HasDrawn before chunk s → chunk < chunks_of s.board.counts → All (λ c. is_chunk s.board.counts c ≡ true) s.done.chunks
allowed_next before chunk s drawn low =
    let here : is_chunk s.board.counts chunk ≡ true = grind (arith, nat_tests) in
    subst (λ (l : List ℕ). All (λ c. is_chunk s.board.counts c ≡ true) l) (sym drawn.is) (All-push (λ (c : ℕ). is_chunk s.board.counts c ≡ true) before chunk drawn.before_last here)

pub may_claim_next : (before : List ℕ) (chunk : ℕ) (s u : Sitting) → HasDrawn before chunk s → chunk < chunks_of s.board.counts → IsSameSeat s u → u.done.chunks ≡ s.done.chunks → can_claim_roots u.board.counts u.done ≡ true
may_claim_next before chunk s u drawn low same chunks =
    let all = allowed_next before chunk s drawn low in
    rw (ap (λ (b : Board). b.counts) same.board, chunks) (all_of (is_chunk s.board.counts) s.done.chunks (λ c held. All-contains (λ (x : ℕ). is_chunk s.board.counts x ≡ true) s.done.chunks c all held))

pub same_drawn : (s t : Sitting) (c : ℕ) → t ≡ record s { done = with_chunk s.done c } → IsSameSeat s t
same_drawn s t c is = record {
  kind = ap (λ (x : Sitting). x.kind) is;
  limit = ap (λ (x : Sitting). x.limit) is;
  board = ap (λ (x : Sitting). x.board) is;
  share = ap (λ (x : Sitting). x.done.share) is;
}

pub same_both : {a b c : Sitting} → IsSameSeat a b → IsSameSeat b c → IsSameSeat a c
same_both one two = record { kind = two.kind ∙ one.kind; limit = two.limit ∙ one.limit; board = two.board ∙ one.board; share = two.share ∙ one.share }

pub drawn_next : (before : List ℕ) (chunk : ℕ) (s u v : Sitting) (r : ℕ) → HasDrawn before chunk s → chunk < chunks_of s.board.counts → IsSameSeat s u → u.done.chunks ≡ s.done.chunks → v ≡ record u { done = with_chunk u.done r } → HasDrawn u.done.chunks r v
drawn_next before chunk s u v r drawn low same chunks is = record {
  is = ap (λ (x : Sitting). x.done.chunks) is;
  before_last = rw (ap (λ (x : Sitting). x.board.counts) is, ap (λ (b : Board). b.counts) same.board, chunks) (allowed_next before chunk s drawn low);
}

pub drawn_first : (s t : Sitting) (r : ℕ) → s.done ≡ empty 1 → t ≡ record s { done = with_chunk s.done r } → HasDrawn [] r t
drawn_first s t r none is = record {
  is = ap (λ (x : Sitting). x.done.chunks) is ∙ ap (λ (v : Record). v.chunks ++ r ∷ []) none;
  before_last = All-nil (λ (c : ℕ). is_chunk t.board.counts c ≡ true);
}

-- each chunk is claimed after the one before
pub rises : (before : List ℕ) (chunk : ℕ) (s u : Sitting) (r : ℕ) → HasDrawn before chunk s → u.done.chunks ≡ s.done.chunks → All (λ c. c < r) u.done.chunks → chunk < r
rises before chunk s u r drawn chunks all =
    All-contains (λ (c : ℕ). c < r) u.done.chunks chunk all (subst (λ (l : List ℕ). Contains l chunk) (sym (chunks ∙ drawn.is)) (Contains-push before chunk))

pub on_ok_all : {A E : Type 0} (r : Result A E) {P Q R S : Type 0} → (P → Q → R → S) → OnOk r P → OnOk r Q → OnOk r R → OnOk r S
on_ok_all (Ok x) f p q o = f p q o
on_ok_all (Err e) f p q o = tt

-- ---- how many chunks there are

ceil : (n : ℕ) → div_ceil n 8 ≡ (n + 7) / 8
ceil n =
    let sides = div_ceil_times n 8 (omega arith) in
    omega arith

pub count : {kind : Kind} {h : SpaceList} {roots : List Root} {s t : Sitting} {n : ℕ} → AreCountsOf kind h roots s.board.counts → IsSameSeat s t → n ≡ div_ceil (length roots) 8 → chunks_of t.board.counts ≡ n
count {roots = roots} counts same is =
    ap (λ (b : Board). chunks_of b.counts) same.board ∙ ap (λ (r : ℕ). (r + 7) / 8) counts.root_count ∙ sym (is ∙ ceil (length roots))

pub chunks_past : (roots : List Root) (chunk n : ℕ) → n ≡ div_ceil (length roots) 8 → n ≤ chunk → (length roots + 7) / 8 ≤ chunk
chunks_past roots chunk n is late = let e = ceil (length roots) in omega arith
