-- How many blocks a closed table has given away: they are within the limit, and nearly as few as the copies need; and a block
-- past the limit tells of many cells that are reached.
use Rattle.std.proofs.Common.{◌≡◌, ◌≢◌, ℕ, suc, ◌+◌, ◌-◌, ◌<◌, ◌≤◌, ◌==◌, List, [], ◌∷◌, Bool, true, false, not, ◌&&◌, cond, if◌then◌else◌, length, refl, sym, ap, ◌∙◌, eq-eqb, eqb-true, ⊎_elim, arith}
use Rattle.std.specs.List.{All, Contains}
use Rattle.std.proofs.lemmas.Bool.{cases_eq}
use Rattle.std.proofs.lemmas.List.{length-map}
use Rattle.std.proofs.lemmas.List.Elements.{All-contains}
use Rattle.std.proofs.lemmas.List.Sums.{sum_by-cons}
use Rattle.tg_word.specs.declared.Place.{Place}
use Rattle.tg_word.specs.Word.{place_in}
use Rattle.tg_space.specs.Collection.{AreFewBlocks, Collected, MayLackRoom, copies_in, is_copy_in, used_cells}
use Rattle.tg_space.specs.Soundness.{AreSound}
use Rattle.tg_space.specs.SpaceList.{BlockList}
use Rattle.tg_space.specs.SpaceTable.{SpaceTable, IsSpaceTable, kept_blocks}
use Rattle.tg_space.specs.declared.kind.Kind.{Kind}
use Rattle.tg_space.specs.declared.kind.Kind.TheVariants.{Full, Nursery}
use Rattle.tg_space.specs.declared.root.Root.{Root}
use Rattle.tg_space.proofs.Tables.{table_list}
use Rattle.tg_race.specs.declared.record.Counts.{Counts}
use Rattle.tg_race.specs.declared.record.Record.{Record}
use Rattle.tg_race.specs.Board.{IsClosedTable}
use Rattle.tg_race.specs.Race.{AreConsecutive}
use Rattle.tg_race.specs.Words.{place_of, weigh_words}
use Rattle.tg_race.proofs.Closed.{consecutive}
use Rattle.tg_race.proofs.Standing.{closed_aged_few, closed_aged_filled, closed_old_few, closed_old_filled}
use Rattle.tg_race.proofs.Steps.{in_space}
use Rattle.tg_evac.specs.Claims.{cells_won}
use Rattle.tg_evac.specs.Room.{IsReachedFrom, LacksRoomFor}
use Rattle.tg_evac.proofs.Counting.{won_few}
use Rattle.tg_evac.proofs.Reasons.{all_reached, all_used}
use Rattle.tg_evac.proofs.Sound.{have_pointers}
use Rattle.tg_parallel.specs.Merged.{AreMerged}
use Rattle.tg_parallel.specs.Whole.{IsWholePart}
use Rattle.tg_parallel.specs.Parts.{AreCountsOf, AreEarned, IsPastLimit, Numbered, numbers_of, wins_of}
use Rattle.tg_parallel.proofs.Lists.{any_has}
use Rattle.tg_parallel.proofs.Wins.{cells_distinct, cells_long, traced_all}

-- ---- copies

-- the words of copies in a space are those of the pairs that were won into it
count_words : (s i : ℕ) (ws : List ℕ) → weigh_words (λ q. if q.1.space == s then 1 else 0) i ws ≡ copies_in ws s
unfolding place_of
count_words s i [] = refl
count_words s i (w ∷ ws) = omega (arith, sum_by-cons (λ (x : ℕ). cond (is_copy_in s x) 1 0) w ws, by_tests (w == 0) ((place_in w).space == s), count_words s (suc i) ws)
  where
    by_tests : (a b : Bool) → ◌≡◌ {A = ℕ} (if a then 0 else (if b then 1 else 0)) (cond (not a && b) 1 0)
    by_tests true b = refl
    by_tests false true = refl
    by_tests false false = refl

-- a copy is in one space
two_spaces : (won : List (ℕ × Place)) → in_space 0 won + in_space 1 won ≤ length won
two_spaces [] = omega arith
two_spaces (q ∷ qs) = by_test (q.1.space == 0) refl (q.1.space == 1) refl (two_spaces qs)
  where
    by_test : (a : Bool) → (q.1.space == 0) ≡ a → (b : Bool) → (q.1.space == 1) ≡ b → in_space 0 qs + in_space 1 qs ≤ length qs → (if a then 1 else 0) + in_space 0 qs + ((if b then 1 else 0) + in_space 1 qs) ≤ suc (length qs)
    by_test true e true f h = absurd (omega (arith, eqb-true q.1.space 0 e, eqb-true q.1.space 1 f))
    by_test true e false f h = omega arith
    by_test false e true f h = omega arith
    by_test false e false f h = omega arith

copies_won : (k : Counts) (words : List ℕ) (done : Record) → IsClosedTable k words done → (s : ℕ) → in_space s done.won ≡ copies_in words s
copies_won k words done closed s = let all = closed.rule.wins_once.won (λ q. if q.1.space == s then 1 else 0) in omega (arith, count_words s 0 words)

-- ---- cells in use

module _ (kind : Kind) (t : SpaceTable) (roots : List Root) (k : Counts) (words : List ℕ) (done : Record)
    (table : IsSpaceTable t) (sound : AreSound t.spaces roots) (counts : AreCountsOf kind t.spaces roots k) (closed : IsClosedTable k words done) (earned : AreEarned kind t.spaces roots done) where
  won_used : length done.won ≤ used_cells kind t.spaces
  won_used =
      let list = table_list t table in
      let used = all_used kind t.spaces roots (wins_of done.won) (traced_all kind t.spaces roots done earned) list (have_pointers t.spaces roots sound list) sound.roots_held in
      omega (arith, cells_long k words done closed, won_few kind t.spaces list (cells_won (wins_of done.won)) (cells_distinct k words done closed) used)

  -- no more cells are copied than are in use
  pub moved_few : copies_in words 0 + copies_in words 1 ≤ used_cells kind t.spaces
  moved_few = omega (arith, won_used, two_spaces done.won, copies_won k words done closed 0, copies_won k words done closed 1)

-- ---- a block past the limit

module _ (kind : Kind) (t : SpaceTable) (roots : List Root) (k : Counts) (words : List ℕ) (done : Record)
    (counts : AreCountsOf kind t.spaces roots k) (closed : IsClosedTable k words done) (earned : AreEarned kind t.spaces roots done) where
  -- the cells that were won are all reached, and they are too many
  pub lacks : IsPastLimit t done → LacksRoomFor t.limits.space_blocks k.helpers (kept_blocks kind t.spaces) (IsReachedFrom kind t.spaces roots)
  lacks past =
      record {
        cells = cells_won (wins_of done.won);
        once = cells_distinct k words done closed;
        from = all_reached kind t.spaces roots (wins_of done.won) (traced_all kind t.spaces roots done earned);
        many = many;
      }
    where
      many : MayLackRoom t.limits.space_blocks k.helpers (kept_blocks kind t.spaces) (length (cells_won (wins_of done.won)))
      many =
          let b : ℕ = past.0 in
          let over = past.2 in
          let long = cells_long k words done closed in
          let kept = counts.kept in
          ⊎_elim
          (λ (aged : Contains done.aged_blocks b). let low = closed_aged_few k words done closed b (any_has (λ (x : ℕ). x == b) done.aged_blocks b aged (eq-eqb b b refl)) in omega arith)
          (λ (old : Contains done.old_blocks b). let low = closed_old_few k words done closed b (any_has (λ (x : ℕ). x == b) done.old_blocks b old (eq-eqb b b refl)) in omega arith)
          past.1

-- ---- blocks within the limit

-- numbers without a gap below a limit
pub numbers_within : (start : ℕ) (numbers : List ℕ) → AreConsecutive start numbers → (limit : ℕ) → All (λ n. n < limit) numbers → length numbers ≤ limit - start
numbers_within start numbers are limit below = ⊎_elim
    (λ (none : length numbers ≡ 0). omega arith)
    (λ (some : length numbers ≢ 0).
    let last : ℕ = start + length numbers - 1 in
    let held : Contains numbers last = (are.exactly last).1 (omega arith, omega arith) in
    let low = All-contains (λ (n : ℕ). n < limit) numbers last below held in
    omega arith)
    (cases_eq (length numbers) 0)

pub blocks_long : (blocks : Numbered) (numbers : List ℕ) → numbers_of blocks ≡ numbers → length blocks ≡ length numbers
blocks_long blocks numbers is = sym (length-map blocks (λ (b : ℕ × List (List ℕ)). b.0)) ∙ ap (λ (l : List ℕ). length l) is

module _ (kind : Kind) (t : SpaceTable) (roots : List Root) (k : Counts) (done : Record) (aged old : Numbered) (made : Collected)
    (whole : IsWholePart kind t roots k made.forward done aged old) (merged : AreMerged kind (kept_blocks kind t.spaces) aged old made.aged made.old) where
  copies_are : (s : ℕ) → in_space s done.won ≡ copies_in made.forward s
  copies_are s = copies_won k made.forward done whole.closed s

  aged_at_most : length made.aged ≤ length done.aged_blocks
  aged_at_most = by_kind kind refl
    where
      by_kind : (kd : Kind) → kind ≡ kd → length made.aged ≤ length done.aged_blocks
      by_kind Full is = let none = ap (λ (bs : BlockList). length bs) (merged.none_aged is) in omega arith
      by_kind Nursery is = let all = (merged.in_aged is).as_many in omega (arith, blocks_long aged done.aged_blocks whole.part.aged_numbers)

  old_is : length made.old ≡ length done.old_blocks
  old_is = merged.in_old.as_many ∙ blocks_long old done.old_blocks whole.part.old_numbers

  pub few_blocks : AreFewBlocks t.limits.space_blocks (kept_blocks kind t.spaces) k.helpers made
  few_blocks =
      let kept = whole.counts.kept in
      let aged_low = numbers_within 0 done.aged_blocks (consecutive 0 whole.closed.next_aged (λ v. v.aged_blocks) done whole.closed.rule.blocks_once.0) t.limits.space_blocks whole.part.aged_few in
      let old_low = numbers_within k.kept done.old_blocks (consecutive k.kept whole.closed.next_old (λ v. v.old_blocks) done whole.closed.rule.blocks_once.1) t.limits.space_blocks whole.part.old_few in
      record {
        aged_within = omega (arith, aged_at_most);
        old_within = omega (arith, old_is);
        aged_needed = omega (arith, aged_at_most, closed_aged_filled k made.forward done whole.closed, copies_are 1);
        old_needed = omega (arith, old_is, closed_old_filled k made.forward done whole.closed, copies_are 0);
      }
