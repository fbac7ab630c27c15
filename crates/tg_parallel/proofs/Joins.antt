-- What two helpers hand over is what their joined record asks for.
use Rattle.std.proofs.Common.{◌≡◌, ◌≢◌, ℕ, ◌<◌, ◌≤◌, ◌==◌, ◌++◌, if◌then◌else◌, List, Bool, true, false, map, refl, sym, ap, subst, ◌∙◌, eq-eqb, ⊎_elim, arith}
use Rattle.std.specs.List.{All, Contains}
use Rattle.std.proofs.lemmas.Bool.{cond-true}
use Rattle.std.proofs.lemmas.Grind.{flat_map-append}
use Rattle.std.proofs.lemmas.List.{map-append}
use Rattle.std.proofs.lemmas.List.Elements.{All-append, All-weaker, All-contains, All-contains_itself, Contains-append_left, Contains-append_right, Contains-append_cases}
use Rattle.tg_word.specs.declared.Place.{Place}
use Rattle.tg_space.specs.SpaceList.{SpaceList}
use Rattle.tg_space.specs.SpaceTable.{SpaceTable}
use Rattle.tg_space.specs.Targets.{from_space, targets_of, root_targets_of, all_root_targets}
use Rattle.tg_space.specs.declared.kind.Kind.{Kind}
use Rattle.tg_space.specs.declared.root.Root.{Root}
use Rattle.tg_race.specs.declared.record.Record.{Record}
use Rattle.tg_race.specs.Words.{OLD, AGED}
use Rattle.tg_race.specs.Weights.{weigh, one_at}
use Rattle.tg_race.specs.Race.{both, owns}
use Rattle.tg_race.proofs.Sums.{weigh-append}
use Rattle.tg_race.proofs.Parts.{claims_of, owns_claims, claims_owns}
use Rattle.tg_evac.specs.Claimers.{image_at}
use Rattle.tg_parallel.specs.Parts.{AreOnce, HasCopies, HasMetAll, HasPlaceOf, HasPlaces, IsPart, Numbered, cells_met, numbers_of, roots_in, roots_of_chunk}
use Rattle.tg_evac.proofs.Copying.{map_has}
use Rattle.tg_parallel.proofs.Lists.{all_left, all_right, has_weighs, once_apart, once_left, once_right}

abbrev cell_of_pair : ℕ × Place → ℕ
cell_of_pair q = q.0

-- ---- what was met

-- the cells of pairs are among those of more pairs
cells_left : (xs ys : List (ℕ × Place)) (c : ℕ) → Contains (map cell_of_pair xs) c → Contains (map cell_of_pair (xs ++ ys)) c
cells_left xs ys c had = subst (λ (l : List ℕ). Contains l c) (sym (map-append cell_of_pair xs ys)) (Contains-append_left (map cell_of_pair xs) (map cell_of_pair ys) c had)

cells_right : (xs ys : List (ℕ × Place)) (c : ℕ) → Contains (map cell_of_pair ys) c → Contains (map cell_of_pair (xs ++ ys)) c
cells_right xs ys c had = subst (λ (l : List ℕ). Contains l c) (sym (map-append cell_of_pair xs ys)) (Contains-append_right (map cell_of_pair xs) (map cell_of_pair ys) c had)

-- a record that has all that another won and saw has met all that it met
met_more : (less more : Record) → ((c : ℕ) → Contains (map cell_of_pair less.won) c → Contains (map cell_of_pair more.won) c) → ((c : ℕ) → Contains (map cell_of_pair less.seen) c → Contains (map cell_of_pair more.seen) c)
    → (c : ℕ) → Contains (cells_met less) c → Contains (cells_met more) c
met_more less more won seen c held = ⊎_elim
    (λ had. Contains-append_left (map cell_of_pair more.won) (map cell_of_pair more.seen) c (won c had))
    (λ had. Contains-append_right (map cell_of_pair more.won) (map cell_of_pair more.seen) c (seen c had))
    (Contains-append_cases (map cell_of_pair less.won) (map cell_of_pair less.seen) c held)

-- and one that has claimed all that another claimed owns all that it owns
owns_more : (less more : Record) → ((h : ℕ → ℕ) → weigh h less.aged_blocks ≤ weigh h more.aged_blocks) → ((h : ℕ → ℕ) → weigh h less.old_blocks ≤ weigh h more.old_blocks)
    → (p : Place) → owns less p ≡ true → owns more p ≡ true
owns_more less more aged old p h = claims_owns more p (go (p.space == AGED) (p.space == OLD) (owns_claims less p h))
  where
    go : (s t : Bool) → 0 < (if s then weigh (one_at p.block) less.aged_blocks else if t then weigh (one_at p.block) less.old_blocks else 0)
        → 0 < (if s then weigh (one_at p.block) more.aged_blocks else if t then weigh (one_at p.block) more.old_blocks else 0)
    go true t h = omega (arith, aged (one_at p.block))
    go false true h = omega (arith, old (one_at p.block))
    go false false h = h

module _ (v w : Record) where
  pub met_left : (c : ℕ) → Contains (cells_met v) c → Contains (cells_met (both v w)) c
  met_left = met_more v (both v w) (cells_left v.won w.won) (cells_left v.seen w.seen)

  pub met_right : (c : ℕ) → Contains (cells_met w) c → Contains (cells_met (both v w)) c
  met_right = met_more w (both v w) (cells_right v.won w.won) (cells_right v.seen w.seen)

  -- ---- blocks stay owned

  owns_left : (p : Place) → owns v p ≡ true → owns (both v w) p ≡ true
  owns_left = owns_more v (both v w) (λ h. omega (arith, weigh-append h v.aged_blocks w.aged_blocks)) (λ h. omega (arith, weigh-append h v.old_blocks w.old_blocks))

  owns_right : (p : Place) → owns w p ≡ true → owns (both v w) p ≡ true
  owns_right = owns_more w (both v w) (λ h. omega (arith, weigh-append h v.aged_blocks w.aged_blocks)) (λ h. omega (arith, weigh-append h v.old_blocks w.old_blocks))

-- a place of Aged, or of Old, that a record owns lies in a block that it claimed
pub owned_aged : (v : Record) (p : Place) → owns v p ≡ true → p.space ≡ 1 → 0 < weigh (one_at p.block) v.aged_blocks
owned_aged v p h is = let c = owns_claims v p h in
    omega (arith, cond-true {A = ℕ} (p.space == AGED) (weigh (one_at p.block) v.aged_blocks) (if p.space == OLD then weigh (one_at p.block) v.old_blocks else 0) (eq-eqb p.space 1 is))

pub owned_old : (v : Record) (p : Place) → owns v p ≡ true → p.space ≡ 0 → 0 < weigh (one_at p.block) v.old_blocks
owned_old v p h is =
    let c : 0 < claims_of p v = owns_claims v p h in
    let at : claims_of (record { space = 0; block = p.block; cell = p.cell }) v ≡ weigh (one_at p.block) v.old_blocks = refl in
    let same : p ≡ record { space = 0; block = p.block; cell = p.cell } = λ i. record { space = is i; block = p.block; cell = p.cell } in
    let d : 0 < claims_of (record { space = 0; block = p.block; cell = p.cell }) v = subst (λ (q : Place). 0 < claims_of q v) same c in
    d

-- ---- copies in blocks

module _ (space : ℕ) (copy : ℕ → List ℕ) (mine others : List (ℕ × Place)) (b : ℕ × List (List ℕ)) (apart : (q : ℕ × Place) → Contains others q → q.1.space ≡ space → q.1.block ≢ b.0) where
  pub copies_left : HasCopies space copy mine b → HasCopies space copy (mine ++ others) b
  copies_left has = record {
    copied = λ q held s e. ⊎_elim (λ here. has.copied q here s e) (λ other. absurd (apart q other s e)) (Contains-append_cases mine others q held);
    rest = λ i low none. has.rest i low (λ q held. none q (Contains-append_left mine others q held));
  }

  pub copies_right : HasCopies space copy mine b → HasCopies space copy (others ++ mine) b
  copies_right has = record {
    copied = λ q held s e. ⊎_elim (λ other. absurd (apart q other s e)) (λ here. has.copied q here s e) (Contains-append_cases others mine q held);
    rest = λ i low none. has.rest i low (λ q held. none q (Contains-append_right others mine q held));
  }

module _ (space : ℕ) (of : Record → List ℕ) (owned : (v : Record) (p : Place) → owns v p ≡ true → p.space ≡ space → 0 < weigh (one_at p.block) (of v))
    (copy : ℕ → List ℕ) (v w : Record) (once : AreOnce (of v ++ of w)) (ov : All (λ q. owns v q.1 ≡ true) v.won) (ow : All (λ q. owns w q.1 ≡ true) w.won)
    (a b : Numbered) (na : numbers_of a ≡ of v) (nb : numbers_of b ≡ of w) where
  weighs_in : (blocks : Numbered) (numbers : List ℕ) → numbers_of blocks ≡ numbers → (x : ℕ × List (List ℕ)) → Contains blocks x → 0 < weigh (one_at x.0) numbers
  weighs_in blocks numbers is x held = has_weighs numbers x.0 (subst (λ (l : List ℕ). Contains l x.0) is (map_has (λ (y : ℕ × List (List ℕ)). y.0) blocks x held))

  left_apart : (x : ℕ × List (List ℕ)) → Contains a x → (q : ℕ × Place) → Contains w.won q → q.1.space ≡ space → q.1.block ≢ x.0
  left_apart x held q there s e =
      let theirs = owned w q.1 (All-contains (λ (p : ℕ × Place). owns w p.1 ≡ true) w.won q ow there) s in
      once_apart (of v) (of w) once x.0 (weighs_in a (of v) na x held) (subst (λ (n : ℕ). 0 < weigh (one_at n) (of w)) e theirs)

  right_apart : (x : ℕ × List (List ℕ)) → Contains b x → (q : ℕ × Place) → Contains v.won q → q.1.space ≡ space → q.1.block ≢ x.0
  right_apart x held q there s e =
      let theirs = owned v q.1 (All-contains (λ (p : ℕ × Place). owns v p.1 ≡ true) v.won q ov there) s in
      once_apart (of v) (of w) once x.0 (subst (λ (n : ℕ). 0 < weigh (one_at n) (of v)) e theirs) (weighs_in b (of w) nb x held)

  pub copies_both : All (HasCopies space copy v.won) a → All (HasCopies space copy w.won) b → All (HasCopies space copy (v.won ++ w.won)) (a ++ b)
  copies_both in_a in_b = All-append (HasCopies space copy (v.won ++ w.won)) a b
      (λ k d low. let x = (All-contains_itself a) k d low in copies_left space copy v.won w.won _ (left_apart _ x) (in_a k d low))
      (λ k d low. let x = (All-contains_itself b) k d low in copies_right space copy w.won v.won _ (right_apart _ x) (in_b k d low))

-- ---- all of it

module _ (kind : Kind) (h : SpaceList) (roots : List Root) (v w : Record) where
  targets_both : (P : ℕ → Type 0) → All P (all_root_targets (from_space kind) h (roots_in roots v.chunks)) → All P (all_root_targets (from_space kind) h (roots_in roots w.chunks)) → All P (all_root_targets (from_space kind) h (roots_in roots (v.chunks ++ w.chunks)))
  targets_both P one two =
      let split : roots_in roots (v.chunks ++ w.chunks) ≡ roots_in roots v.chunks ++ roots_in roots w.chunks = flat_map-append (roots_of_chunk roots) v.chunks w.chunks in
      let all : all_root_targets (from_space kind) h (roots_in roots v.chunks ++ roots_in roots w.chunks) ≡ all_root_targets (from_space kind) h (roots_in roots v.chunks) ++ all_root_targets (from_space kind) h (roots_in roots w.chunks) =
      flat_map-append (root_targets_of (from_space kind) h) (roots_in roots v.chunks) (roots_in roots w.chunks) in
      subst (λ (l : List Root). All P (all_root_targets (from_space kind) h l)) (sym split)
      (subst (λ (l : List ℕ). All P l) (sym all) (All-append P (all_root_targets (from_space kind) h (roots_in roots v.chunks)) (all_root_targets (from_space kind) h (roots_in roots w.chunks)) one two))

  pub met_both : HasMetAll kind h roots v → HasMetAll kind h roots w → HasMetAll kind h roots (both v w)
  met_both mv mw = record {
    from_roots = targets_both (Contains (cells_met (both v w)))
        (All-weaker (Contains (cells_met v)) (Contains (cells_met (both v w))) (met_left v w) (all_root_targets (from_space kind) h (roots_in roots v.chunks)) mv.from_roots)
        (All-weaker (Contains (cells_met w)) (Contains (cells_met (both v w))) (met_right v w) (all_root_targets (from_space kind) h (roots_in roots w.chunks)) mw.from_roots);
    from_cells = All-append (λ (q : ℕ × Place). All (Contains (cells_met (both v w))) (targets_of (from_space kind) h q.0)) v.won w.won
        (λ k d low. All-weaker (Contains (cells_met v)) (Contains (cells_met (both v w))) (met_left v w) _ (mv.from_cells k d low))
        (λ k d low. All-weaker (Contains (cells_met w)) (Contains (cells_met (both v w))) (met_right v w) _ (mw.from_cells k d low));
  }

  places_left : (to : ℕ → Place) → HasPlaces (both v w) to → HasPlaces v to
  places_left to has = record { won = all_left (HasPlaceOf to) v.won w.won has.won; seen = all_left (HasPlaceOf to) v.seen w.seen has.seen }

  places_right : (to : ℕ → Place) → HasPlaces (both v w) to → HasPlaces w to
  places_right to has = record { won = all_right (HasPlaceOf to) v.won w.won has.won; seen = all_right (HasPlaceOf to) v.seen w.seen has.seen }

-- what two hand over is what the joined record asks for
pub part_both : (kind : Kind) (t : SpaceTable) (roots : List Root) (v w : Record) (a c b d : Numbered) → IsPart kind t roots v a c → IsPart kind t roots w b d → IsPart kind t roots (both v w) (a ++ b) (c ++ d)
part_both kind t roots v w a c b d pv pw = record {
  met = met_both kind t.spaces roots v w pv.met pw.met;
  owned = All-append (λ (q : ℕ × Place). owns (both v w) q.1 ≡ true) v.won w.won
      (All-weaker (λ (q : ℕ × Place). owns v q.1 ≡ true) (λ (q : ℕ × Place). owns (both v w) q.1 ≡ true) (λ q o. owns_left v w q.1 o) v.won pv.owned)
      (All-weaker (λ (q : ℕ × Place). owns w q.1 ≡ true) (λ (q : ℕ × Place). owns (both v w) q.1 ≡ true) (λ q o. owns_right v w q.1 o) w.won pw.owned);
  aged_numbers = map-append (λ (x : ℕ × List (List ℕ)). x.0) a b ∙ ap (λ (l : List ℕ). l ++ numbers_of b) pv.aged_numbers ∙ ap (λ (l : List ℕ). v.aged_blocks ++ l) pw.aged_numbers;
  old_numbers = map-append (λ (x : ℕ × List (List ℕ)). x.0) c d ∙ ap (λ (l : List ℕ). l ++ numbers_of d) pv.old_numbers ∙ ap (λ (l : List ℕ). v.old_blocks ++ l) pw.old_numbers;
  aged_few = All-append (λ (k : ℕ). k < t.limits.space_blocks) v.aged_blocks w.aged_blocks pv.aged_few pw.aged_few;
  old_few = All-append (λ (k : ℕ). k < t.limits.space_blocks) v.old_blocks w.old_blocks pv.old_few pw.old_few;
  images = λ once_aged once_old to has.
      let iv = pv.images (once_left v.aged_blocks w.aged_blocks once_aged) (once_left v.old_blocks w.old_blocks once_old) to (places_left kind t.spaces roots v w to has) in
      let iw = pw.images (once_right v.aged_blocks w.aged_blocks once_aged) (once_right v.old_blocks w.old_blocks once_old) to (places_right kind t.spaces roots v w to has) in
      record {
        in_aged = copies_both 1 (λ (u : Record). u.aged_blocks) owned_aged (image_at kind t.spaces to) v w once_aged pv.owned pw.owned a b pv.aged_numbers pw.aged_numbers iv.in_aged iw.in_aged;
        in_old = copies_both 0 (λ (u : Record). u.old_blocks) owned_old (image_at kind t.spaces to) v w once_old pv.owned pw.owned c d pv.old_numbers pw.old_numbers iv.in_old iw.in_old;
      };
}
