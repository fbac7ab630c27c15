-- A walk over the cells: claims one after the other, and the image of a cell word by word.
use Rattle.std.proofs.Common.{◌≡◌, ℕ, suc, ◌<◌, ◌≤◌, ◌+◌, ◌-◌, ◌++◌, ◌∷◌, Bool, List, [], Ok, length, get_or, set, take, drop, map, refl, sym, ap, subst, arith, ◌∙◌, ⊎_elim}
use Rattle.std.specs.List.{All, Contains, flat_map}
use Rattle.std.proofs.lemmas.Bool.{cases_lt, cases_eq}
use Rattle.std.proofs.lemmas.Grind.{flat_map-append}
use Rattle.std.proofs.lemmas.List.{append-nil, append_assoc, ext_get_or, get_or-drop, get_or-map, get_or-set_other, get_or-set_same, get_or-take, get_or-append_right, get_or_append_left, length-drop, length-map, length-set, length-take-le, length-append, take_all, take_more}
use Rattle.std.proofs.lemmas.List.Elements.{All-append, All-contains, All-nil, All-weaker}
use Rattle.tg_word.specs.declared.Place.{Place}
use Rattle.tg_space.specs.SpaceList.{SpaceList}
use Rattle.tg_space.specs.Targets.{from_space, moved_word, named_by, target_in}
use Rattle.tg_space.specs.declared.kind.Kind.{Kind}
use Rattle.tg_space.proofs.Adding.{piece}
use Rattle.tg_evac.specs.Win.{Win}
use Rattle.tg_evac.specs.Claims.{IsClaimOf}
use Rattle.tg_evac.specs.Claimers.{AddsWins, KnowsMore, Walked}
use Rattle.tg_evac.specs.Walks.{MovesFrom}

pub wins_none : {Fixed : Type 0} (reason : Win → Type 0) (a : Walked Fixed) → AddsWins reason a a
wins_none reason a = record { added = []; is = sym (append-nil a.won); reasons = All-nil reason; still = λ _ held. held; same_kind = refl; same_kept = refl; same_room = refl; as_many = refl; same_fixed = refl }

pub wins_then : {reason : Win → Type 0} {Fixed : Type 0} {a b c : Walked Fixed} → AddsWins reason a b → AddsWins reason b c → AddsWins reason a c
wins_then {reason} {a} one two = record {
  added = one.added ++ two.added;
  is = two.is ∙ ap (λ (ws : List Win). ws ++ two.added) one.is ∙ append_assoc a.won one.added two.added;
  reasons = All-append reason one.added two.added one.reasons two.reasons;
  still = λ n held. two.still n (one.still n held);
  same_kind = two.same_kind ∙ one.same_kind;
  same_kept = two.same_kept ∙ one.same_kept;
  same_room = two.same_room ∙ one.same_room;
  as_many = two.as_many ∙ one.as_many;
  same_fixed = two.same_fixed ∙ one.same_fixed;
}

pub wins_weaker : {few many : Win → Type 0} {Fixed : Type 0} {a b : Walked Fixed} → AddsWins few a b → ((w : Win) → few w → many w) → AddsWins many a b
wins_weaker {few} {many} adds weaker = record {
  added = adds.added;
  is = adds.is;
  reasons = All-weaker few many weaker adds.added adds.reasons;
  still = adds.still;
  same_kind = adds.same_kind;
  same_kept = adds.same_kept;
  same_room = adds.same_room;
  as_many = adds.as_many;
  same_fixed = adds.same_fixed;
}

pub still_met : {reason : Win → Type 0} {Fixed : Type 0} {a b : Walked Fixed} → AddsWins reason a b → (xs : List ℕ) → All (Contains a.met) xs → All (Contains b.met) xs
still_met {a = a} {b = b} adds xs all = All-weaker (Contains a.met) (Contains b.met) adds.still xs all

-- a claim of one of these cells is one of more cells
pub wider : {h : SpaceList} {straight : Bool} (few many : List ℕ) → All (Contains many) few → (w : Win) → IsClaimOf h straight few w → IsClaimOf h straight many w
wider few many all w claim = record { one = All-contains (Contains many) few w.cell all claim.one; place = claim.place; held = claim.held; at = claim.at; to = claim.to }

-- the pieces of a list, one after the other
pub met_piece : {X : Type 0} (g : X → List ℕ) (xs : List X) (i : ℕ) (d : X) → i < length xs → (b c : List ℕ) → ((n : ℕ) → Contains b n → Contains c n) →
    All (Contains b) (flat_map g (take i xs)) → All (Contains c) (g (get_or xs i d)) → All (Contains c) (flat_map g (take (i + 1) xs))
met_piece g xs i d inside b c still before here =
    let more : flat_map g (take (i + 1) xs) ≡ flat_map g (take i xs) ++ g (get_or xs i d) =
    ap (flat_map g) (take_more xs i d inside) ∙ flat_map-append g (take i xs) (get_or xs i d ∷ []) ∙ ap (λ (ys : List ℕ). flat_map g (take i xs) ++ ys) (append-nil (g (get_or xs i d))) in
    subst (λ (ys : List ℕ). All (Contains c) ys) (sym more) (All-append (Contains c) (flat_map g (take i xs)) (g (get_or xs i d)) (All-weaker (Contains b) (Contains c) still (flat_map g (take i xs)) before) here)

module _ {X : Type 0} (f : Kind → X → List ℕ) (h : SpaceList) (straight : Bool) (xs : List X) (i : ℕ) (d : X) (inside : i < length xs) {Fixed : Type 0} {a b c : Walked Fixed}
    (one : AddsWins (IsClaimOf h straight (flat_map (f a.kind) xs)) a b) (two : AddsWins (IsClaimOf h straight (f b.kind (get_or xs i d))) b c) where
  two_is : AddsWins (IsClaimOf h straight (f a.kind (get_or xs i d))) b c
  two_is = subst (λ (k : Kind). AddsWins (IsClaimOf h straight (f k (get_or xs i d))) b c) one.same_kind two

  pub wins_piece : AddsWins (IsClaimOf h straight (flat_map (f a.kind) xs)) a c
  wins_piece = wins_then one (wins_weaker two_is (wider (f a.kind (get_or xs i d)) (flat_map (f a.kind) xs) (piece (f a.kind) xs i d inside)))

  pub met_more : All (Contains b.met) (flat_map (f a.kind) (take i xs)) → All (Contains c.met) (f b.kind (get_or xs i d)) → All (Contains c.met) (flat_map (f a.kind) (take (i + 1) xs))
  met_more before here =
      met_piece (f a.kind) xs i d inside b.met c.met two.still before (subst (λ (k : Kind). All (Contains c.met) (f k (get_or xs i d))) one.same_kind here)

-- ---- the image of a cell, word by word

-- words that are all 0 name nothing
named_none : (from : ℕ → Bool) (h : SpaceList) (words : List ℕ) → ((k : ℕ) → k < length words → get_or words k 0 ≡ 0) → named_by from h words ≡ []
named_none from h [] zeros = refl
named_none from h (w ∷ ws) zeros =
    let rest : named_by from h ws ≡ [] = named_none from h ws (λ k below. zeros (suc k) (omega (arith, below))) in
    subst (λ (x : ℕ). target_in from h x ++ named_by from h ws ≡ []) (sym (zeros 0 (omega arith))) rest

pub record IsImaged {Fixed : Type 0} (h : SpaceList) (straight : Bool) (first : ℕ) (words image : List ℕ) (i : ℕ) (a b : Walked Fixed) (before after : (ℕ → Place) → Type 0) : Type 0 where
  pub low : first ≤ i
  pub high : i ≤ 8
  pub wide : length words ≡ 8
  pub long : length image ≡ 8
  pub added : AddsWins (IsClaimOf h straight (named_by (from_space a.kind) h (drop first words))) a b
  pub grows : KnowsMore before after
  pub met : All (Contains b.met) (named_by (from_space a.kind) h (take (i - first) (drop first words)))
  pub done : (to : ℕ → Place) → after to → (j : ℕ) → first ≤ j → j < i → get_or image j 0 ≡ moved_word (from_space a.kind) h to (get_or words j 0)
  pub rest : (j : ℕ) → j < first → get_or image j 0 ≡ get_or words j 0
  pub ahead : (j : ℕ) → i ≤ j → get_or image j 0 ≡ get_or words j 0

module _ (h : SpaceList) (straight : Bool) (first : ℕ) (words : List ℕ) where
  pub imaged_none : length words ≡ 8 → first ≤ 8 → {Fixed : Type 0} (a : Walked Fixed) (knows : (ℕ → Place) → Type 0) → IsImaged h straight first words words first a a knows knows
  imaged_none wide inside a knows = record {
    low = omega arith;
    high = inside;
    wide = wide;
    long = wide;
    added = wins_none (IsClaimOf h straight (named_by (from_space a.kind) h (drop first words))) a;
    grows = λ _ agrees. agrees;
    met = (let none : first - first ≡ 0 = omega arith in subst (λ (n : ℕ). All (Contains a.met) (named_by (from_space a.kind) h (take n (drop first words)))) (sym none) (All-nil (Contains a.met)));
    done = λ _ _ j from below. (let no : 1 ≤ 0 = omega arith in omega arith);
    rest = λ _ _. refl;
    ahead = λ _ _. refl;
  }

  -- where all words from the first one on are 0, the cell is its own image
  pub imaged_nothing : length words ≡ 8 → first ≤ 8 → ((j : ℕ) → first ≤ j → j < 8 → get_or words j 0 ≡ 0) → {Fixed : Type 0} (a : Walked Fixed) (knows : (ℕ → Place) → Type 0) → IsImaged h straight first words words 8 a a knows knows
  imaged_nothing wide inside zeros a knows =
      let from = from_space a.kind in
      let at : (k : ℕ) → k < 8 - first → get_or (take (8 - first) (drop first words)) k 0 ≡ 0 =
      λ k below. get_or-take (8 - first) (drop first words) k 0 below ∙ get_or-drop first words k 0 ∙ zeros (first + k) (omega arith) (omega (arith, inside, below)) in
      let none : named_by from h (take (8 - first) (drop first words)) ≡ [] =
      (let long : 8 - first ≤ length (drop first words) = omega (arith, length-drop first words, wide, inside) in
      named_none from h (take (8 - first) (drop first words)) (λ k below. at k (omega (arith, below, length-take-le (8 - first) (drop first words) long)))) in
      record {
        low = inside;
        high = omega arith;
        wide = wide;
        long = wide;
        added = wins_none (IsClaimOf h straight (named_by from h (drop first words))) a;
        grows = λ _ agrees. agrees;
        met = subst (λ (ns : List ℕ). All (Contains a.met) ns) (sym none) (All-nil (Contains a.met));
        done = λ to _ j past below. subst (λ (w : ℕ). w ≡ moved_word from h to w) (sym (zeros j past below)) refl;
        rest = λ _ _. refl;
        ahead = λ _ _. refl;
      }

  module _ (image : List ℕ) (i : ℕ) (more : i < 8) {Fixed : Type 0} {a b c : Walked Fixed} {before mid : (ℕ → Place) → Type 0} (so : IsImaged h straight first words image i a b before mid)
      (two : AddsWins (IsClaimOf h straight (target_in (from_space b.kind) h (get_or image i 0))) b c) where
    as_was : get_or image i 0 ≡ get_or words i 0
    as_was = so.ahead i (omega arith)

    at : get_or (drop first words) (i - first) 0 ≡ get_or words i 0
    at =
        let low = so.low in
        let there : first + (i - first) ≡ i = omega arith in
        get_or-drop first words (i - first) 0 ∙ ap (λ (n : ℕ). get_or words n 0) there

    below : i - first < length (drop first words)
    below = let low = so.low in let wide = so.wide in let l = length-drop first words in omega arith

    here : AddsWins (IsClaimOf h straight (target_in (from_space b.kind) h (get_or (drop first words) (i - first) 0))) b c
    here = subst (λ (w : ℕ). AddsWins (IsClaimOf h straight (target_in (from_space b.kind) h w)) b c) (as_was ∙ sym at) two

    pub imaged_added : AddsWins (IsClaimOf h straight (named_by (from_space a.kind) h (drop first words))) a c
    imaged_added = wins_piece (λ (k : Kind). target_in (from_space k) h) h straight (drop first words) (i - first) 0 below so.added here

    module _ {after : (ℕ → Place) → Type 0} (grows : KnowsMore mid after) (met : All (Contains c.met) (target_in (from_space b.kind) h (get_or image i 0))) (v : ℕ) (is : (to : ℕ → Place) → after to → v ≡ moved_word (from_space b.kind) h to (get_or image i 0)) where
      met_is : All (Contains c.met) (named_by (from_space a.kind) h (take (i + 1 - first) (drop first words)))
      met_is =
          let low = so.low in
          let next : i - first + 1 ≡ i + 1 - first = omega arith in
          let all = met_more (λ (k : Kind). target_in (from_space k) h) h straight (drop first words) (i - first) 0 below so.added here so.met (subst (λ (w : ℕ). All (Contains c.met) (target_in (from_space b.kind) h w)) (as_was ∙ sym at) met) in
          subst (λ (n : ℕ). All (Contains c.met) (named_by (from_space a.kind) h (take n (drop first words)))) next all

      done_is : (to : ℕ → Place) → after to → (j : ℕ) → first ≤ j → j < i + 1 → get_or (set image i v) j 0 ≡ moved_word (from_space a.kind) h to (get_or words j 0)
      done_is to agrees j from under = ⊎_elim
          (λ (e : j ≡ i).
          (let l = so.long in
          let now : get_or (set image i v) i 0 ≡ moved_word (from_space a.kind) h to (get_or words i 0) =
          get_or-set_same image i v 0 (omega arith) ∙ subst (λ (k : Kind). v ≡ moved_word (from_space k) h to (get_or words i 0)) so.added.same_kind (is to agrees ∙ ap (moved_word (from_space b.kind) h to) as_was) in
          subst (λ (n : ℕ). get_or (set image i v) n 0 ≡ moved_word (from_space a.kind) h to (get_or words n 0)) (sym e) now))
          (λ other. get_or-set_other image i j v 0 other ∙ so.done to (grows to agrees) j from (omega arith))
          (cases_eq j i)

      pub imaged_more : IsImaged h straight first words (set image i v) (i + 1) a c before after
      imaged_more = record {
        low = (let low = so.low in omega arith);
        high = omega arith;
        wide = so.wide;
        long = length-set image i v ∙ so.long;
        added = imaged_added;
        grows = λ to agrees. so.grows to (grows to agrees);
        met = met_is;
        done = done_is;
        rest = λ j under. (let low = so.low in get_or-set_other image i j v 0 (omega arith) ∙ so.rest j under);
        ahead = λ j past. get_or-set_other image i j v 0 (omega arith) ∙ so.ahead j (omega arith);
      }

  module _ (image : List ℕ) (i : ℕ) (all : 8 ≤ i) {Fixed : Type 0} {a b : Walked Fixed} {before after : (ℕ → Place) → Type 0} (so : IsImaged h straight first words image i a b before after) where
    imaged_met : All (Contains b.met) (named_by (from_space a.kind) h (drop first words))
    imaged_met =
        let high = so.high in let wide = so.wide in let l = length-drop first words in
        let whole : take (i - first) (drop first words) ≡ drop first words = take_all (i - first) (drop first words) (omega arith) in
        subst (λ (ws : List ℕ). All (Contains b.met) (named_by (from_space a.kind) h ws)) whole so.met

    imaged_is : (to : ℕ → Place) → after to → image ≡ take first words ++ map (moved_word (from_space a.kind) h to) (drop first words)
    imaged_is to agrees =
        let g = moved_word (from_space a.kind) h to in
        let low = so.low in let high = so.high in let wide = so.wide in let li = so.long in
        let lt : length (take first words) ≡ first = length-take-le first words (omega arith) in
        let lm : length (map g (drop first words)) ≡ length (drop first words) = length-map (drop first words) g in
        let ld = length-drop first words in
        let la = length-append (take first words) (map g (drop first words)) in
        let as_long : length image ≡ length (take first words ++ map g (drop first words)) = omega arith in
        ext_get_or 0 image (take first words ++ map g (drop first words)) as_long
        (λ (j : ℕ) under. ⊎_elim
        (λ (early : j < first).
        so.rest j early
        ∙ sym (get_or-take first words j 0 early)
        ∙ sym (get_or_append_left (take first words) (map g (drop first words)) 0 j (omega arith)))
        (λ (late : first ≤ j).
        (let there : first + (j - first) ≡ j = omega arith in
        so.done to agrees j late (omega arith)
        ∙ ap (λ (n : ℕ). g (get_or words n 0)) (sym there)
        ∙ ap g (sym (get_or-drop first words (j - first) 0))
        ∙ sym (get_or-map g (drop first words) (j - first) 0 0 (omega arith))
        ∙ sym (get_or-append_right (take first words) (map g (drop first words)) first j 0 lt late)))
        (cases_lt j first))

-- where all words were looked at, what they name is claimed, and they are moved
pub imaged_moves : {Table Fixed : Type 0} (walked : Table → Walked Fixed) (knows : Table → (ℕ → Place) → Type 0) (is_full : Table → Type 0) {before after : Table} (h : SpaceList) (straight : Bool) (first : ℕ) (words image : List ℕ) (i : ℕ) → 8 ≤ i
    → IsImaged h straight first words image i (walked before) (walked after) (knows before) (knows after) → MovesFrom walked knows is_full h straight first words image before after (Ok (tt {0}))
imaged_moves walked knows is_full h straight first words image i all so = record {
  claims = record { added = so.added; grows = so.grows; met = imaged_met h straight first words image i all so; full = tt };
  long = so.long;
  image = imaged_is h straight first words image i all so;
}
