-- Each step of a pass keeps the rule of the roll.
use Rattle.std.proofs.Common.{◌≡◌, ◌≢◌, ◌⊎◌, ◌∙◌, ℕ, ◌+◌, ◌≤◌, ◌==◌, zero, suc, List, [], ◌∷◌, ◌++◌, length, append-nil, set, true, false, true≢false, refl, sym, ap, subst, ⊎_elim, inl, inr, arith}
use Rattle.std.specs.List.{All}
use Rattle.std.proofs.lemmas.List.Elements.{All-append, All-cons, All-head, All-nil, All-tail}
use mathlib.Core.Option.{none, some, some-ne-none, some-injective}
use lib.ListN.{get_elem?}
use prog.Atomic.{either}
use Rattle.atomic_table.proofs.Lists.{at_set, at_snoc, set_else}
use Rattle.atomic_table.specs.Table.{Allows, Joins, Splits, State, step}
use Rattle.atomic_table.specs.Table.{keeps as stays}
use Rattle.tg_journal.specs.declared.entry.Entry.{Entry}
use Rattle.tg_passes.specs.declared.signed.Maker.{Maker}
use Rattle.tg_passes.specs.declared.signed.Maker.TheVariants.{Session, Keeper}
use Rattle.tg_passes.specs.declared.signed.Signed.{Signed}
use Rattle.tg_passes.specs.declared.pass.View.{View}
use Rattle.tg_passes.specs.Passes.{AreApart, AreOwn, BeginsWith, FitsLog, IsBelow, Issued, Kept, Knows, Looked, MayMake, Noted, Sat, entries_by, first_view, issuing, looking, no_view, noting, pass_part, roll_part, roll_view, sign, together}
use Rattle.tg_passes.proofs.Signing.{by_append, by_one, by_other, longer, nothing, session_keeper, whole}

off : false ≡ true → ⊥
off e = true≢false (sym e)

-- ---- one seat has a new view

module _ (views : List View) (id : ℕ) (v w : View) (kept : Kept views) (at : get_elem? views id ≡ some v) where
  -- the log goes on to this one, in which each other seat fits
  each_set : (log : List Signed) (low : ℕ) → ((by : ℕ) (u : View) → by ≢ id → get_elem? views by ≡ some u → FitsLog log kept.seat low by u) → FitsLog log kept.seat low id w
      → (by : ℕ) (u : View) → get_elem? (set views id w) by ≡ some u → FitsLog log kept.seat low by u
  each_set log low others mine by u e =
      ⊎_elim
      (λ (t : (by ≡ id) × (w ≡ u)). subst (λ (y : ℕ × View). FitsLog log kept.seat low y.0 y.1) (λ i. (sym t.0 i, t.1 i)) mine)
      (λ (t : (by ≢ id) × (get_elem? views by ≡ some u)). others by u t.0 t.1)
      (at_set views id by w u e)

  -- the seat acts for nobody new
  apart_set : ((u : View) (j : ℕ) → j ≢ id → get_elem? views j ≡ some u → w.acts ≡ true → u.acts ≡ true → w.maker ≢ u.maker) → AreApart (set views id w)
  apart_set new i j a b ei ej x y same =
      ⊎_elim
      (λ (t : (i ≡ id) × (w ≡ a)). ⊎_elim
      (λ (r : (j ≡ id) × (w ≡ b)). t.0 ∙ sym r.0)
      (λ (r : (j ≢ id) × (get_elem? views j ≡ some b)). absurd (new b j r.0 r.1 (ap (λ u. u.acts) t.1 ∙ x) y (ap (λ u. u.maker) t.1 ∙ same)))
      (at_set views id j w b ej))
      (λ (t : (i ≢ id) × (get_elem? views i ≡ some a)). ⊎_elim
      (λ (r : (j ≡ id) × (w ≡ b)). absurd (new a i t.0 t.1 (ap (λ u. u.acts) r.1 ∙ y) x (ap (λ u. u.maker) r.1 ∙ sym same)))
      (λ (r : (j ≢ id) × (get_elem? views j ≡ some b)). kept.apart i j a b t.1 r.1 x y same)
      (at_set views id j w b ej))
      (at_set views id i w a ei)

  -- who acts as before stays apart
  apart_as : w.maker ≡ v.maker → (w.acts ≡ true → v.acts ≡ true) → AreApart (set views id w)
  apart_as maker acts = apart_set (λ u j off_id there x y same. off_id (sym (kept.apart id j v u at there (acts x) y (sym maker ∙ same))))

-- ---- the entries of all, with one more

by_push : (maker : Maker) (all : List Signed) (e : Entry) → entries_by maker (all ++ sign maker e ∷ []) ≡ entries_by maker all ++ e ∷ []
by_push maker all e = by_append maker all (sign maker e ∷ []) ∙ ap (λ l. entries_by maker all ++ l) (by_one maker e)

by_push_other : (one other : Maker) (all : List Signed) (e : Entry) → one ≢ other → entries_by other (all ++ sign one e ∷ []) ≡ entries_by other all
by_push_other one other all e isnt = by_append other all (sign one e ∷ []) ∙ ap (λ l. entries_by other all ++ l) (by_other one other e isnt) ∙ append-nil (entries_by other all)

all_push : (P : Signed → Type 0) (all : List Signed) (s : Signed) → All P all → P s → All P (all ++ s ∷ [])
all_push P all s held one = All-append P all (s ∷ []) held (All-cons P s [] one (All-nil P))

-- a session whose worker is at the bound or after it made none
not_below : (low name : ℕ) (maker : Maker) → IsBelow low maker → low ≤ name → maker ≢ Session name
not_below low name (Session worker) below le is = let same = ap name_of is in omega (arith, same)
  where
    name_of : Maker → ℕ
    name_of (Session w) = w
    name_of Keeper = 0
not_below low name Keeper below le is = session_keeper name (sym is)

by_nobody : (name low : ℕ) (all : List Signed) → All (λ s. IsBelow low s.by) all → low ≤ name → entries_by (Session name) all ≡ []
by_nobody name low [] bound le = refl
by_nobody name low (s ∷ ss) bound le =
    let isnt : s.by ≢ Session name = not_below low name s.by (All-head (λ (x : Signed). IsBelow low x.by) s ss bound) le in
    let rest = by_nobody name low ss (All-tail (λ (x : Signed). IsBelow low x.by) s ss bound) le in
    by_append (Session name) (s ∷ []) ss ∙ (λ i. by_other s.by (Session name) s.entry isnt i ++ rest i)

-- who is below a bound is below a greater one
below_more : (low more : ℕ) (maker : Maker) → low ≤ more → IsBelow low maker → IsBelow more maker
below_more low more (Session worker) le below = omega (arith, le, below)
below_more low more Keeper le below = tt

bound_more : (low more : ℕ) (all : List Signed) → low ≤ more → All (λ s. IsBelow low s.by) all → All (λ s. IsBelow more s.by) all
bound_more low more [] le bound = All-nil (λ (s : Signed). IsBelow more s.by)
bound_more low more (s ∷ ss) le bound =
    All-cons (λ (x : Signed). IsBelow more x.by) s ss (below_more low more s.by le (All-head (λ (x : Signed). IsBelow low x.by) s ss bound)) (bound_more low more ss le (All-tail (λ (x : Signed). IsBelow low x.by) s ss bound))

-- ---- the rule at the start

pub begins : Kept (first_view ∷ [])
begins = record {
  log = [];
  seat = 0;
  low = 0;
  each = one;
  apart = alone;
  owned = All-nil (λ (s : Signed). MayMake s.by s.entry);
  bound = All-nil (λ (s : Signed). IsBelow 0 s.by);
}
  where
    one : (by : ℕ) (v : View) → get_elem? (first_view ∷ []) by ≡ some v → FitsLog [] 0 0 by v
    one zero v e = subst (FitsLog [] 0 0 0) (some-injective _ _ e) (record { roll = λ _. (refl, refl, refl); below = λ _. tt; own = λ _. refl; within = λ _. refl; front = nothing [] })
    one (suc by) v e = absurd (some-ne-none v (sym e))

    alone : AreApart (first_view ∷ [])
    alone zero zero v w ei ej x y same = refl
    alone zero (suc j) v w ei ej x y same = absurd (some-ne-none w (sym ej))
    alone (suc i) j v w ei ej x y same = absurd (some-ne-none v (sym ei))

-- ---- a step of the seat that keeps

abbrev Seats : Type 0
Seats = State Entry View

-- what the rule says of the seat that keeps
knows : (views : List View) (id : ℕ) (v : View) (kept : Kept views) → get_elem? views id ≡ some v → v.keeps ≡ true → Knows v
knows views id v kept at keeper_is =
    let mine = kept.each id v at in
    let log : kept.log ≡ v.all = sym (mine.roll keeper_is).1 in
    record {
      sees = λ a. record {
        own = subst (λ (l : List Signed). entries_by v.maker l ≡ v.made) log (mine.own a);
        front = subst (λ (l : List Signed). BeginsWith l v.seen) log mine.front;
        within = mine.within a;
      };
      owned = subst AreOwn log kept.owned;
    }

-- the maker of the seat has then seen all
pub looks : (views : List View) (id : ℕ) (v : View) (kept : Kept views) → get_elem? views id ≡ some v → v.keeps ≡ true → Kept (set views id (looking v))
looks views id v kept at keeper_is =
    let mine = kept.each id v at in
    let roll = mine.roll keeper_is in
    record {
      log = kept.log;
      seat = kept.seat;
      low = kept.low;
      each = each_set views id v (looking v) kept at kept.log kept.low (λ by u _ there. kept.each by u there) (record {
        roll = λ _. roll;
        below = mine.below;
        own = mine.own;
        within = λ a. ap (entries_by v.maker) roll.1 ∙ mine.own a;
        front = subst (λ (l : List Signed). BeginsWith kept.log l) (sym roll.1) (whole kept.log);
      });
      apart = apart_as views id v (looking v) kept at refl (λ a. a);
      owned = kept.owned;
      bound = kept.bound;
    }

-- an entry of the maker for whom the seat acts goes after the others
pub notes : (views : List View) (id : ℕ) (v : View) (e : Entry) (kept : Kept views) → get_elem? views id ≡ some v → v.keeps ≡ true → v.acts ≡ true → MayMake v.maker e → Kept (set views id (noting v e))
notes views id v e kept at keeper_is acting may =
    let mine = kept.each id v at in
    let roll = mine.roll keeper_is in
    let s : Signed = sign v.maker e in
    let next : v.all ++ s ∷ [] ≡ kept.log ++ s ∷ [] = ap (λ (l : List Signed). l ++ s ∷ []) roll.1 in
    let own : entries_by v.maker (kept.log ++ s ∷ []) ≡ v.made ++ e ∷ [] = by_push v.maker kept.log e ∙ ap (λ l. l ++ e ∷ []) (mine.own acting) in
    record {
      log = kept.log ++ s ∷ [];
      seat = kept.seat;
      low = kept.low;
      each = each_set views id v (noting v e) kept at (kept.log ++ s ∷ []) kept.low
          (λ by u off_id there. let it = kept.each by u there in record {
            roll = λ k. absurd (off_id ((it.roll k).0 ∙ sym roll.0));
            below = it.below;
            own = λ a. by_push_other v.maker u.maker kept.log e (λ same. off_id (kept.apart by id u v there at a acting (sym same))) ∙ it.own a;
            within = it.within;
            front = longer kept.log u.seen (s ∷ []) it.front;
          })
          (record {
            roll = λ _. (roll.0, next, roll.2);
            below = mine.below;
            own = λ _. own;
            within = λ _. ap (entries_by v.maker) next ∙ own;
            front = subst (λ (l : List Signed). BeginsWith (kept.log ++ s ∷ []) l) (sym next) (whole (kept.log ++ s ∷ []));
          });
      apart = apart_as views id v (noting v e) kept at refl (λ a. a);
      owned = all_push (λ x. MayMake x.by x.entry) kept.log s kept.owned may;
      bound = all_push (λ x. IsBelow kept.low x.by) kept.log s kept.bound (mine.below acting);
    }

-- a seat acts for the session of a worker who has no entry, at the bound or after it
pub issues : (views : List View) (id : ℕ) (v : View) (name : ℕ) (kept : Kept views) → get_elem? views id ≡ some v → v.keeps ≡ true → v.below ≤ name → Kept (set views id (issuing v name))
issues views id v name kept at keeper_is low =
    let roll = (kept.each id v at).roll keeper_is in
    let b = roll.2 in
    let under : kept.low ≤ name = omega (arith, b, low) in
    let more : kept.low ≤ name + 1 = omega (arith, under) in
    let empty = by_nobody name kept.low kept.log kept.bound under in
    record {
      log = kept.log;
      seat = kept.seat;
      low = name + 1;
      each = each_set views id v (issuing v name) kept at kept.log (name + 1)
          (λ by u off_id there. let it = kept.each by u there in record {
            roll = λ k. absurd (off_id ((it.roll k).0 ∙ sym roll.0));
            below = λ a. below_more kept.low (name + 1) u.maker more (it.below a);
            own = it.own;
            within = it.within;
            front = it.front;
          })
          (record {
            roll = λ _. (roll.0, roll.1, refl);
            below = λ _. omega arith;
            own = λ _. empty;
            within = λ _. ap (entries_by (Session name)) roll.1 ∙ empty;
            front = subst (λ (l : List Signed). BeginsWith kept.log l) (sym roll.1) (whole kept.log);
          });
      apart = apart_set views id v (issuing v name) kept at (λ u j off_id there _ acts same. not_below kept.low name u.maker ((kept.each j u there).below acts) under (sym same));
      owned = kept.owned;
      bound = bound_more kept.low (name + 1) kept.log more kept.bound;
    }

-- ---- two seats become one, and one two

pub joins : (id other : ℕ) (all : List Signed) (below : ℕ) (u : View) (s : Seats) → Kept s.views → get_elem? s.views id ≡ some (roll_view all below) → ¬ (other ≡ id) → get_elem? (set s.views id (together (roll_view all below) u)) other ≡ some u
    → Kept (set (set s.views id (together (roll_view all below) u)) other no_view)
joins id other all below u s kept at apart there =
    let v = roll_view all below in
    let w = together v u in
    let theirs : get_elem? s.views other ≡ some u = ⊎_elim (λ (t : (other ≡ id) × (w ≡ u)). absurd (apart t.0)) (λ (t : (other ≢ id) × (get_elem? s.views other ≡ some u)). t.1) (at_set s.views id other w u there) in
    let roll = (kept.each id v at).roll refl in
    let it = kept.each other u theirs in
    let spent : FitsLog kept.log kept.seat kept.low other no_view = record { roll = λ k. absurd (off k); below = λ a. absurd (off a); own = λ a. absurd (off a); within = λ a. absurd (off a); front = nothing kept.log } in
    -- first the other is spent, then this one acts for it
    let first : Kept (set s.views other no_view) = record {
      log = kept.log;
      seat = kept.seat;
      low = kept.low;
      each = each_set s.views other u no_view kept theirs kept.log kept.low (λ by x _ e. kept.each by x e) spent;
      apart = apart_set s.views other u no_view kept theirs (λ x j off_id e a b same. off a);
      owned = kept.owned;
      bound = kept.bound;
    } in
    let here : get_elem? (set s.views other no_view) id ≡ some v = set_else s.views other id no_view (λ is. apart (sym is)) ∙ at in
    let second : Kept (set (set s.views other no_view) id w) = record {
      log = kept.log;
      seat = kept.seat;
      low = kept.low;
      each = each_set (set s.views other no_view) id v w first here kept.log kept.low (λ by x _ e. first.each by x e) (record { roll = λ _. roll; below = it.below; own = it.own; within = it.within; front = it.front });
      apart = apart_set (set s.views other no_view) id v w first here (λ x j off_id e a b same.
          ⊎_elim
          (λ (t : (j ≡ other) × (no_view ≡ x)). off (ap (λ y. y.acts) t.1 ∙ b))
          (λ (t : (j ≢ other) × (get_elem? s.views j ≡ some x)). t.0 (kept.apart j other x u t.1 theirs b a (sym same)))
          (at_set s.views other j no_view x e));
      owned = kept.owned;
      bound = kept.bound;
    } in
    subst Kept (swapped s.views other id no_view w (λ is. apart is)) second
  where
    swapped : (l : List View) (i j : ℕ) (a b : View) → i ≢ j → set (set l i a) j b ≡ set (set l j b) i a
    swapped [] i j a b n = refl
    swapped (x ∷ xs) zero zero a b n = absurd (n refl)
    swapped (x ∷ xs) zero (suc j) a b n = refl
    swapped (x ∷ xs) (suc i) zero a b n = refl
    swapped (x ∷ xs) (suc i) (suc j) a b n = ap (λ l. x ∷ l) (swapped xs i j a b (λ e. n (ap suc e)))

pub splits : (id : ℕ) (v : View) (s : Seats) → Kept s.views → get_elem? s.views id ≡ some v → Kept (set s.views id (roll_part v) ++ pass_part v ∷ [])
splits id v s kept at =
    let mine = kept.each id v at in
    let w = roll_part v in
    let u = pass_part v in
    let left : Kept (set s.views id w) = record {
      log = kept.log;
      seat = kept.seat;
      low = kept.low;
      each = each_set s.views id v w kept at kept.log kept.low (λ by x _ e. kept.each by x e) (record { roll = mine.roll; below = λ a. absurd (off a); own = λ a. absurd (off a); within = λ a. absurd (off a); front = nothing kept.log });
      apart = apart_set s.views id v w kept at (λ x j off_id e a b same. off a);
      owned = kept.owned;
      bound = kept.bound;
    } in
    record {
      log = kept.log;
      seat = kept.seat;
      low = kept.low;
      each = λ by x e. ⊎_elim (λ was. left.each by x was)
          (λ (is : u ≡ x). subst (FitsLog kept.log kept.seat kept.low by) is (record { roll = λ k. absurd (off k); below = mine.below; own = mine.own; within = mine.within; front = mine.front }))
          (at_snoc (set s.views id w) u x by e);
      apart = λ i j a b ei ej x y same. ⊎_elim
          (λ (p : get_elem? (set s.views id w) i ≡ some a). ⊎_elim
          (λ (q : get_elem? (set s.views id w) j ≡ some b). left.apart i j a b p q x y same)
          (λ (q : (j ≡ length (set s.views id w)) × (u ≡ b)). absurd (clash i a p x (ap (λ z. z.acts) q.1 ∙ y) (same ∙ sym (ap (λ z. z.maker) q.1))))
          (at_end (set s.views id w) u b j ej))
          (λ (p : (i ≡ length (set s.views id w)) × (u ≡ a)). ⊎_elim
          (λ (q : get_elem? (set s.views id w) j ≡ some b). absurd (clash j b q y (ap (λ z. z.acts) p.1 ∙ x) (sym same ∙ sym (ap (λ z. z.maker) p.1))))
          (λ (q : (j ≡ length (set s.views id w)) × (u ≡ b)). p.0 ∙ sym q.0)
          (at_end (set s.views id w) u b j ej))
          (at_end (set s.views id w) u a i ei);
      owned = kept.owned;
      bound = kept.bound;
    }
  where
    clash : (k : ℕ) (c : View) → get_elem? (set s.views id (roll_part v)) k ≡ some c → c.acts ≡ true → v.acts ≡ true → c.maker ≡ v.maker → ⊥
    clash k c e acts mine same = ⊎_elim
        (λ (t : (k ≡ id) × (roll_part v ≡ c)). off (ap (λ z. z.acts) t.1 ∙ acts))
        (λ (t : (k ≢ id) × (get_elem? s.views k ≡ some c)). t.0 (kept.apart k id c v t.1 at acts mine same))
        (at_set s.views id k (roll_part v) c e)

    at_end : (l : List View) (a b : View) (j : ℕ) → get_elem? (l ++ a ∷ []) j ≡ some b → (get_elem? l j ≡ some b) ⊎ ((j ≡ length l) × (a ≡ b))
    at_end [] a b zero e = inr (refl, some-injective a b e)
    at_end [] a b (suc j) e = absurd (some-ne-none b (sym e))
    at_end (x ∷ xs) a b zero e = inl e
    at_end (x ∷ xs) a b (suc j) e = ⊎_elim (λ (t : get_elem? xs j ≡ some b). inl t) (λ (t : (j ≡ length xs) × (a ≡ b)). inr (ap suc t.0, t.1)) (at_end xs a b j e)

-- ---- the moves, of a seat whose view is known

abbrev pub Rule : Seats → Type 0
Rule s = Kept s.views

pub joins_as : (id other : ℕ) (v u : View) (all : List Signed) (below : ℕ) → v ≡ roll_view all below → Joins Rule id v other u (together v u) no_view
joins_as id other v u all below is = subst (λ (x : View). Joins Rule id x other u (together x u) no_view) (sym is) (joins id other all below u)

pub splits_as : (id : ℕ) (v : View) → Splits Rule id v (roll_part v) (pass_part v)
splits_as id v = splits id v

pub looks_as : (slots id : ℕ) (me : Sat) → me.0.keeps ≡ true → Allows Rule slots id me 0 (λ n. n) (Looked (step slots 0 0 0 none) me)
looks_as slots id me keeper_is s kept homes at fits = (looking me.0, stays, tt, looks s.views id me.0 kept at keeper_is, (refl, refl, knows s.views id me.0 kept at keeper_is))

pub notes_as : (slots id : ℕ) (me : Sat) (e : Entry) → me.0.keeps ≡ true → me.0.acts ≡ true → MayMake me.0.maker e → Allows Rule slots id me 0 (λ n. either (n == 0) 0 n) (Noted (step slots 0 0 0 (some e)) me)
notes_as slots id me e keeper_is acting may s kept homes at fits = (noting me.0 e, stays, tt, notes s.views id me.0 e kept at keeper_is acting may, (refl, refl, knows s.views id me.0 kept at keeper_is))

pub issues_as : (slots id : ℕ) (me : Sat) (name : ℕ) → me.0.keeps ≡ true → me.0.below ≤ name → Allows Rule slots id me 0 (λ n. either (n == name) name n) (Issued (step slots 0 name name none) me)
issues_as slots id me name keeper_is low s kept homes at fits = (issuing me.0 name, stays, tt, issues s.views id me.0 name kept at keeper_is low, (refl, refl))

-- the one view of a badge
pub only_one : (v w : View) (vs ws : List View) → vs ≡ v ∷ [] → vs ≡ ws → ws ≡ w ∷ [] → v ≡ w
only_one v w vs ws here same there = ap (λ (l : List View). first l) (sym here ∙ same ∙ there)
  where
    first : List View → View
    first [] = no_view
    first (x ∷ xs) = x
