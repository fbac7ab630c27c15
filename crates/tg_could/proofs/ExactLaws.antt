-- Of each question one of two is so: two sets part x from the right, or the right is brought to x; so x never holds it, or
-- could where names aren't short.
use Rattle.std.proofs.Common.{◌≡◌, ◌≢◌, ◌⊎◌, inl, inr, ⊎_elim, ℕ, zero, suc, ◌+◌, ◌<◌, ◌≤◌, ◌==◌, ◌||◌, Bool, true, false, List, [], length, refl, sym, ap, ◌∙◌, subst, arith, eq-eqb}
use Rattle.std.proofs.lemmas.Bool.{eqb-true, false≢true, cases_Bool, cases_eq, cases_lt, or_left, or_right}
use Rattle.tg_rights.specs.RightSet.{RightSet, has}
use Rattle.tg_rights.specs.declared.Right.{Right}
use Rattle.tg_rights.specs.declared.Right.TheVariants.{T, G}
use Rattle.tg_model.specs.declared.opening.TheConstants.{MAX_WORKERS}
use Rattle.tg_model.specs.Graph.{ProtectionGraph, IsSound}
use Rattle.tg_model.specs.Picture.{Holds, IsMade}
use Rattle.tg_model.proofs.PictureLaws.{or_true}
use Rattle.tg_could.specs.Turns.{Acts, MayCome, IsSilent, NeverHolds, CouldHold}
use Rattle.tg_could.specs.Answered.{IsShort}
use Rattle.tg_could.specs.Separation.{Sides, MayAdd, Parts, Separates}
use Rattle.tg_could.specs.Led.{Way, back, forward, Led, source, maker, take_back, take_on, grant_on, grant_back, turns_forward, turns_back, IsBrought, is_held, is_got, is_given, is_made, HasHelp}
use Rattle.tg_could.proofs.SeparationLaws.{Parts-by, parted-never}
use Rattle.tg_could.proofs.StillLaws.{IsAlone, same-never, alone-never}
use Rattle.tg_could.proofs.MoveLaws.{IsFit}
use Rattle.tg_could.proofs.EndLaws.{Ends}
use Rattle.tg_could.proofs.LedLaws.{contains_or, IsFit-sound, brought_ends}
use Rattle.tg_could.proofs.LaterLaws.{may_come_or, over_made, new_ends, late_ends}

-- ---- tests

-- two things lead to a third, or they don't
leads_or : (p q r : Bool) → (p ≡ true → q ≡ true → r ≡ true) ⊎ ((p ≡ true) × (q ≡ true) × (r ≡ false))
leads_or true true true = inl (λ h k. refl)
leads_or true true false = inr (refl, refl, refl)
leads_or true false r = inl (λ h k. absurd (false≢true k))
leads_or false q r = inl (λ h. absurd (false≢true h))

-- three things don't all hold, or they do
apart_or : (p q r : Bool) → (p ≡ true → q ≡ true → ¬ (r ≡ true)) ⊎ ((p ≡ true) × (q ≡ true) × (r ≡ true))
apart_or true true true = inr (refl, refl, refl)
apart_or true true false = inl (λ h k l. false≢true l)
apart_or true false r = inl (λ h k. absurd (false≢true k))
apart_or false q r = inl (λ h. absurd (false≢true h))

alike_or : (p q : Bool) → (p ≡ q) ⊎ ((p ≡ true) × (q ≡ false)) ⊎ ((p ≡ false) × (q ≡ true))
alike_or true true = inl refl
alike_or true false = inr (inl (refl, refl))
alike_or false true = inr (inr (refl, refl))
alike_or false false = inl refl

-- each number below n has it, or something else was found
each_or : {F : Type 0} (P : ℕ → Type 0) → ((k : ℕ) → P k ⊎ F) → (n : ℕ) → ((k : ℕ) → k < n → P k) ⊎ F
each_or P one zero = inl (λ k low. absurd (omega (arith, low)))
each_or P one (suc n) =
    ⊎_elim
    (λ below.
    ⊎_elim
    (λ here.
    inl (λ k low.
    ⊎_elim (λ (same : k ≡ n). subst P (sym same) here) (λ (other : k ≡ n → ⊥). below k (omega (arith, low, other))) (cases_eq k n)))
    (λ found. inr found) (one n))
    (λ found. inr found) (each_or P one n)

-- ---- who isn't in a set yet

-- one where it isn't there
one_out : Bool → ℕ
one_out true = 0
one_out false = 1

-- how many numbers below n aren't in a set
left_out : (ℕ → Bool) → ℕ → ℕ
left_out f zero = 0
left_out f (suc n) = one_out (f n) + left_out f n

out_le : (p q : Bool) → (p ≡ true → q ≡ true) → one_out q ≤ one_out p
unfolding one_out
out_le true true on = omega arith
out_le true false on = absurd (false≢true (on refl))
out_le false true on = omega arith
out_le false false on = omega arith

out_lt : (p q : Bool) → p ≡ false → q ≡ true → one_out q < one_out p
unfolding one_out
out_lt true q h k = absurd (false≢true (sym h))
out_lt false true h k = omega arith
out_lt false false h k = absurd (false≢true k)

module _ (f more : ℕ → Bool) (on : (c : ℕ) → f c ≡ true → more c ≡ true) where
  left_le : (n : ℕ) → left_out more n ≤ left_out f n
  unfolding left_out
  left_le zero = omega arith
  left_le (suc n) = omega (arith, out_le (f n) (more n) (on n), left_le n)

  left_less : (n v : ℕ) → v < n → f v ≡ false → more v ≡ true → left_out more n < left_out f n
  unfolding left_out
  left_less zero v low out into = absurd (omega (arith, low))
  left_less (suc n) v low out into =
      ⊎_elim
      (λ (same : v ≡ n).
      omega (arith, out_lt (f n) (more n) (ap f (sym same) ∙ out) (ap more (sym same) ∙ into), left_le n))
      (λ (other : v ≡ n → ⊥).
      omega (arith, out_le (f n) (more n) (on n), left_less n v (omega (arith, low, other)) out into))
      (cases_eq v n)

-- with v in it there is one fewer
with_less : (f : ℕ → Bool) (n v : ℕ) → v < n → f v ≡ false → left_out (λ c. f c || (c == v)) n < left_out f n
with_less f n v low out =
    left_less f (λ c. f c || (c == v)) (λ c is. or_left (f c) (c == v) is) n v low out (or_right (f v) (v == v) (eq-eqb v v refl))

-- ---- sets that grow

-- whether a vertex is in the set of this way
abbrev is_in : Sides → Way → ℕ → Bool
is_in s back v = s.back v
is_in s forward v = s.forward v

-- with v in one of the sets
abbrev with_one : Sides → Way → ℕ → Sides
with_one s back v = record { forward = s.forward; back = λ c. s.back c || (c == v) }
with_one s forward v = record { forward = λ c. s.forward c || (c == v); back = s.back }

module _ (silent : ℕ → Type 0) (right : Right) (y : ℕ) (g : ProtectionGraph) where
  -- the two sets hold none but those whom walks lead to
  record HoldsLed (s : Sides) : Type 0 where
    of : (way : Way) (v : ℕ) → is_in s way v ≡ true → Led silent right y g way v

  -- one whom a walk leads to and who isn't in its set
  record IsMissed (s : Sides) : Type 0 where
    way : Way
    v : ℕ
    led : Led silent right y g way v
    out : is_in s way v ≡ false

  Led-made : IsMade g → (way : Way) (v : ℕ) → Led silent right y g way v → v < g.made
  Led-made made way v (source held) = (made.ends v y right held).0
  Led-made made way v (maker may acts) = made.subjects v acts.0
  Led-made made way v (take_back {b = b} edge led) = (made.ends v b T edge).0
  Led-made made way v (take_on {a = a} edge led) = (made.ends a v T edge).1
  Led-made made way v (grant_on {a = a} edge led) = (made.ends a v G edge).1
  Led-made made way v (grant_back {b = b} edge led) = (made.ends v b G edge).0
  Led-made made way v (turns_forward acts led) = made.subjects v acts.0
  Led-made made way v (turns_back acts led) = made.subjects v acts.0

  HoldsLed-with_one : (s : Sides) → HoldsLed s → (way : Way) (v : ℕ) → Led silent right y g way v → HoldsLed (with_one s way v)
  HoldsLed-with_one s holds back v led = record { of = λ way c is. by_way way c is }
    where
      by_way : (way : Way) (c : ℕ) → is_in (with_one s back v) way c ≡ true → Led silent right y g way c
      by_way back c is =
          ⊎_elim (λ old. holds.of back c old) (λ new. subst (Led silent right y g back) (sym (eqb-true c v new)) led) (or_true (s.back c) (c == v) is)
      by_way forward c is = holds.of forward c is
  HoldsLed-with_one s holds forward v led = record { of = λ way c is. by_way way c is }
    where
      by_way : (way : Way) (c : ℕ) → is_in (with_one s forward v) way c ≡ true → Led silent right y g way c
      by_way back c is = holds.of back c is
      by_way forward c is =
          ⊎_elim (λ old. holds.of forward c old) (λ new. subst (Led silent right y g forward) (sym (eqb-true c v new)) led) (or_true (s.forward c) (c == v) is)

  -- how many are in neither set
  abbrev room_in : Sides → ℕ
  room_in s = left_out s.forward g.made + left_out s.back g.made

  room_less : (s : Sides) (way : Way) (v : ℕ) → v < g.made → is_in s way v ≡ false → room_in (with_one s way v) < room_in s
  room_less s back v made out = omega (arith, with_less s.back g.made v made out)
  room_less s forward v made out = omega (arith, with_less s.forward g.made v made out)

  -- ---- what is wrong where two sets don't part

  module _ (x : ℕ) (s : Sides) (holds : HoldsLed s) where
    abbrev Fault : Type 0
    Fault = IsMissed s ⊎ IsBrought silent right y g x

    missed : (way : Way) (v : ℕ) → Led silent right y g way v → is_in s way v ≡ false → Fault
    missed way v led out = inl (record { way = way; v = v; led = led; out = out })

    -- rights that are from a to b lead out of neither set, and x is neither their holder nor their gift; or one is missed, or
    -- the right is brought to x
    may_add_or : (a b : ℕ) (rights : RightSet) → ((q : Right) → has rights q ≡ true → Holds g.label a q b) → MayAdd s x right y a b rights ⊎ Fault
    may_add_or a b rights stands =
        ⊎_elim (λ take_on_h.
        ⊎_elim (λ take_back_h.
        ⊎_elim (λ grant_on_h.
        ⊎_elim (λ grant_back_h.
        ⊎_elim (λ source_h.
        ⊎_elim (λ not_held_h.
        ⊎_elim (λ not_granted_h.
        inl (record {
          keeps = record {
            take_on = take_on_h;
            take_back = take_back_h;
            grant_on = grant_on_h;
            grant_back = grant_back_h;
            source = λ h at_y. source_h h (eq-eqb b y at_y);
          };
          not_held = λ at_x at_y. not_held_h (eq-eqb a x at_x) (eq-eqb b y at_y);
          not_granted = λ at_x. not_granted_h (eq-eqb b x at_x);
        }))
        (λ (at_x, h, is). inr (inr (is_given (subst (λ (v : ℕ). Holds g.label a G v) (eqb-true b x at_x) (stands G h)) (holds.of forward a is))))
        (apart_or (b == x) (has rights G) (s.forward a)))
        (λ (at_x, at_y, h).
        inr (inr (is_held (subst (λ (v : ℕ). Holds g.label v right y) (eqb-true a x at_x) (over_y at_y h)))))
        (apart_or (a == x) (b == y) (has rights right)))
        (λ (h, at_y, out). inr (missed back a (source (over_y at_y h)) out))
        (leads_or (has rights right) (b == y) (s.back a)))
        (λ (h, is, out). inr (missed back a (grant_back (stands G h) (holds.of forward b is)) out))
        (leads_or (has rights G) (s.forward b) (s.back a)))
        (λ (h, is, out). inr (missed back b (grant_on (stands G h) (holds.of forward a is)) out))
        (leads_or (has rights G) (s.forward a) (s.back b)))
        (λ (h, is, out). inr (missed back a (take_back (stands T h) (holds.of back b is)) out))
        (leads_or (has rights T) (s.back b) (s.back a)))
        (λ (h, is, out). inr (missed forward b (take_on (stands T h) (holds.of forward a is)) out))
        (leads_or (has rights T) (s.forward a) (s.forward b))
      where
        over_y : (b == y) ≡ true → has rights right ≡ true → Holds g.label a right y
        over_y at_y h = subst (λ (v : ℕ). Holds g.label a right v) (eqb-true b y at_y) (stands right h)

    -- one who acts is as a separation asks
    record Even (p : ℕ) : Type 0 where
      alike : s.forward p ≡ s.back p
      not_x : p ≡ x → ¬ (s.back p ≡ true)
      y_may_come : MayCome g y → s.back p ≡ true
      x_may_come : MayCome g x → ¬ (s.back p ≡ true)

    -- or it is missed, or the right is brought to x
    even_or : (p : ℕ) → Acts silent g p → Even p ⊎ Fault
    even_or p acts =
        ⊎_elim (λ same. ⊎_elim (in_both same) (in_none same) (cases_Bool (s.back p)))
        (λ differ.
        ⊎_elim (λ (is, out). inr (missed back p (turns_back acts (holds.of forward p is)) out))
        (λ (out, is). inr (missed forward p (turns_forward acts (holds.of back p is)) out)) differ)
        (alike_or (s.forward p) (s.back p))
      where
        in_both : s.forward p ≡ s.back p → s.back p ≡ true → Even p ⊎ Fault
        in_both same is =
            ⊎_elim (λ (at_x : p ≡ x). inr (inr (subst (IsBrought silent right y g) at_x (is_got acts (holds.of back p is)))))
            (λ (other : p ≡ x → ⊥).
            ⊎_elim (λ comes. inr (inr (is_made comes acts (holds.of back p is))))
            (λ none. inl (record { alike = same; not_x = λ at_x _. other at_x; y_may_come = λ _. is; x_may_come = λ comes _. none comes }))
            (may_come_or g x))
            (cases_eq p x)

        in_none : s.forward p ≡ s.back p → s.back p ≡ false → Even p ⊎ Fault
        in_none same out =
            let none_in : ¬ (s.back p ≡ true) = λ is. false≢true (sym out ∙ is) in
            ⊎_elim (λ comes. inr (missed back p (maker comes acts) out))
            (λ none. inl (record { alike = same; not_x = λ _. none_in; y_may_come = λ comes. absurd (none comes); x_may_come = λ _. none_in }))
            (may_come_or g y)

    -- the two sets part x from the right, or one is missed, or the right is brought to x
    module _ (made : IsMade g) (decided : (p : ℕ) → Acts silent g p ⊎ (Acts silent g p → ⊥)) where
      abbrev Adds : ℕ → ℕ → Type 0
      Adds a b = MayAdd s x right y a b (g.label a b)

      parts_of : ((a : ℕ) → a < g.made → (b : ℕ) → b < g.made → Adds a b) → Parts s x right y g.label
      parts_of adds =
          Parts-by s x right y g.label
          (λ a b q h. let e = made.ends a b q h in record { rights = g.label a b; has_it = h; may = adds a e.0 b e.1 })

      even_of : (p : ℕ) → (Acts silent g p → Even p) ⊎ Fault
      even_of p =
          ⊎_elim (λ acts. ⊎_elim (λ even. inl (λ _. even)) (λ fault. inr fault) (even_or p acts)) (λ none. inl (λ acts. absurd (none acts)))
          (decided p)

      parts_or : Separates silent s x right y g ⊎ Fault
      parts_or =
          ⊎_elim (λ adds.
          ⊎_elim (λ even.
          let at : (p : ℕ) → Acts silent g p → Even p = λ p acts. even p (made.subjects p acts.0) acts in
          inl (record {
            labels = parts_of adds;
            alike = λ p acts. (at p acts).alike;
            not_taken = λ acts. (at x acts).not_x refl;
            y_may_come = λ comes p acts. (at p acts).y_may_come comes;
            x_may_come = λ comes p acts. (at p acts).x_may_come comes;
          }))
          (λ fault. inr fault) (each_or (λ p. Acts silent g p → Even p) even_of g.made))
          (λ fault. inr fault)
          (each_or (λ a. (b : ℕ) → b < g.made → Adds a b)
          (λ a. each_or (λ b. Adds a b) (λ b. may_add_or a b (g.label a b) (λ q h. h)) g.made) g.made)

  -- some sides part x from the right
  abbrev IsParted : ℕ → Type 0
  IsParted x = (s : Sides) × Separates silent s x right y g

  module _ (x : ℕ) (made : IsMade g) (decided : (p : ℕ) → Acts silent g p ⊎ (Acts silent g p → ⊥)) where
    -- with one more who is missed each time
    parted_or : (fuel : ℕ) (s : Sides) → HoldsLed s → room_in s < fuel → IsParted x ⊎ IsBrought silent right y g x
    parted_or zero s holds low = absurd (omega (arith, low))
    parted_or (suc fuel) s holds low =
        ⊎_elim (λ parts. inl (s, parts))
        (λ fault.
        ⊎_elim
        (λ (miss : IsMissed s).
        let less = room_less s miss.way miss.v (Led-made made miss.way miss.v miss.led) miss.out in
        parted_or fuel (with_one s miss.way miss.v) (HoldsLed-with_one s holds miss.way miss.v miss.led) (omega (arith, less, low)))
        (λ brought. inr brought) fault)
        (parts_or x s holds made decided)

    pub parted_or_brought : IsParted x ⊎ IsBrought silent right y g x
    parted_or_brought =
        let s : Sides = record { forward = λ c. false; back = λ c. false } in
        parted_or (room_in s + 1) s (record { of = none }) (omega arith)
      where
        none : (way : Way) (v : ℕ) → is_in (record { forward = λ c. false; back = λ c. false }) way v ≡ true → Led silent right y g way v
        none back v is = absurd (false≢true is)
        none forward v is = absurd (false≢true is)

  -- ---- whether y is alone

  module _ (made : IsMade g) (decided : (p : ℕ) → Acts silent g p ⊎ (Acts silent g p → ⊥)) where
    help_or_alone : (x : ℕ) → HasHelp silent g y ⊎ IsAlone silent x right y g
    help_or_alone x =
        ⊎_elim (λ few. inl (inl few))
        (λ many.
        ⊎_elim (λ alone. inr (record { alone = λ p acts. alone p (made.subjects p acts.0) acts; full = inl many })) (λ other. inl (inr other))
        (each_or (λ p. Acts silent g p → p ≡ y) one g.made))
        (cases_lt (length g.subjects) MAX_WORKERS)
      where
        one : (p : ℕ) → (Acts silent g p → p ≡ y) ⊎ ((q : ℕ) × Acts silent g q × (q ≢ y))
        one p =
            ⊎_elim
            (λ acts. ⊎_elim (λ (same : p ≡ y). inl (λ _. same)) (λ other. inr (p, acts, other)) (cases_eq p y))
            (λ none. inl (λ acts. absurd (none acts))) (decided p)

-- whether one acts where a list says who is silent
pub acts_or : (silent : List ℕ) (g : ProtectionGraph) (p : ℕ) → Acts (IsSilent silent g) g p ⊎ (Acts (IsSilent silent g) g p → ⊥)
acts_or silent g p =
    ⊎_elim
    (λ subject.
    ⊎_elim
    (λ listed.
    ⊎_elim (λ low. inr (λ acts. acts.1 (listed, low))) (λ high. inl (subject, λ is. omega (arith, is.1, high)))
    (cases_lt p g.made))
    (λ unlisted. inl (subject, λ is. unlisted is.0))
    (contains_or silent p))
    (λ none. inr (λ acts. none acts.0))
    (contains_or g.subjects p)

-- ---- each question

module _ (silent : ℕ → Type 0) (g : ProtectionGraph) (sound : IsSound g) (was_made : (p : ℕ) → silent p → p < g.made) (x : ℕ) (right : Right) (y : ℕ) (long : ¬ IsShort g x y) (differ : x ≢ y) (help : HasHelp silent g y) where
  abbrev fit : IsFit g
  fit = IsFit-sound g sound

  -- as many names are left as are enough for two that were made
  room : y < g.made → g.made + MAX_WORKERS ≤ g.limit
  room y_made = ⊎_elim (λ less. absurd (long (y_made, inl less))) (λ wide. omega (arith, wide)) (cases_lt g.limit (g.made + 64))

  -- and one more for x
  room_for_x : y < g.made → MayCome g x → g.made + MAX_WORKERS + 1 ≤ g.limit
  room_for_x y_made comes =
      ⊎_elim (λ less. absurd (long (y_made, inr (comes, less)))) (λ wide. omega (arith, wide)) (cases_lt g.limit (g.made + 65))

  -- x was made, and y too
  among_made : ¬ MayCome g y → x < g.made → y < g.made → IsBrought silent right y g x → Ends silent g (λ k. Holds k.label x right y)
  among_made past x_made y_made brought =
      brought_ends silent g fit sound.few_subjects (room y_made) was_made x x_made right y differ past help brought

  made_ends : ¬ MayCome g y → IsBrought silent right y g x → Ends silent g (λ k. Holds k.label x right y)
  made_ends past (is_held held) =
      let ends = fit.made.ends x y right held in
      among_made past ends.0 ends.1 (is_held held)
  made_ends past (is_got acts led) =
      among_made past (fit.made.subjects x acts.0) (over_made silent right y g fit past back x led) (is_got acts led)
  made_ends past (is_given {a = a} granter led) =
      among_made past (fit.made.ends a x G granter).1 (over_made silent right y g fit past forward a led) (is_given granter led)
  made_ends past (is_made {p = p} comes acts led) =
      late_ends silent g fit sound.few_subjects was_made x right y differ comes
      (room_for_x (over_made silent right y g fit past back p led) comes) past help p acts led

  -- what is brought to x ends there
  pub brought_comes : IsBrought silent right y g x → Ends silent g (λ k. Holds k.label x right y)
  brought_comes brought =
      ⊎_elim (λ comes. new_ends silent g fit x right y differ comes brought) (λ past. made_ends past brought) (may_come_or g y)

module _ (silent : List ℕ) (g : ProtectionGraph) (x : ℕ) (right : Right) (y : ℕ) where
  pub brought_could : IsSound g → ¬ IsShort g x y → x ≢ y → HasHelp (IsSilent silent g) g y → IsBrought (IsSilent silent g) right y g x → CouldHold silent g x right y
  brought_could sound long differ help brought =
      let ends = brought_comes (IsSilent silent g) g sound (λ p is. is.1) x right y long differ help brought in
      record { turns = ends.turns; lead_there = (ends.are, ends.there) }

  -- where x comes to hold no more than it holds
  held_or_never : (¬ Holds g.label x right y → NeverHolds silent g x right y) → NeverHolds silent g x right y ⊎ CouldHold silent g x right y
  held_or_never never =
      ⊎_elim (λ is. inr (record { turns = []; lead_there = (tt, is) }))
      (λ out. inl (never (λ is. false≢true (sym out ∙ is))))
      (cases_Bool (has (g.label x y) right))

  pub each_question : IsSound g → ¬ IsShort g x y → NeverHolds silent g x right y ⊎ CouldHold silent g x right y
  each_question sound long =
      let made = (IsFit-sound g sound).made in
      ⊎_elim (λ (same : x ≡ y). held_or_never (λ lacks. same-never (IsSilent silent g) x right y same g made lacks))
      (λ differ.
      ⊎_elim
      (λ help.
      ⊎_elim
      (λ (s, separates).
      inl (parted-never (IsSilent silent g) x right y g (record { made = made; sides = s; separates = separates })))
      (λ brought. inr (brought_could sound long differ help brought))
      (parted_or_brought (IsSilent silent g) right y g x made (acts_or silent g)))
      (λ alone. held_or_never (λ lacks. alone-never (IsSilent silent g) x right y g made alone lacks))
      (help_or_alone (IsSilent silent g) right y g made (acts_or silent g) x))
      (cases_eq x y)
