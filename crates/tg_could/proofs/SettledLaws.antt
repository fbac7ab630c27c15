-- What is led on stays led to; and sets that nothing is led out of decide what could come about.
use Rattle.std.proofs.Common.{◌≡◌, ◌≢◌, ◌⊎◌, inl, inr, ⊎_elim, ℕ, ◌+◌, ◌<◌, ◌≤◌, length, get_or, ltb, Bool, true, false, List, [], refl, sym, ap, ◌∙◌, subst, arith}
use Rattle.std.specs.List.{All, AllWithin, Contains}
use Rattle.std.proofs.lemmas.Bool.{false≢true, ltb-true, ltb-false}
use Rattle.std.proofs.lemmas.List.{get_or_default}
use Rattle.std.proofs.lemmas.List.Elements.{All-contains, AllWithin-more, at_read}
use Rattle.tg_rights.specs.RightSet.{has}
use Rattle.tg_rights.specs.declared.Right.{Right}
use Rattle.tg_rights.specs.declared.Right.TheVariants.{T, G}
use Rattle.tg_model.specs.declared.edge.Edge.{Edge}
use Rattle.tg_model.specs.declared.opening.TheConstants.{MAX_WORKERS}
use Rattle.tg_model.specs.Graph.{ProtectionGraph, IsSound}
use Rattle.tg_model.specs.Opened.{label_in}
use Rattle.tg_model.specs.Picture.{Holds, Shown, IsPictureOf, AreAmong}
use Rattle.tg_could.specs.declared.separation.led.LedNames.{LedNames}
use Rattle.tg_could.specs.Turns.{Acts, MayCome, IsSilent, NeverHolds, with_names}
use Rattle.tg_could.specs.Separation.{Sides, KeepsSides, ComesLater}
use Rattle.tg_could.specs.Answered.{HasTurns, IsDecided}
use Rattle.tg_could.specs.Led.{Way, back, forward, Led, source, maker, take_back, take_on, grant_on, grant_back, turns_forward, turns_back, IsBrought, is_held, is_got, is_given, is_made, HasHelp}
use Rattle.tg_could.specs.LedNames.{AreLed, IsPut, ActsIn, LeadsOn, from_source, takes_back, grants_back, takes_on, grants_on, IsTurned, TurnsTo, from_back, from_forward, from_later, way_of, sides_led, number_led}
use Rattle.tg_could.proofs.TurnLaws.{Holds-member, given_by}
use Rattle.tg_could.proofs.ExactLaws.{brought_could}
use Rattle.tg_could.proofs.LaterLaws.{led_on}
use Rattle.tg_could.proofs.LedLaws.{IsFit-sound}
use Rattle.tg_could.proofs.MarkLaws.{Fits, Parts-edges, pictured-never}

module _ (silent : ℕ → Type 0) (r : Right) (y : ℕ) (g : ProtectionGraph) where
  -- an edge of the graph leads from who is led to whom it says
  pub led_along : (s : Sides) (edge : Edge) (f : Bool) (v : ℕ) → AreLed silent r y g s → ((q : Right) → has edge.label q ≡ true → Holds g.label edge.from q edge.to) → LeadsOn s r y edge f v → Led silent r y g (way_of f) v
  led_along s edge f v led there (from_source held at_y) =
      source (subst (λ (z : ℕ). Holds g.label edge.from r z) at_y (there r held))
  led_along s edge f v led there (takes_back take inside) = take_back (there T take) (led.behind edge.to inside)
  led_along s edge f v led there (grants_back grant inside) = grant_back (there G grant) (led.on edge.to inside)
  led_along s edge f v led there (takes_on take inside) = take_on (there T take) (led.on edge.from inside)
  led_along s edge f v led there (grants_on grant inside) = grant_on (there G grant) (led.on edge.from inside)

  -- with one more who is led to, all are
  pub led_put : (s new : Sides) (f : Bool) (v : ℕ) → IsPut s f v new → AreLed silent r y g s → Led silent r y g (way_of f) v → AreLed silent r y g new
  led_put s new f v put led more =
      let here : (t : Bool) (w : ℕ) → (f ≡ t) × (w ≡ v) → Led silent r y g (way_of t) w = λ t w is.
      subst (λ (u : ℕ). Led silent r y g (way_of t) u) (sym is.1) (subst (λ (b : Bool). Led silent r y g (way_of b) v) is.0 more) in
      record {
        on = λ w inside. ⊎_elim (led.on w) (here true w) (put.on w inside);
        behind = λ w inside. ⊎_elim (led.behind w) (here false w) (put.behind w inside);
      }

-- ---- the edges gone along so far

abbrev pub KeepsAt : Sides → Right → ℕ → Edge → Type 0
KeepsAt s r y e = KeepsSides s r y (λ a b. e.label) e.from e.to

-- what holds of the sets after some of the edges
pub record GoesAlong (r : Right) (y : ℕ) (edges : List Edge) (start now : LedNames) (i : ℕ) : Type 0 where
  pub led : (silent : List ℕ) (g : ProtectionGraph) → AreAmong edges g.label → AreLed (IsSilent silent g) r y g (sides_led start) → AreLed (IsSilent silent g) r y g (sides_led now)
  pub more : number_led start ≤ number_led now
  pub still : number_led now ≡ number_led start → (sides_led now ≡ sides_led start) × AllWithin (KeepsAt (sides_led now) r y) edges 0 i

module _ (r : Right) (y : ℕ) (edges : List Edge) (start : LedNames) where
  pub along_none : GoesAlong r y edges start start 0
  along_none = record {
    led = λ silent g among led. led;
    more = omega arith;
    still = λ same. (refl, λ k d low below. absurd (omega (arith, below)));
  }

  pub along_same : (now : LedNames) (i : ℕ) (e : Edge) → GoesAlong r y edges start now i → i < length edges → e ≡ get_or edges i e → KeepsAt (sides_led now) r y e → GoesAlong r y edges start now (i + 1)
  along_same now i e was inside is keeps = record {
    led = was.led;
    more = was.more;
    still = λ same.
        let so_far = was.still same in (
          so_far.0,
          AllWithin-more (KeepsAt (sides_led now) r y) edges 0 i so_far.1 (at_read edges (KeepsAt (sides_led now) r y) i e inside is keeps),
        );
  }

  pub along_more : (now new : LedNames) (i : ℕ) (e : Edge) (f : Bool) (v : ℕ) → GoesAlong r y edges start now i → i < length edges → e ≡ get_or edges i e → LeadsOn (sides_led now) r y e f v → IsPut (sides_led now) f v (sides_led new) → number_led now < number_led new → GoesAlong r y edges start new (i + 1)
  along_more now new i e f v was inside is leads put more = record {
    led = λ silent g among led.
        let before = was.led silent g among led in
        led_put (IsSilent silent g) r y g (sides_led now) (sides_led new) f v put before
        (led_along (IsSilent silent g) r y g (sides_led now) e f v before (λ q h. among e.from e.to q (Holds-member edges i e inside is q h)) leads);
    more = omega (arith, was.more, more);
    still = λ same. absurd (omega (arith, was.more, more, same));
  }

-- ---- the subjects looked at so far

abbrev pub IsTurnedAt : List ℕ → Shown → ℕ → Sides → ℕ → Type 0
IsTurnedAt silent p y s v = ¬ (Contains silent v × (v < p.made)) → IsTurned s p y v

pub record Turns (silent : List ℕ) (p : Shown) (y : ℕ) (start now : LedNames) (i : ℕ) : Type 0 where
  pub led : (r : Right) (g : ProtectionGraph) → IsPictureOf p g → AreLed (IsSilent silent g) r y g (sides_led start) → AreLed (IsSilent silent g) r y g (sides_led now)
  pub more : number_led start ≤ number_led now
  pub still : number_led now ≡ number_led start → (sides_led now ≡ sides_led start) × AllWithin (IsTurnedAt silent p y (sides_led now)) p.subjects 0 i

-- who acts on a picture does on its graph
acts_on : (silent : List ℕ) (p : Shown) (g : ProtectionGraph) → IsPictureOf p g → (v : ℕ) → ActsIn silent p v → Acts (IsSilent silent g) g v
acts_on silent p g picture v (there, acts) =
    (subst (λ (l : List ℕ). Contains l v) (sym picture.subjects) there, λ (within, below). acts (within, omega (arith, below, picture.made)))

-- whom one turns to is led to
led_turn : (silent : List ℕ) (p : Shown) (g : ProtectionGraph) → IsPictureOf p g → (r : Right) (y : ℕ) (s : Sides) (f : Bool) (v : ℕ) → AreLed (IsSilent silent g) r y g s → Acts (IsSilent silent g) g v → TurnsTo s p y f v → Led (IsSilent silent g) r y g (way_of f) v
led_turn silent p g picture r y s f v led acts (from_back inside) = turns_forward acts (led.behind v inside)
led_turn silent p g picture r y s f v led acts (from_forward inside) = turns_back acts (led.on v inside)
led_turn silent p g picture r y s f v led acts (from_later later) = maker (omega (arith, later.0, picture.made), omega (arith, later.1, picture.limit)) acts

module _ (silent : List ℕ) (p : Shown) (y : ℕ) (start : LedNames) where
  pub turns_more : (now new : LedNames) (i v : ℕ) (f : Bool) → Turns silent p y start now i → i < length p.subjects → v ≡ get_or p.subjects i v → ¬ (Contains silent v × (v < p.made)) → TurnsTo (sides_led now) p y f v → IsPut (sides_led now) f v (sides_led new) → number_led now < number_led new → Turns silent p y start new (i + 1)
  turns_more now new i v f was inside is acts there put more = record {
    led = λ r g picture led.
        let before = was.led r g picture led in
        led_put (IsSilent silent g) r y g (sides_led now) (sides_led new) f v put before
        (led_turn silent p g picture r y (sides_led now) f v before (acts_on silent p g picture v ((i, inside, sym is), acts)) there);
    more = omega (arith, was.more, more);
    still = λ same. absurd (omega (arith, was.more, more, same));
  }

-- ---- gone over once

-- the rights in the edges of a picture are among the graph's
pub pictured-among : (p : Shown) (g : ProtectionGraph) → IsPictureOf p g → (edges : List Edge) → edges ≡ p.edges → AreAmong edges g.label
pictured-among p g picture edges is a b q h =
    ap (λ m. has m q) (picture.labels a b) ∙ subst (λ (es : List Edge). Holds (label_in es) a q b) is h

-- a count that was taken after is more than the one before
pub more_than : (a b before behind : ℕ) → a ≡ before → b ≡ behind → ltb a b ≡ true → before < behind
more_than a b before behind at_before at_behind more =
    let less = ltb-true a b more in
    omega (arith, less, at_before, at_behind)

-- or nothing was new between the two
pub none_new : (a b before mid behind : ℕ) → a ≡ before → b ≡ behind → ltb a b ≡ false → before ≤ mid → mid ≤ behind → (mid ≡ before) × (behind ≡ mid)
none_new a b before mid behind at_before at_behind none first second =
    let most = ltb-false a b none in
    (omega (arith, most, at_before, at_behind, first, second), omega (arith, most, at_before, at_behind, first, second))

-- ---- who is granted to

pub none_given : (f : ℕ → Bool) (x : ℕ) (edges : List Edge) → All (λ e. e.to ≡ x → has e.label G ≡ true → ¬ (f e.from ≡ true)) edges → (a : ℕ) → Holds (label_in edges) a G x → ¬ (f a ≡ true)
none_given f x edges all a h inside =
    let P : Edge → Type 0 = λ e. e.to ≡ x → has e.label G ≡ true → ¬ (f e.from ≡ true) in
    let given = given_by edges a G x h in
    All-contains P edges given.edge all given.there given.to given.holds (ap f given.from ∙ inside)

-- ---- more names

module _ (silent : List ℕ) (g : ProtectionGraph) (r : Right) (y : ℕ) (names : ℕ) where
  abbrev wide : ProtectionGraph
  wide = with_names g names

  sound_wide : IsSound g → IsSound wide
  sound_wide sound = record {
    rising = sound.rising;
    subjects_made = sound.subjects_made;
    few_subjects = sound.few_subjects;
    ends_made = sound.ends_made;
    no_loop = sound.no_loop;
    values = sound.values;
  }

  -- a name that may come may come there too
  comes_wide : (v : ℕ) → MayCome g v → MayCome wide v
  comes_wide v comes = (comes.0, omega (arith, comes.1))

  led_wide : IsSound g → (way : Way) (v : ℕ) → Led (IsSilent silent g) r y g way v → Led (IsSilent silent wide) r y wide way v
  led_wide sound =
      led_on (IsSilent silent g) r y g wide
      (record { labels = λ a q b h. h; subjects = refl; made = omega arith; limit = omega arith; fit = IsFit-sound wide (sound_wide sound) })
      (comes_wide y)

  brought_wide : IsSound g → (x : ℕ) → IsBrought (IsSilent silent g) r y g x → IsBrought (IsSilent silent wide) r y wide x
  brought_wide sound x (is_held h) = is_held h
  brought_wide sound x (is_got acts led) = is_got acts (led_wide sound back x led)
  brought_wide sound x (is_given {a = a} h led) = is_given h (led_wide sound forward a led)
  brought_wide sound x (is_made {p = p} comes acts led) = is_made (comes_wide x comes) acts (led_wide sound back p led)

-- what is brought has turns
brought_turns : (silent : List ℕ) (g : ProtectionGraph) (x : ℕ) (r : Right) (y : ℕ) → x ≢ y → HasHelp (IsSilent silent g) g y → IsBrought (IsSilent silent g) r y g x → HasTurns silent g x r y
brought_turns silent g x r y differ help brought = record {
  enough = λ sound long. brought_could silent g x r y sound long differ help brought;
  with_more = λ sound names long.
      brought_could silent (with_names g names) x r y (sound_wide silent g r y names sound) long differ help (brought_wide silent g r y names sound x brought);
}

-- and so has what is held already
pub held_turns : (silent : List ℕ) (g : ProtectionGraph) (x : ℕ) (r : Right) (y : ℕ) → Holds g.label x r y → HasTurns silent g x r y
held_turns silent g x r y h = record {
  enough = λ sound long. record { turns = []; lead_there = (tt, h) };
  with_more = λ sound names long. record { turns = []; lead_there = (tt, h) };
}

-- ---- what is decided

module _ (silent : List ℕ) (p : Shown) (g : ProtectionGraph) (picture : IsPictureOf p g) (x : ℕ) (r : Right) (y : ℕ) (names : LedNames) where
  abbrev pub s : Sides
  s = sides_led names

  fits_all : (edges : List Edge) → All (KeepsAt s r y) edges → ¬ Holds (label_in edges) x r y → ((a : ℕ) → Holds (label_in edges) a G x → ¬ (s.forward a ≡ true)) → All (Fits s x r y) edges
  fits_all edges keeps lacks ungiven = λ k d inside.
      let e = get_or edges k d in
      let there : (q : Right) → has e.label q ≡ true → Holds (label_in edges) e.from q e.to = Holds-member edges k e inside (get_or_default edges k d e inside) in
      record {
        keeps = keeps k d inside;
        not_held = λ at_x at_y held. lacks (subst (λ (v : ℕ). Holds (label_in edges) v r y) at_x (subst (λ (v : ℕ). Holds (label_in edges) e.from r v) at_y (there r held)));
        not_granted = λ at_x grant. ungiven e.from (subst (λ (v : ℕ). Holds (label_in edges) e.from G v) at_x (there G grant));
      }

  pub closed_never : All (KeepsAt s r y) p.edges → ((v : ℕ) → ActsIn silent p v → IsTurned s p y v) → ¬ Holds (label_in p.edges) x r y → ((v : ℕ) → ActsIn silent p v → (v ≡ x) ⊎ ComesLater p x → s.back v ≡ false) → ((a : ℕ) → Holds (label_in p.edges) a G x → ¬ (s.forward a ≡ true)) → NeverHolds silent g x r y
  closed_never keeps turned lacks untaken ungiven =
      pictured-never silent p g picture s x r y
      (λ k d inside acts.
      let v = get_or p.subjects k d in
      let is : ActsIn silent p v = ((k, inside, get_or_default p.subjects k v d inside), acts) in
      record {
        alike = (turned v is).alike;
        not_x = λ at_x in_back. false≢true (sym (untaken v is (inl at_x)) ∙ in_back);
        y_may_come = λ later. (turned v is).makes later;
        x_may_come = λ later in_back. false≢true (sym (untaken v is (inr later)) ∙ in_back);
      })
      (Parts-edges s x r y p.edges (fits_all p.edges keeps lacks ungiven))

  pub helped : (length p.subjects < MAX_WORKERS) ⊎ ((v : ℕ) × ActsIn silent p v × (v ≢ y)) → HasHelp (IsSilent silent g) g y
  helped (inl few) = inl (subst (λ (l : List ℕ). length l < MAX_WORKERS) (sym picture.subjects) few)
  helped (inr (v, acts, other)) = inr (v, acts_on silent p g picture v acts, other)

  -- one who acts and may get the right is x, or may make x
  pub reached_brings : AreLed (IsSilent silent g) r y g s → (v : ℕ) → ActsIn silent p v → (v ≡ x) ⊎ ComesLater p x → s.back v ≡ true → IsBrought (IsSilent silent g) r y g x
  reached_brings led v acts (inl same) inside =
      subst (IsBrought (IsSilent silent g) r y g) same (is_got (acts_on silent p g picture v acts) (led.behind v inside))
  reached_brings led v acts (inr later) inside =
      is_made (omega (arith, later.0, picture.made), omega (arith, later.1, picture.limit)) (acts_on silent p g picture v acts) (led.behind v inside)

  -- either way it is decided
  pub decided : (found : Bool) → (found ≡ true → IsBrought (IsSilent silent g) r y g x) → (found ≡ false → NeverHolds silent g x r y) → x ≢ y → HasHelp (IsSilent silent g) g y → IsDecided silent g x r y found
  decided true brought never differ help = brought_turns silent g x r y differ help (brought refl)
  decided false brought never differ help = never refl
