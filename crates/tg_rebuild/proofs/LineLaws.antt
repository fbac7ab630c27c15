-- Where the vertices of a snapshot are in its list, and what is stored there.
use Rattle.std.proofs.Common.{◌≡◌, ◌∙◌, ◌+◌, ◌<◌, ℕ, List, length, get_or, Result, Ok, Err, Option, Some, None, refl, sym, ap, subst, arith}
use Rattle.std.specs.Prelude.{EachIndex, IsSome, MatchOption, nat_lt, unwrap_or}
use Rattle.std.specs.Result.{result_ok}
use Rattle.std.specs.List.Sorted.{IsSearchInRange, IsBinarySearchResult}
use Rattle.std.specs.Ordering.{nat_cmp}
use Rattle.std.proofs.lemmas.Cmp.{ranked}
use Rattle.std.proofs.lemmas.Bool.{cond-true, false≢true, lt-ltb}
use Rattle.std.proofs.lemmas.List.{get_or_read}
use Rattle.tg_model.specs.declared.value.Value.{Value}
use Rattle.tg_model.specs.Opened.{ValueFits}
use Rattle.tg_snapshot.specs.declared.vertex.ShownVertex.{ShownVertex}
use Rattle.tg_snapshot.specs.Snapshot.{Saved, ComesAfter, IsSnapshot, NamePrecedes, ShowsName, stored_in, unreached_value, value_shown}
use Rattle.tg_snapshot.proofs.AcceptedLaws.{value_at}
use Rattle.tg_snapshot.proofs.RisingLaws.{rise}
use Rattle.tg_snapshot.proofs.ShownLaws.{found, names_rise, nobody, place_of}
use Rattle.tg_rebuild.specs.Inner.Lines.{IsLineOf}

-- names rise
pub rises : (vs : List ShownVertex) → EachIndex vs (ComesAfter NamePrecedes vs) → (j k : ℕ) (d : ShownVertex) → j < k → k < length vs → (get_or vs j d).name < (get_or vs k d).name
rises vs each j k d before inside =
    let first : (get_or vs j d).name < (get_or vs (j + 1) d).name = each (j + 1) (omega (arith, before, inside)) j d refl in
    let later = names_rise vs each (j + 1) k d (omega (arith, before)) inside in
    omega (arith, first, later)

-- what a search by halves finds
pub line_found : (vs : List ShownVertex) → EachIndex vs (ComesAfter NamePrecedes vs) → (x : ℕ) (r : Result ℕ ℕ) → IsSearchInRange r (length vs) → IsBinarySearchResult (λ v. nat_cmp v.name x) vs r → MatchOption (result_ok r) (¬ ShowsName vs x) (IsLineOf vs x)
line_found vs each x (Ok at) inside equal = record { inside = inside; named = λ d. ranked _ x _ (sym (equal d)) }
line_found vs each x (Err at) inside parted = λ shown. false≢true ((found vs each x (Err at) inside parted).1 shown)

some_of : (o : Option Value) (other : Value) → IsSome o → Some (unwrap_or o other) ≡ o
some_of None other some = absurd (false≢true some)
some_of (Some value) other some = refl

none_of : (o : Option Value) (other : Value) → ¬ IsSome o → Some (unwrap_or o other) ≡ Some other
none_of None other none = refl
none_of (Some value) other none = absurd (none refl)

module _ (p : Saved) (is : IsSnapshot p) where
  pub lines_rise : EachIndex p.vertices (ComesAfter NamePrecedes p.vertices)
  lines_rise k inside = (is.vertices k inside).rises

  -- the same of the list as a call has it
  pub rise_in : (vs : List ShownVertex) → vs ≡ p.vertices → EachIndex vs (ComesAfter NamePrecedes vs)
  rise_in vs same = subst (λ (us : List ShownVertex). EachIndex us (ComesAfter NamePrecedes us)) (sym same) lines_rise

  pub line_fits : (vs : List ShownVertex) → vs ≡ p.vertices → (at : ℕ) (v : ShownVertex) → at < length vs → v ≡ get_or vs at v → ValueFits v.value
  line_fits vs same at v inside here =
      let within : at < length p.vertices = omega (arith, inside, ap length same) in
      subst (λ (u : ShownVertex). ValueFits u.value) (sym (here ∙ ap (λ (us : List ShownVertex). get_or us at v) same)) ((is.vertices at within).fits v)

  pub line_in : (vs : List ShownVertex) → vs ≡ p.vertices → (name at : ℕ) → IsLineOf vs name at → IsLineOf p.vertices name at
  line_in vs same name at line = subst (λ (us : List ShownVertex). IsLineOf us name at) same line

  pub line_here : (vs : List ShownVertex) → vs ≡ p.vertices → (at : ℕ) (v : ShownVertex) → at < length vs → v ≡ get_or vs at v → IsLineOf p.vertices v.name at
  line_here vs same at v inside here = record {
    inside = omega (arith, inside, ap length same);
    named = λ d. sym (ap (λ (u : ShownVertex). u.name) (get_or_read vs at v inside here d ∙ ap (λ (us : List ShownVertex). get_or us at d) same));
  }

  pub value_in : (vs : List ShownVertex) → vs ≡ p.vertices → (at : ℕ) (v d : ShownVertex) → at < length vs → v ≡ get_or vs at v → v.value ≡ (get_or p.vertices at d).value
  value_in vs same at v d inside here =
      ap (λ (u : ShownVertex). u.value) (get_or_read vs at v inside here d ∙ ap (λ (us : List ShownVertex). get_or us at d) same)

  pub line_made : (name at : ℕ) → IsLineOf p.vertices name at → name < p.picture.made
  line_made name at line = subst (λ (n : ℕ). n < p.picture.made) (line.named nobody) ((is.vertices at line.inside).below nobody)

  stored_low : (y : ℕ) → y < p.picture.made → stored_in p y ≡ Some (unwrap_or (value_shown p.vertices y) unreached_value)
  stored_low y low = cond-true (nat_lt y p.picture.made) _ _ (lt-ltb y p.picture.made low)

  pub stored_line : (name at : ℕ) (d : ShownVertex) → IsLineOf p.vertices name at → stored_in p name ≡ Some (get_or p.vertices at d).value
  stored_line name at d line =
      stored_low name (line_made name at line)
      ∙ ap (λ (o : Option Value). Some (unwrap_or o unreached_value))
      (ap (value_shown p.vertices) (sym (line.named d)) ∙ value_at 0 p.vertices at d (rise p.vertices lines_rise) line.inside)

  pub stored_unshown : (y : ℕ) → y < p.picture.made → ¬ ShowsName p.vertices y → stored_in p y ≡ Some unreached_value
  stored_unshown y low none = stored_low y low ∙ none_of (value_shown p.vertices y) unreached_value none

  pub line_there : (y : ℕ) → ShowsName p.vertices y → (at : ℕ) × IsLineOf p.vertices y at
  line_there y shown = let place = place_of p.vertices y shown in (place.at, record { inside = place.inside; named = place.named })

  pub stored_shown : (y : ℕ) → ShowsName p.vertices y → stored_in p y ≡ value_shown p.vertices y
  stored_shown y shown =
      let there = line_there y shown in
      stored_low y (line_made y there.0 there.1) ∙ some_of (value_shown p.vertices y) unreached_value shown
