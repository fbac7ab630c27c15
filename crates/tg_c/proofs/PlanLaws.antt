-- The plan of an opening whose demands are met is accepted, and an accepted plan has no fault.
use Rattle.std.proofs.Common.{◌≡◌, ◌<◌, ◌≤◌, ◌&&◌, ◌==◌, inl, inr, ℕ, Bool, true, false, List, [], ◌∷◌, Option, Some, None, IsSome, if◌then◌else◌, nat_le, refl, sym, subst, length, map, get_or, take_all, leb-true, arith}
use Rattle.std.proofs.lemmas.Bool.{and_parts}
use Rattle.std.proofs.lemmas.List.{get_or-map, length-map}
use Rattle.std.specs.List.{All}
use Rattle.tg_model.specs.declared.law.Law.TheVariants as law
use Rattle.tg_model.specs.declared.value.Value.{Value}
use Rattle.tg_model.specs.declared.opening.OpeningFault.{OpeningFault}
use Rattle.tg_model.specs.declared.opening.OpeningFault.TheVariants as fault
use Rattle.tg_model.specs.declared.opening.TheConstants.{MAX_LASTING_VERTICES}
use Rattle.tg_model.specs.Opened.{HasValues, IsFaultTo, IsFirstWithout, IsPlan, IsValuesFault, JoinsWorkers, Plan, ValueFits}
use Rattle.tg_c.specs.declared.forms.EdgeIn.{EdgeIn}
use Rattle.tg_c.specs.declared.forms.LimitsIn.{LimitsIn}
use Rattle.tg_c.specs.declared.forms.ValueIn.{ValueIn}
use Rattle.tg_c.specs.Calls.{AreMet, demands_of}
use Rattle.tg_c.specs.Forms.{AreValues, edge_in, plan_given, value_at, value_in, value_or_cell}

-- ---- the values and edges of C

-- the value, by the tests of the four laws
abbrev tested : Bool → Bool → Bool → Bool → ℕ → ℕ → Option Value
tested cell sum greatest log most number =
    if cell then Some (record { law = law.Cell; state = number ∷ [] })
    else if sum then Some (record { law = law.Sum; state = number ∷ [] })
    else if greatest then Some (record { law = law.Max; state = number ∷ [] })
    else if log then Some (record { law = law.Log most; state = [] })
    else None

fits_by : (cell sum greatest log : Bool) (most number : ℕ) → (log ≡ true → (1 ≤ most) × (most ≤ 64))
    → IsSome (tested cell sum greatest log most number) → ValueFits (value_or_cell (tested cell sum greatest log most number))
fits_by true sum greatest log most number range is = refl
fits_by false true greatest log most number range is = refl
fits_by false false true log most number range is = refl
fits_by false false false true most number range is = ((range refl).0, (range refl).1, omega arith)
fits_by false false false false most number range is = absurd (cc is)

value_fits : (v : ValueIn) → IsSome (value_at v) → ValueFits (value_in v)
value_fits v is = fits_by (v.law == 0) (v.law == 1) (v.law == 2) ((v.law == 3) && nat_le 1 v.most && nat_le v.most 64) v.most v.number
    (λ log. let parts = and_parts ((v.law == 3) && nat_le 1 v.most) (nat_le v.most 64) log in
    (leb-true 1 v.most (and_parts (v.law == 3) (nat_le 1 v.most) parts.0).1, leb-true v.most 64 parts.1)) is

any_value : ValueIn
any_value = record { law = 0; most = 0; number = 0 }

any_edge : EdgeIn
any_edge = record { from = 0; to = 0; rights = 0 }

-- what holds of the image of each element holds of each element of the image
All-map : {X Y : Type 0} (f : X → Y) (P : Y → Type 0) (xs : List X) (d : X) → All (λ x. P (f x)) xs → All P (map f xs)
All-map f P xs d all k e inside =
    let low : k < length xs = omega (arith, inside, length-map xs f) in
    subst P (sym (get_or-map f xs k d e low)) (all k d low)

values_fit : (workers : List ValueIn) → AreValues workers → All ValueFits (map value_in workers)
values_fit workers are = All-map value_in ValueFits workers any_value (λ k d low. value_fits (get_or workers k d) (are k d low))

-- ---- plans

pub plan_is : (workers : List ValueIn) (edges : List EdgeIn) (limits : LimitsIn) → AreMet (demands_of workers edges limits)
    → IsPlan (plan_given workers edges limits.max_vertices)
plan_is workers edges limits met = record {
  workers = met.1.1.0;
  limits = met.1.1.1.0;
  edges = All-map edge_in (JoinsWorkers (length workers)) edges any_edge met.1.1.1.1.0;
  values = (length-map workers value_in, values_fit workers met.0);
}

not_without : {X : Type 0} (asked : X → Type 0) (xs : List X) (at : ℕ) (d : X) → All asked xs → IsFirstWithout asked xs at → ⊥
not_without asked xs at d all first = first.lacks d (all at d first.inside)

no_values_fault : (n : ℕ) (values : List Value) (at : ℕ) → HasValues n values → IsValuesFault n values at → ⊥
no_values_fault n values at has (inl first) = not_without ValueFits values at (value_in any_value) has.1
    (subst (λ vs. IsFirstWithout ValueFits vs at) (take_all n values (omega (arith, has.0))) first)
no_values_fault n values at has (inr differ) = differ.1 has.0

pub no_fault : (p : Plan) (why : OpeningFault) → IsPlan p → IsFaultTo MAX_LASTING_VERTICES p why → ⊥
no_fault p fault.BadWorkers is says = says is.workers
no_fault p fault.BadLimits is says = says.1 is.limits
no_fault p (fault.BadEdge at) is says = not_without (JoinsWorkers p.workers) p.edges at (edge_in any_edge) is.edges says.2
no_fault p (fault.BadValues at) is says = no_values_fault p.workers p.values at is.values says.3
