-- The values of an option, or no value where it isn't there.
use Rattle.std.proofs.Common.{◌≡◌, ◌∙◌, ℕ, List, [], Option, Some, None, map, subst, ap}
use Rattle.std.specs.Prelude.{option_map, unwrap_or}
use Rattle.std.specs.Borrow.{Bor}
use Rattle.std.specs.List.{All, AllZip}
use Rattle.std.proofs.lemmas.List.Elements.{All-map}
use Rattle.clap.specs.Matches.{raw_values}
use Rattle.clap.specs.declared.parser.matches.MatchedArg.{MatchedArg}
use Rattle.tgcould.specs.Policies.{values_of}
use Rattle.tgcould.proofs.SupposedLaws.{zip_map}

-- the texts that are read are the values of the option, or none where it isn't there
values_are : (read : Option (Bor (List (Bor (List ℕ))))) (none : Bor (List (Bor (List ℕ)))) (matched : Option MatchedArg) → none.now ≡ [] →
    option_map (λ s. map (λ v. v.now) s.now) read ≡ option_map raw_values matched → map (λ v. v.now) (unwrap_or read none).now ≡ values_of matched
values_are None none None empty same = ap (map (λ v. v.now)) empty
values_are None none (Some m) empty same = cc
values_are (Some r) none None empty same = cc
values_are (Some r) none (Some m) empty same = cc

values_now : (read : Option (Bor (List (Bor (List ℕ))))) (none values : Bor (List (Bor (List ℕ)))) (matched : Option MatchedArg) → values ≡ unwrap_or read none →
    none.now ≡ [] → option_map (λ s. map (λ v. v.now) s.now) read ≡ option_map raw_values matched → map (λ v. v.now) values.now ≡ values_of matched
values_now read none values matched is empty same =
    ap (λ (r : Bor (List (Bor (List ℕ)))). map (λ v. v.now) r.now) is ∙ values_are read none matched empty same

-- what holds of all texts that are read holds of the values
pub all_values : (P : List ℕ → Type 0) (read : Option (Bor (List (Bor (List ℕ))))) (none values : Bor (List (Bor (List ℕ)))) (matched : Option MatchedArg) → values ≡ unwrap_or read none →
    none.now ≡ [] → option_map (λ s. map (λ v. v.now) s.now) read ≡ option_map raw_values matched → All (λ text. P text.now) values.now → All P (values_of matched)
all_values P read none values matched is empty same all =
    subst (All P) (values_now read none values matched is empty same) (All-map P (λ (v : Bor (List ℕ)). v.now) values.now all)

-- what was found for each text that is read was found for each value
pub zip_values : {Y : Type 0} (R : List ℕ → Y → Type 0) (ys : List Y) (read : Option (Bor (List (Bor (List ℕ))))) (none values : Bor (List (Bor (List ℕ)))) (matched : Option MatchedArg) →
    values ≡ unwrap_or read none → none.now ≡ [] → option_map (λ s. map (λ v. v.now) s.now) read ≡ option_map raw_values matched →
    AllZip (λ text y. R text.now y) values.now ys → AllZip R (values_of matched) ys
zip_values R ys read none values matched is empty same all =
    subst (λ (texts : List (List ℕ)). AllZip R texts ys) (values_now read none values matched is empty same)
    (zip_map R (λ (v : Bor (List ℕ)). v.now) values.now ys all)
