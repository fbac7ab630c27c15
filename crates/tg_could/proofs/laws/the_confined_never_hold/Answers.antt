use Rattle.std.proofs.Common.{◌≡◌, ℕ, Bool, true, false, not, refl, sym, ap, ◌∙◌, subst, arith}
use Rattle.std.proofs.lemmas.Bool.{false≢true}
use Rattle.tg_model.specs.Picture.{Holds}
use Rattle.tg_could.specs.Turns.{IsSilent}
use Rattle.tg_could.proofs.SeparationLaws.{parted-never}
use Rattle.tg_could.proofs.laws.the_confined_never_hold.Goals as goal

-- who isn't inside is outside
outside : (b : Bool) → (b ≡ true → ⊥) → not b ≡ true
outside true none = absurd (none refl)
outside false none = refl

both_no : (b : Bool) → b ≡ true → not b ≡ true → ⊥
both_no true h k = false≢true k
both_no false h k = false≢true h

pub returns : goal.returns
returns c silent g inside right y is x x_made x_inside =
    let confined = is.confined in
    let out : ℕ → Bool = λ v. not (inside v) in
    let on : (a b : ℕ) → inside a ≡ inside b → out a ≡ true → out b ≡ true = λ a b same f. sym (ap not same) ∙ f in
    parted-never (IsSilent silent g) x right y g (record {
      made = is.made;
      sides = record { forward = out; back = out };
      separates = record {
        labels = record {
          edges = λ a b. record {
            take_on = λ h. on a b (confined.take a b h);
            take_back = λ h. on b a (sym (confined.take a b h));
            grant_on = λ h. on a b (confined.grant a b h);
            grant_back = λ h. on b a (sym (confined.grant a b h));
            source = λ h at_y. outside (inside a) (λ held. is.none a held (subst (Holds g.label a right) at_y h));
          };
          without = is.none x x_inside;
          not_given = λ a h f. both_no (inside a) (confined.grant a x h ∙ x_inside) f;
        };
        alike = λ p acts. refl;
        not_taken = λ acts f. both_no (inside x) x_inside f;
        y_may_come = λ comes. absurd (omega (arith, comes.0, is.target));
        x_may_come = λ comes. absurd (omega (arith, comes.0, x_made));
      };
    })
