use Rattle.std.proofs.Common.{◌≡◌, ◌∙◌, ℕ, true, refl, sym, subst}
use Rattle.std.proofs.lemmas.Bool.{false≢true}
use Rattle.tg_could.specs.View.{is_at_most, name_word, IsBridged}
use Rattle.tg_could.proofs.view.islands.Islands.is_joined.Goals as goal

pub returns-then-not-both_imply-2 : goal.returns-then-not-both_imply-2
returns-then-not-both_imply-2 c t = absurd (false≢true t)

pub returns : goal.returns
returns c t =
    let from = name_word c.args.self.now.reached.items c.args.holder in
    record {
      take = λ h.
          subst (λ (n : ℕ). is_at_most from n ≡ true) c.word-to.ensures
          (subst (λ (n : ℕ). is_at_most n c.word-to.result ≡ true) c.word-from.ensures
          (sym c.is_within.ensures ∙ c.both_imply.ensures c.if-not-both_imply.false (c.has-take.ensures ∙ h) refl));
      granted = λ h.
          subst (λ (n : ℕ). is_at_most from n ≡ true) c.granted-granted.ensures
          (subst (λ (n : ℕ). is_at_most n c.granted-granted.result ≡ true) c.word-from.ensures
          (sym c.is_within-2.ensures ∙ c.both_imply-2.ensures c.if-not-both_imply-2.false (c.has-grant.ensures ∙ h) refl));
      grant = λ h.
          subst (IsBridged from) c.word-to.ensures
          (subst (λ (n : ℕ). IsBridged n c.word-to.result) c.word-from.ensures
          (c.are_bridged.ensures (c.both_imply-3.ensures t (c.has-grant.ensures ∙ h) refl)));
    }

pub returns-then-not-both_imply : goal.returns-then-not-both_imply
returns-then-not-both_imply c t = absurd (false≢true t)

pub returns-then-not-grant : goal.returns-then-not-grant
returns-then-not-grant c t =
    record {
      take = λ h. absurd (false≢true (sym c.if-not-take.true ∙ (c.has-take.ensures ∙ h)));
      granted = λ h. absurd (false≢true (sym c.if-not-grant.true ∙ (c.has-grant.ensures ∙ h)));
      grant = λ h. absurd (false≢true (sym c.if-not-grant.true ∙ (c.has-grant.ensures ∙ h)));
    }
