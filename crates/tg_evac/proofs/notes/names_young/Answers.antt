use Rattle.std.proofs.Common.{◌≢◌, ◌<◌, length, get_or, refl, ap, arith, ◌∙◌}
use Rattle.tg_word.specs.declared.Place.{Place}
use Rattle.tg_word.specs.Word.{place_in}
use Rattle.tg_evac.proofs.Young.{names_at, none_young}
use Rattle.tg_evac.proofs.notes.names_young.Goals as goal

pub returns-then-place_of-ne-OLD : goal.returns-then-place_of-ne-OLD
returns-then-place_of-ne-OLD c =
    let words = c.args.words.now in let i = c.loop-i.i in
    let low : i < length words = omega (arith, c.told-words) in
    let young : (place_in (get_or words i 0)).space ≢ 0 = λ e. c.if-place_of-ne-OLD.true (ap (λ (p : Place). p.space) c.place_of.ensures ∙ e) in
    ((λ _. names_at words c.first_pointer-first.result c.first_pointer-first.ensures.word i c.if-first-i.true low young), (λ _. refl))

pub returns : goal.returns
returns c =
    let words = c.args.words.now in (
      (λ t. absurd cc),
      (λ names. absurd (none_young words c.first_pointer-first.result c.first_pointer-first.ensures.word (λ k low from. c.loop-i.invariant k (omega (arith, c.told-words)) from) names)),
    )
