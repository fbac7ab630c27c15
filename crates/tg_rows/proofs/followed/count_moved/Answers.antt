use Rattle.std.proofs.Common.{◌<◌, ◌∙◌, arith, ap, length, map, sym}
use Rattle.std.proofs.lemmas.List.{get_or-map, length-map}
use Rattle.std.proofs.lemmas.List.Elements.{All-more}
use Rattle.tg_word.specs.Word.{place_in}
use Rattle.tg_word.specs.declared.Place.{Place}
use Rattle.tg_space.specs.Targets.{young_spaces}
use Rattle.tg_rows.specs.Index.{IsOldPlace}
use Rattle.tg_rows.proofs.followed.count_moved.Goals as goal

pub loop-count-preserved : goal.loop-count-preserved
loop-count-preserved c =
    let words = c.args.words.now in
    let i = c.loop-count.count in
    let d : Place = record { space = 0; block = 0; cell = 0 } in
    let low : i < length words = omega (arith, c.loop-count-test.true) in
    All-more IsOldPlace (map place_in words) i d (omega (arith, low, length-map words place_in)) c.loop-count.invariant
    (ap (λ (p : Place). young_spaces p.space) (get_or-map place_in words i 0 d low) ∙ ap (λ (p : Place). young_spaces p.space) (sym c.place_of.ensures) ∙ sym c.moves.ensures ∙ c.if-moves.false)
