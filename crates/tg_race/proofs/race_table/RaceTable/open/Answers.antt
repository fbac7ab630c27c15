use Rattle.std.proofs.Common.{rules, arith, ◌≡◌, ◌∙◌, ◌+◌, ◌-◌, ◌*◌, List, ℕ, sym, ap, subst, set, replicate, []}
use Rattle.std.proofs.lemmas.Grind.{common_steps}
use Rattle.atomic_table.specs.Table.{opening, Me}
use Rattle.tg_race.specs.declared.plays.View.{View}
use Rattle.tg_race.specs.Race.{empty}
use Rattle.tg_race.specs.declared.record.Counts.{Counts}
use Rattle.tg_race.specs.Board.{IsBoardOfRace, AreSmall}
use Rattle.tg_race.proofs.Allowed.{opens}
use Rattle.tg_race.proofs.race_table.RaceTable.open.Goals as goal

pub of_words-requires : goal.of_words-requires
of_words-requires c =
    let k : Counts = record { cells = c.args.cells; roots = c.args.roots; kept = c.args.kept; helpers = c.args.helpers } in
    let small : AreSmall k = (omega arith, omega arith, omega arith, omega arith, omega arith, omega arith) in
    let n : ℕ = c.args.cells - 64 * c.args.kept in
    let zeros : c.in_ok-words.words.items ≡ replicate (n + 3) 0 = first_of (search rules, grind (arith, common_steps)) in
    let is : c.as_slice.result.now ≡ set (replicate (n + 3) 0) 2 c.args.kept = c.as_slice.ensures.value ∙ ap (λ (ws : List ℕ). set ws 2 c.args.kept) zeros in
    subst (λ (ws : List ℕ). IsBoardOfRace k (opening ws [] (record { skipped = 64 * c.args.kept; done = empty k.helpers }))) (sym is) (opens k n small (omega arith))

pub invariant_of-result : goal.invariant_of-result
invariant_of-result c =
    let me = c.in_ok-table.ensures.4 in
    let alive = c.requires.some in
    (ap (λ (m : Me ℕ View). m.1) me, omega (arith, ap (λ (m : Me ℕ View). m.0.done.share) me))
