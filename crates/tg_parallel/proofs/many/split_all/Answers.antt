use Rattle.std.proofs.Common.{◌≡◌, ◌+◌, ◌-◌, ◌∙◌, ℕ, List, length, ap, subst, sym, arith}
use Rattle.std.specs.List.{All}
use Rattle.std.proofs.lemmas.List.{length_push}
use Rattle.std.proofs.lemmas.List.Elements.{All-push}
use Rattle.tg_race.specs.declared.record.Record.{Record}
use Rattle.tg_race.specs.Race.{empty, less_one}
use Rattle.tg_race.specs.Seats.{Seated}
use Rattle.tg_parallel.specs.Helping.{IsNew}
use Rattle.tg_parallel.proofs.many.split_all.Goals as goal

-- one share less of an empty record
one_less : (helpers counter : ℕ) (v : Record) → v ≡ empty (helpers + 1 - counter) → less_one v ≡ empty (helpers + 1 - (counter + 1))
one_less helpers counter v is =
    let fewer : helpers + 1 - counter - 1 ≡ helpers + 1 - (counter + 1) = omega arith in
    ap less_one is ∙ ap empty fewer

pub loop-preserved : goal.loop-preserved
loop-preserved c =
    let items = c.in_ok-push.ensures.items in
    let new : IsNew c.args.table.now c.split-other.result = record {
      seat = c.split-other.ensures.made.0 ∙ c.loop.invariant.seat ∙ c.requires.own;
      done = c.split-other.ensures.made.1;
    } in
    record {
      seat = ap (λ (s : Seated). s.table) c.split-other.ensures.kept ∙ c.loop.invariant.seat;
      done = ap (λ (s : Seated). s.done) c.split-other.ensures.kept ∙ one_less c.args.helpers c.loop.counter c.loop.helper.done c.loop.invariant.done;
      made = subst (λ (l : List Seated). All (IsNew c.args.table.now) l) (sym items) (All-push (IsNew c.args.table.now) c.loop.others.items c.split-other.result c.loop.invariant.made new);
      many = let many = c.loop.invariant.many in omega (arith, ap (λ (l : List Seated). length l) items, length_push c.loop.others.items c.split-other.result);
      within = omega (arith, c.loop-test.true);
    }
