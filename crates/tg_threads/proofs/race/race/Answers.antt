use Rattle.std.proofs.Common.{◌≡◌, ◌∙◌, Err, List, ap, drop, length, subst, sym, arith, ℕ}
use Rattle.std.proofs.lemmas.Result.{err_from_is_err_and}
use Rattle.std.proofs.lemmas.List.FromFn.{length-range_with_len}
use Rattle.std.specs.List.{All, range_with_len}
use Rattle.tg_journal.specs.declared.entry.Entry.{Entry}
use Rattle.tg_journal.specs.History.{graph_after}
use Rattle.tg_store.specs.Origin.{opened_by, start_shown}
use Rattle.tg_shared.specs.Sessions.{since, start_of_store, subjects_at}
use Rattle.tg_script.specs.Script.{commands_of, start_of_setup}
use Rattle.tg_script.proofs.LinesLaws.{keeps_known}
use Rattle.tg_space.specs.SpaceTable.{BlockLimits}
use Rattle.tg_script.specs.Entering.{plan_of}
use Rattle.tg_threads.specs.Boxes.{boxed}
use Rattle.tg_threads.specs.Output.{IsNewStore, arena_of, has_thread}
use Rattle.tg_threads.specs.Shares.{is_among}
use Rattle.tg_threads.specs.Tasks.{AreRaced}
use Rattle.tg_threads.specs.Telling.{IsThere}
use Rattle.tg_threads.proofs.RaceLaws.{among_opened, race_told, raced_same, telling_due}
use Rattle.tg_threads.proofs.race.race.Given.{Over}
use Rattle.tg_threads.proofs.race.race.Goals as goal
use Rattle.tg_threads.proofs.race.race.Goals.{In_ok-opened}

-- the subjects of the store that was opened are the workers
opened_names : (g : Over) (c : In_ok-opened g) → subjects_at (start_of_store c.in_ok-opened.opened.store) ≡ range_with_len 0 c.args.setup.settings.workers
opened_names g c =
    let opening = c.in_ok-opened.opened.store.opening in
    let new = c.in_ok-opened.ensures.new in
    (λ i. (graph_after (start_shown opening.plan (new.2 i)) (new.1 i)).subjects) ∙ ap (range_with_len 0) new.0

pub returns-clause-output : goal.returns-clause-output
returns-clause-output g c = λ bytes before known taken.
    let start = start_of_setup c.args.setup in
    let s = g.K.Sink in
    let opens = c.in_ok-opened.ensures.output bytes known in
    let whole = opens.2 in
    let lines = whole.0 in
    let store = c.in_ok-raced.raced.store in
    let opened = c.in_ok-opened.opened in
    let ts = c.in_ok-raced.raced.told.items in
    let came = c.in_ok-raced.ensures.run.raced in
    let shared = start_of_store opened.store in
    let names = subjects_at shared in
    let new : IsNewStore (opened_by (plan_of start lines)) start.blocks shared = record {
      opened = whole.3;
      limits = ap (λ (l : BlockLimits). l.max_blocks) c.in_ok-opened.ensures.limits;
      none = c.in_ok-opened.ensures.new.1;
    } in
    let all : since shared store ≡ store.entries = ap (λ (es : List Entry). drop (length es) store.entries) c.in_ok-opened.ensures.new.1 in
    let threads : is_among names ≡ has_thread start.workers = ap is_among (opened_names g ((goal.at.returns-clause-output g c).In_ok-opened)) ∙ among_opened start.workers in
    let same = raced_same (arena_of shared start.helpers store.entries) names (has_thread start.workers) start.stock opened.lines.items (commands_of lines) store.entries ts threads whole.2
    (subst (λ es. AreRaced (arena_of shared start.helpers es) names (boxed start.stock opened.lines.items) store.entries ts) all came.told) in (
      opens.0,
      opens.1,
      race_told c.tell-told.result g.T.RaceTelling.race_text start shared bytes before opens.0 lines store ts (s.taken c.tell-told.new.sink) whole.1 new (came.opening ∙ whole.3) same
          (c.tell-told.ensures.told before (keeps_known (s.taken c.args.sink.now) (s.taken c.open_race.new.sink) before taken c.in_ok-opened.ensures.silent.keeps)),
    )

pub tell-told-requires-clause-there : goal.tell-told-requires-clause-there
tell-told-requires-clause-there g c =
    let came = c.in_ok-raced.ensures.run.raced in
    let store = c.in_ok-raced.raced.store in
    subst (λ (n : ℕ). All (IsThere n store.entries) c.in_ok-raced.raced.told.items) (sym came.handed.0) came.told.there

pub tell-told-requires-clause-none_handed : goal.tell-told-requires-clause-none_handed
tell-told-requires-clause-none_handed g c =
    let came = c.in_ok-raced.ensures.run.raced in
    omega (arith, came.handed.0, came.handed.1, ap (λ (es : List Entry). length es) c.in_ok-opened.ensures.new.1)

pub returns-clause-due : goal.returns-clause-due
returns-clause-due g c =
    let start = start_of_setup c.args.setup in
    telling_due start c.tell-told.result c.tell-told.ensures.fault

pub returns-in_err-opened-clause-due : goal.returns-in_err-opened-clause-due
returns-in_err-opened-clause-due g c =
    let given = err_from_is_err_and c.from_residual.result c.from_residual.ensures.1 in
    rw (given.1, given.2) (c.in_err-opened.ensures.due c.args.setup.stock.items)

pub race_opened-requires-clause-raceable : goal.race_opened-requires-clause-raceable
race_opened-requires-clause-raceable g c κs within =
    let names = opened_names g ((goal.at.race_opened-requires-clause-raceable g c).In_ok-opened) in
    let long = ap (λ (l : List ℕ). length l) names ∙ length-range_with_len 0 c.args.setup.settings.workers in
    record {
      some = omega (arith, long, c.requires.startable.number.0);
      commands = c.in_ok-opened.ensures.commands;
    }
