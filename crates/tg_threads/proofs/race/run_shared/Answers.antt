use Rattle.std.proofs.Common.{ap, arith, length, ◌∙◌, sym, subst, List}
use Rattle.std.specs.List.{All}
use Rattle.std.proofs.lemmas.Result.{IfErr-weaker, IfOk-weaker}
use Rattle.tg_shared.specs.Sessions.{AreSharedOut, MayClose, SessionState, handed_of, since, subjects_at}
use Rattle.tg_threads.specs.Boxes.{boxed}
use Rattle.tg_threads.specs.Race.{IsBeforeWriting}
use Rattle.tg_threads.specs.Output.{arena_of}
use Rattle.tg_threads.specs.Tasks.{AreRaced}
use Rattle.tg_threads.specs.declared.task.Told.{Told}
use Rattle.tg_threads.proofs.WeaveLaws.{HasSeenFront, brought_none_handed, raced}
use Rattle.tg_threads.proofs.race.run_shared.Goals as goal

pub close_ran-requires : goal.close_ran-requires
close_ran-requires g c =
    let ran = c.in-Ok.ensures.ran in
    record {
      shared = c.requires.whole;
      none_handed = ap handed_of ran.sessions ∙ brought_none_handed g.L.Round.start c.args.helpers (subjects_at g.L.Round.start) (boxed c.args.stock.items c.args.lines.now) ran.finished ran.each;
    }

pub returns-in-Ok : goal.returns-in-Ok
returns-in-Ok g c =
    let start = g.L.Round.start in
    let names = subjects_at start in
    let lines = c.args.lines.now in
    let stock = c.args.stock.items in
    let ran = c.in-Ok.ensures.ran in
    let ts = c.in-Ok.ran.told.items in
    record {
      run = record {
        raced = IfOk-weaker c.close_ran.result _ _
            (λ closed is.
            let entries = closed.store.entries in
            let grown = since start closed.store in
            let closes : List SessionState → Type 0 = λ ss. MayClose entries (length start.entries) ss in
            let seen : List SessionState → Type 0 = λ ss. All (HasSeenFront grown) ss in
            let shared : List SessionState → Type 0 = λ ss. AreSharedOut grown ss in
            let told : List Told → Type 0 = λ (xs : List Told). AreRaced (arena_of start c.args.helpers grown) names (boxed stock lines) entries xs in
            record {
              opening = is.0.opening;
              grown = is.0.grown;
              handed = is.0.handed;
              faithful = is.0.faithful;
              told = subst told (sym is.1)
                  (raced start c.args.helpers names stock lines ran.finished ts entries grown (record {
                    some = omega (arith, c.requires.raceable.some);
                    commands = c.requires.raceable.commands;
                    within = is.0.handed.1;
                    bring = ran.each;
                    order = ran.order;
                    seen = subst seen ran.sessions is.0.seen;
                    closes = subst closes ran.sessions is.0.matching;
                    shared_out = subst shared ran.sessions is.0.shared_out;
                  }));
            })
            c.close_ran.ensures.closed;
        fault = IfErr-weaker c.close_ran.result _ IsBeforeWriting (λ fault is. subst IsBeforeWriting (sym is) tt) c.close_ran.ensures.fault;
      };
    }
