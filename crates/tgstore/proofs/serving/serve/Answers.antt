use Rattle.std.proofs.Common.{◌∙◌, ap, refl, ◌+◌}
use Rattle.tgstore.specs.declared.stop.Stop.TheVariants as stop
use Rattle.tgstore.proofs.ServingLaws.{is_told, may_start, not_begun, raced_from, ran_from, read_race, read_run, served_none, served_race, served_run, status_told, unfailed_told, wanting, wanting_read, wanting_status, wanting_unfailed, wanting_write, write_race, write_run}
use Rattle.tgstore.proofs.StrictLaws.{no_race_seen, seen_run}
use Rattle.tgstore.proofs.serving.serve.Goals as goal

pub race-requires-clause-startable : goal.race-requires-clause-startable
race-requires-clause-startable g c = λ lifetimes outlive. may_start c.args.parts.start.now c.in_ok-workers.workers.items c.requires.servable.ready (c.in_ok-workers.ensures ∙ c.requires.payloads.0)

pub run_script_watched-requires : goal.run_script_watched-requires
run_script_watched-requires g c = record {
  runnable = record {
    ready = c.requires.servable.collector;
    startable = may_start c.args.parts.start.now c.in_ok-workers.workers.items c.requires.servable.ready (c.in_ok-workers.ensures ∙ c.requires.payloads.0);
  };
}

pub returns-in_err-workers : goal.returns-in_err-workers
returns-in_err-workers g c =
    let is = wanting c.from_residual.result c.from_residual.ensures.1 in
    record {
      served = record {
        status = wanting_status c.from_residual.result is;
        output = λ bytes before left taken. (bytes, left, served_none c.args.parts.start.now bytes before c.from_residual.result bytes _ is refl taken);
      };
      read_failed = wanting_read c.from_residual.result _ is;
      write_failed = wanting_write c.from_residual.result _ is;
      unfailed = wanting_unfailed c.from_residual.result _ is;
      finished = λ begun. absurd (not_begun c.from_residual.result is begun);
      seen = wanting_unfailed c.from_residual.result _ is;
    }

pub returns-then-start : goal.returns-then-start
returns-then-start g c =
    let is = is_told stop.Race c.race.result c.map_err.result c.map_err.ensures.cases in
    record {
      served = record {
        status = status_told stop.Race c.race.result c.map_err.result is (λ fault. refl);
        output = λ bytes before left taken.
            let had = c.race.ensures.raced.output bytes before left taken in (
              had.0,
              had.1,
              served_race c.args.parts.start.now bytes before c.race.result c.map_err.result had.0 (g.K.Sink.taken c.race.new.sink) is c.if-start.true
                  (raced_from c.args.parts.start.now c.in_ok-workers.workers.items c.args.parts.stock.items bytes before c.race.result had.0 (g.K.Sink.taken c.race.new.sink)
                  (c.in_ok-workers.ensures ∙ c.requires.payloads.0) c.requires.payloads.1 had.2),
            );
      };
      read_failed = c.race.ensures.raced.read_failed ∙ ap (λ n. g.S.Source.failures c.args.source.now + n) (read_race c.race.result c.map_err.result is);
      write_failed = write_race c.race.result c.map_err.result _ _ is c.race.ensures.finish.write_failed;
      unfailed = unfailed_told stop.Race c.race.result c.map_err.result _ is c.race.ensures.finish.unfailed;
      finished = λ begun. c.race.ensures.finish.finished;
      seen = no_race_seen (g.S.Source.left c.args.source.now) (g.S.Source.left c.race.new.source) (g.K.Sink.taken c.args.sink.now) (g.K.Sink.taken c.race.new.sink) (g.W.Watch.refused c.args.watch.now) (g.W.Watch.refused c.args.watch.now) c.args.parts.start.now c.map_err.result c.if-start.true;
    }

pub returns : goal.returns
returns g c =
    let is = is_told stop.Script c.run_script_watched.result c.map_err-2.result c.map_err-2.ensures.cases in
    record {
      served = record {
        status = status_told stop.Script c.run_script_watched.result c.map_err-2.result is (λ fault. refl);
        output = λ bytes before left taken.
            let had = c.run_script_watched.ensures.ran.output bytes before left taken in (
              had.0,
              had.1,
              served_run c.args.parts.start.now bytes before c.run_script_watched.result c.map_err-2.result had.0 (g.K.Sink.taken c.run_script_watched.new.sink) is c.if-start.false
                  (ran_from c.args.parts.start.now c.in_ok-workers.workers.items c.args.parts.stock.items bytes before c.run_script_watched.result had.0 (g.K.Sink.taken c.run_script_watched.new.sink)
                  (c.in_ok-workers.ensures ∙ c.requires.payloads.0) c.requires.payloads.1 had.2),
            );
      };
      read_failed = c.run_script_watched.ensures.ran.read_failed ∙ ap (λ n. g.S.Source.failures c.args.source.now + n) (read_run c.run_script_watched.result c.map_err-2.result is);
      write_failed = write_run c.run_script_watched.result c.map_err-2.result _ _ is c.run_script_watched.ensures.finish.write_failed;
      unfailed = unfailed_told stop.Script c.run_script_watched.result c.map_err-2.result _ is c.run_script_watched.ensures.finish.unfailed;
      finished = λ begun. c.run_script_watched.ensures.finish.finished;
      seen = unfailed_told stop.Script c.run_script_watched.result c.map_err-2.result _ is
          (seen_run (g.S.Source.left c.args.source.now) (g.S.Source.left c.run_script_watched.new.source) (g.K.Sink.taken c.args.sink.now) (g.K.Sink.taken c.run_script_watched.new.sink) (g.W.Watch.refused c.args.watch.now) (g.W.Watch.refused c.run_script_watched.new.watch) c.args.parts.start.now c.in_ok-workers.workers.items c.args.parts.stock.items c.run_script_watched.result
          (c.in_ok-workers.ensures ∙ c.requires.payloads.0) c.requires.payloads.1 c.run_script_watched.ensures.seen);
    }
