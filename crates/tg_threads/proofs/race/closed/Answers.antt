use Rattle.std.proofs.Common.{◌≡◌, ◌∙◌, ◌++◌, ℕ, List, ap, drop, length, refl, subst, sym}
use Rattle.std.proofs.lemmas.List.{take-append-drop}
use Rattle.tg_journal.specs.declared.entry.Entry.{Entry}
use Rattle.tg_shared.specs.Sessions.{MayClose, SessionState, held_from}
use Rattle.tg_threads.proofs.RaceLaws.{seen_fronts, unclosed}
use Rattle.tg_threads.proofs.race.closed.Goals as goal

pub returns-in-Ok : goal.returns-in-Ok
returns-in-Ok g c =
    let items : List SessionState = c.args.sessions.items in
    let entries : List Entry = c.in-Ok.store.entries in
    let start = g.L.Round.start in
    let first : ℕ = length start.entries in
    let gone = c.in-Ok.ensures.back.gone_on in
    let shares = c.in-Ok.ensures.shared_out c.requires.shared.none_ended in
    let from : held_from start c.in-Ok.store ≡ first = shares.none_handed c.requires.none_handed in
    record {
      closed = record {
        opening = gone.opening;
        grown = sym (take-append-drop first entries) ∙ ap (λ (front : List Entry). front ++ drop first entries) gone.earlier;
        matching = subst (λ (n : ℕ). MayClose entries n items) from c.in-Ok.ensures.back.matching;
        shared_out = shares.whole c.requires.shared.whole;
        seen = seen_fronts start c.in-Ok.store items c.in-Ok.ensures.signed.0 c.in-Ok.ensures.signed.1;
        handed = (gone.whole c.requires.shared.whole, gone.within);
        faithful = c.in-Ok.ensures.back.faithful;
      };
      due = tt;
    }

pub returns-in-Err-clause-due : goal.returns-in-Err-clause-due
returns-in-Err-clause-due g c = (refl, unclosed c.in-Err.refused.why c.in-Err.ensures.closes.missing c.in-Err.ensures.closes.mismatch)
