use Rattle.std.proofs.Common.{◌≡◌, ◌∙◌, ◌+◌, ap, drop, length, subst, sym}
use Rattle.tg_shared.specs.Sessions.{AreSharedOut, count_of, held_from}
use Rattle.tg_shared.proofs.Sharing.{shared_out, whole_held}
use Rattle.tg_shared.proofs.laws.a_whole_round_is_shared_out.Goals as goal

pub returns : goal.returns
returns c = λ start s sessions stays may count.
    let held : held_from start s ≡ length start.entries = whole_held start s stays.gone_on stays.whole in
    subst (λ n. AreSharedOut (drop n s.entries) sessions) held (shared_out s.entries (held_from start s) sessions may (count ∙ ap (λ n. n + count_of sessions) (sym held)))
