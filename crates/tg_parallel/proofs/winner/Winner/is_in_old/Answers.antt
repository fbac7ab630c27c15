use Rattle.std.proofs.Common.{◌≡◌, ◌%◌, ◌==◌, ℕ, List, get_or, map, ap, ◌∙◌}
use Rattle.tg_race.specs.Seats.{Seated}
use Rattle.tg_parallel.specs.Parts.{note_of}
use Rattle.tg_parallel.proofs.Notes.{note_space}
use Rattle.tg_parallel.proofs.winner.Winner.is_in_old.Goals as goal

pub returns : goal.returns
returns c =
    let x = c.index.result.now in
    let items : c.self.inside.won.items ≡ map note_of c.args.self.now.done.won = c.self.invariant.0 ∙ ap (λ (s : Seated). map note_of s.done.won) c.self.view_is in
    let at : x ≡ get_or (map note_of c.args.self.now.done.won) c.args.k x = c.index.ensures ∙ ap (λ (l : List ℕ). get_or l c.args.k x) items in
    ap (λ (n : ℕ). n == 0) (ap (λ (n : ℕ). n % 2) at ∙ note_space c.args.self.now.done.won c.requires.places c.args.k x c.requires.low)
