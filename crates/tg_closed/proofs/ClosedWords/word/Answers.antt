use Rattle.std.proofs.Common.{◌≡◌, ◌∙◌, ◌+◌, ℕ, zero, suc, List, [], ◌∷◌, get_or, sym, ap}
use Rattle.std.proofs.lemmas.List.{get_or-drop}
use Rattle.std.specs.Slots.{slots_items}
use lib.ListN.{get_elem?}
use mathlib.Core.Option.{some, some-injective, some-ne-none}
use Rattle.tg_closed.proofs.ClosedWords.word.Goals as goal

found_at : (l : List ℕ) (i a : ℕ) → get_elem? l i ≡ some a → get_or l i 0 ≡ a
found_at [] i a e = absurd (some-ne-none a (sym e))
found_at (x ∷ xs) zero a e = some-injective x a e
found_at (x ∷ xs) (suc i) a e = found_at xs i a e

pub returns : goal.returns
returns c =
    let items = slots_items c.self.inside.closed.words in
    sym (found_at items (c.self.inside.front + c.args.number) c.word.result c.word.ensures)
    ∙ (sym (get_or-drop c.self.inside.front items c.args.number 0) ∙ ap (λ (l : List ℕ). get_or l c.args.number 0) c.self.view_is)
