use Rattle.std.proofs.Common.{◌≡◌, ◌∙◌, sym, refl, rules, ℕ, count_by, Bool, if◌then◌else◌}
use Rattle.std.proofs.lemmas.List.Recursion.{is_sum_by}
use Rattle.tg_word.specs.declared.Place.{Place}
use Rattle.tg_race.specs.Weights.{weigh}
use Rattle.tg_race.specs.Words.{lies_in}
use Rattle.tg_race.proofs.record.Record.used_in.Goals as goal

pub returns : goal.returns
returns c =
    let test : ℕ × Place → Bool = λ q. lies_in c.args.space c.args.block q.1 in
    let counted : c.count.result ≡ count_by test c.args.self.now.won = search rules in
    counted ∙ sym (is_sum_by (weigh (λ q. if test q then 1 else 0)) (λ q. if test q then 1 else 0) refl (λ _ _. refl) c.args.self.now.won)
