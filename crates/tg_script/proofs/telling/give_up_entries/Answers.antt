use Rattle.std.proofs.Common.{◌≡◌, ◌∙◌, ℕ, ap, arith, length, subst}
use Rattle.tg_store.specs.Store.{HoldsFrom}
use Rattle.tg_script.proofs.telling.give_up_entries.Goals as goal

pub forget-requires : goal.forget-requires
forget-requires g c =
    let all : c.len-made.result ≡ length c.args.store.now.entries = c.len-made.ensures ∙ ap (λ es. length es) c.journal.ensures.entries in
    let within = c.journal.ensures.within in
    (omega (arith, all, within), omega (arith, all))

pub returns : goal.returns
returns g c =
    let all : c.len-made.result ≡ length c.args.store.now.entries = c.len-made.ensures ∙ ap (λ es. length es) c.journal.ensures.entries in
    subst (λ (n : ℕ). HoldsFrom n c.args.store.now c.forget.new.self) all c.forget.ensures
