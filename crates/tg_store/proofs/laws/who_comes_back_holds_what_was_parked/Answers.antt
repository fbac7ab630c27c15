use Rattle.std.proofs.Common.{◌∙◌, ℕ, ap}
use Rattle.tg_store.proofs.ParkGraph.{parked_account, parked_others}
use Rattle.tg_store.proofs.UnparkGraph.{unparked_others, unparked_user}
use Rattle.tg_store.proofs.laws.who_comes_back_holds_what_was_parked.Goals as goal

pub returns-clause-user : goal.returns-clause-user
returns-clause-user c = λ g h p q apart same kept y. unparked_user h q y ∙ ap (λ (a : ℕ). h.label a y) same ∙ kept y ∙ parked_account g p y apart

pub returns-clause-others : goal.returns-clause-others
returns-clause-others c = λ g h p q x y from_account from_user other elsewhere kept.
    unparked_others h q x y other elsewhere ∙ kept ∙ parked_others g p x y from_account from_user
